-- How rivals are noted.
use Rattle.std.proofs.Common.{◌≡◌, ◌⊎◌, ◌↔◌, ℕ, zero, suc, ◌+◌, ◌-◌, ◌<◌, ◌≤◌, Bool, true, false, cond, ◌||◌, eqb, List, [], ◌∷◌, ◌++◌, length, get_or, drop, take, nat_eq, refl, sym, ap, subst, ◌∙◌, inl, inr, arith}
use Rattle.std.specs.List.{Contains, IsDistinct, filter, list_any}
use Rattle.std.proofs.Math.Seq.{drop-cons}
use Rattle.std.proofs.lemmas.Bool.{cases_Bool, eqb-true, false≢true}
use Rattle.std.proofs.lemmas.Cmp.{nat_eq_equiv}
use Rattle.std.proofs.lemmas.List.{take_all, take_more}
use Rattle.std.proofs.lemmas.List.Elements.{Contains-append_cases, Contains-append_left, Contains-append_right, filter-append}
use Rattle.std.proofs.lemmas.Map.Keys.{IsDistinct-push}
use Rattle.wx_base.specs.declared.machine.Shape.{Shape}
use Rattle.wx_base.specs.CacheStates.{is_rival}
use Rattle.cache_ages.specs.Bounds.{is_one_of}
use Rattle.cache_kept.specs.Newer.{since, newer}
use Rattle.cache_kept.proofs.Along.{since_at, since_none}
use Rattle.cache_kept.proofs.Lists.{none_there, there_too, flip}

-- ---- from the last access on

drop_end : (xs : List ℕ) (n : ℕ) → length xs ≤ n → drop n xs ≡ []
drop_end [] zero h = refl
drop_end [] (suc n) h = refl
drop_end (x ∷ xs) zero h = absurd (omega arith)
drop_end (x ∷ xs) (suc n) h = drop_end xs n (omega arith)

pub none_behind : (accesses : List ℕ) (line : ℕ) → is_one_of (drop (length accesses - 0) accesses) line ≡ false
none_behind accesses line = ap (λ (xs : List ℕ). is_one_of xs line) (drop_end accesses (length accesses - 0) (omega arith))

unlike : (a b : ℕ) → (a ≡ b → ⊥) → eqb a b ≡ false
unlike a b n = elim (cases_Bool (eqb a b)) [ inl e ↦ absurd (n (eqb-true a b e)) | inr e ↦ e ]

pub one_less : (accesses : List ℕ) (line i : ℕ) → i < length accesses → (get_or accesses (length accesses - i - 1) 0 ≡ line → ⊥)
    → is_one_of (drop (length accesses - i) accesses) line ≡ false → is_one_of (drop (length accesses - (i + 1)) accesses) line ≡ false
one_less accesses line i h other none =
    let k : ℕ = length accesses - i - 1 in
    let before : length accesses - (i + 1) ≡ k = omega arith in
    let behind : length accesses - i ≡ suc k = omega (arith, h) in
    let split : drop k accesses ≡ get_or accesses k 0 ∷ drop (suc k) accesses = drop-cons accesses k 0 (omega (arith, h)) in
    ap (λ (n : ℕ). is_one_of (drop n accesses) line) before ∙ ap (λ (xs : List ℕ). is_one_of xs line) split
    ∙ ap (λ (b : Bool). b || is_one_of (drop (suc k) accesses) line) (unlike (get_or accesses k 0) line other) ∙ ap (λ (n : ℕ). is_one_of (drop n accesses) line) (sym behind) ∙ none

pub start_here : (accesses : List ℕ) (line i : ℕ) → i < length accesses → get_or accesses (length accesses - i - 1) 0 ≡ line
    → is_one_of (drop (length accesses - i) accesses) line ≡ false → drop (length accesses - i) accesses ≡ since line accesses
start_here accesses line i h here none =
    let k : ℕ = length accesses - i - 1 in
    let behind : length accesses - i ≡ suc k = omega (arith, h) in
    ap (λ (n : ℕ). drop n accesses) behind
    ∙ sym (since_at line accesses k (omega (arith, h)) here (ap (λ (n : ℕ). is_one_of (drop n accesses) line) (sym behind) ∙ none))

pub start_first : (accesses : List ℕ) (line i : ℕ) → length accesses ≤ i → is_one_of (drop (length accesses - i) accesses) line ≡ false → accesses ≡ since line accesses
start_first accesses line i end none =
    let zero_is : length accesses - i ≡ 0 = omega (arith, end) in
    sym (since_none line accesses (ap (λ (n : ℕ). is_one_of (drop n accesses) line) (sym zero_is) ∙ none))

-- ---- rivals, each once

absent : (found : List ℕ) (other : ℕ) → is_one_of found other ≡ false → list_any (nat_eq other) found ≡ false
absent [] other e = refl
absent (x ∷ found) other e = at (eqb x other) refl (λ k. absent found other k)
  where
    at : (b : Bool) → eqb x other ≡ b → (is_one_of found other ≡ false → list_any (nat_eq other) found ≡ false) → list_any (nat_eq other) (x ∷ found) ≡ false
    at true h again = absurd (false≢true (sym e ∙ ap (λ (b : Bool). b || is_one_of found other) h))
    at false h again = ap (λ (b : Bool). b || list_any (nat_eq other) found) (flip other x ∙ h) ∙ again (sym (ap (λ (b : Bool). b || is_one_of found other) h) ∙ e)

pub rival_distinct : (found after : List ℕ) (other : ℕ) → after ≡ found ++ other ∷ [] → is_one_of found other ≡ false → IsDistinct nat_eq found → IsDistinct nat_eq after
rival_distinct found after other is none apart = subst (IsDistinct nat_eq) (sym is) (IsDistinct-push nat_eq_equiv found other apart (absent found other none))

pub rival_added : (found after : List ℕ) (test : ℕ → Bool) (other : ℕ) → after ≡ found ++ other ∷ [] → test other ≡ true
    → (rival : ℕ) → Contains after rival ↔ (Contains found rival ⊎ Contains (filter test (other ∷ [])) rival)
rival_added found after test other is passes rival =
    let one : filter test (other ∷ []) ≡ other ∷ [] = ap (λ (b : Bool). cond b (other ∷ []) []) passes in (
      λ c. elim (Contains-append_cases found (other ∷ []) rival (there_too after (found ++ other ∷ []) rival is c)) [
        | inl old ↦ inl old
        | inr new ↦ inr (there_too (other ∷ []) (filter test (other ∷ [])) rival (sym one) new)
      ],
      λ e. there_too (found ++ other ∷ []) after rival (sym is) (elim e [
        | inl old ↦ Contains-append_left found (other ∷ []) rival old
        | inr new ↦ Contains-append_right found (other ∷ []) rival (there_too (filter test (other ∷ [])) (other ∷ []) rival one new)
      ]),
    )

pub rival_none : (found : List ℕ) (test : ℕ → Bool) (other : ℕ) → test other ≡ false → (rival : ℕ) → Contains found rival ↔ (Contains found rival ⊎ Contains (filter test (other ∷ [])) rival)
rival_none found test other fails rival =
    let none : filter test (other ∷ []) ≡ [] = ap (λ (b : Bool). cond b (other ∷ []) []) fails in
    (λ c. inl c, λ e. elim e [ inl old ↦ old | inr new ↦ absurd (none_there rival (there_too (filter test (other ∷ [])) [] rival none new)) ])

pub rival_there : (found : List ℕ) (test : ℕ → Bool) (other : ℕ) → Contains found other → (rival : ℕ) → Contains found rival ↔ (Contains found rival ⊎ Contains (filter test (other ∷ [])) rival)
rival_there found test other there rival = (λ c. inl c, λ e. elim e [ inl old ↦ old | inr new ↦ at (test other) refl new ])
  where
    at : (b : Bool) → test other ≡ b → Contains (filter test (other ∷ [])) rival → Contains found rival
    at true e new = subst (λ (x : ℕ). Contains found x) (one (there_too (filter test (other ∷ [])) (other ∷ []) rival (ap (λ (b : Bool). cond b (other ∷ []) []) e) new)) there
      where
        one : Contains (other ∷ []) rival → other ≡ rival
        one c = let z : c.0 ≡ 0 = omega (arith, c.1) in subst (λ (k : ℕ). get_or (other ∷ []) k rival ≡ rival) z c.2
    at false e new = absurd (none_there rival (there_too (filter test (other ∷ [])) [] rival (ap (λ (b : Bool). cond b (other ∷ []) []) e) new))

-- the rivals among the first so many lines
pub record RivalsSoFar (test : ℕ → Bool) (others : List ℕ) (i : ℕ) (old new : List ℕ) : Type 0 where
  pub distinct : IsDistinct nat_eq new
  pub exact : (rival : ℕ) → Contains new rival ↔ (Contains old rival ⊎ Contains (filter test (take i others)) rival)

pub rivals_begin : (test : ℕ → Bool) (others old : List ℕ) → IsDistinct nat_eq old → RivalsSoFar test others 0 old old
rivals_begin test others old apart = record {
  distinct = apart;
  exact = λ rival. (λ c. inl c, λ e. elim e [ inl c ↦ c | inr none ↦ absurd (none_there rival none) ]);
}

pub rivals_more : (test : ℕ → Bool) (others : List ℕ) (i : ℕ) (old cur new : List ℕ) → i < length others → IsDistinct nat_eq new
    → ((rival : ℕ) → Contains new rival ↔ (Contains cur rival ⊎ Contains (filter test (get_or others i 0 ∷ [])) rival))
    → RivalsSoFar test others i old cur → RivalsSoFar test others (i + 1) old new
rivals_more test others i old cur new h apart exact so =
    let all : filter test (take (i + 1) others) ≡ filter test (take i others) ++ filter test (get_or others i 0 ∷ []) =
    ap (filter test) (take_more others i 0 h) ∙ filter-append test (take i others) (get_or others i 0 ∷ []) in
    record {
      distinct = apart;
      exact = λ rival. (
        λ c. elim ((exact rival).0 c) [
          | inl before ↦ elim ((so.exact rival).0 before) [
            | inl o ↦ inl o
            | inr t ↦ inr (there_too (filter test (take i others) ++ filter test (get_or others i 0 ∷ [])) (filter test (take (i + 1) others)) rival (sym all)
                (Contains-append_left (filter test (take i others)) (filter test (get_or others i 0 ∷ [])) rival t))
          ]
          | inr now ↦ inr (there_too (filter test (take i others) ++ filter test (get_or others i 0 ∷ [])) (filter test (take (i + 1) others)) rival (sym all)
              (Contains-append_right (filter test (take i others)) (filter test (get_or others i 0 ∷ [])) rival now))
        ],
        λ e. (exact rival).1 (elim e [
          | inl o ↦ inl ((so.exact rival).1 (inl o))
          | inr t ↦ elim (Contains-append_cases (filter test (take i others)) (filter test (get_or others i 0 ∷ [])) rival
              (there_too (filter test (take (i + 1) others)) (filter test (take i others) ++ filter test (get_or others i 0 ∷ [])) rival all t)) [
                | inl before ↦ inl ((so.exact rival).1 (inr before))
                | inr now ↦ inr now
              ]
        ]),
      );
    }

pub rivals_all : (test : ℕ → Bool) (others : List ℕ) (i : ℕ) (old new : List ℕ) → length others ≤ i → RivalsSoFar test others i old new
    → (rival : ℕ) → Contains new rival ↔ (Contains old rival ⊎ Contains (filter test others) rival)
rivals_all test others i old new end so rival =
    subst (λ (xs : List ℕ). Contains new rival ↔ (Contains old rival ⊎ Contains (filter test xs) rival)) (take_all i others end) (so.exact rival)

-- ---- what accesses add

pub newer_none : (shape : Shape) (line : ℕ) (known : Bool) (accesses found : List ℕ) → (known || is_one_of accesses line) ≡ false
    → (rival : ℕ) → Contains found rival ↔ (Contains found rival ⊎ Contains (newer shape line known accesses) rival)
newer_none shape line known accesses found unknown rival =
    let none : newer shape line known accesses ≡ [] = ap (λ (b : Bool). cond b (filter (is_rival shape line) (since line accesses)) []) unknown in
    (λ c. inl c, λ e. elim e [ inl old ↦ old | inr new ↦ absurd (none_there rival (there_too (newer shape line known accesses) [] rival none new)) ])

pub newer_some : (shape : Shape) (line : ℕ) (known : Bool) (accesses given old new : List ℕ) → (known || is_one_of accesses line) ≡ true → given ≡ since line accesses
    → ((rival : ℕ) → Contains new rival ↔ (Contains old rival ⊎ Contains (filter (is_rival shape line) given) rival))
    → (rival : ℕ) → Contains new rival ↔ (Contains old rival ⊎ Contains (newer shape line known accesses) rival)
newer_some shape line known accesses given old new some is exact rival =
    subst (λ (xs : List ℕ). Contains new rival ↔ (Contains old rival ⊎ Contains xs rival))
    (ap (filter (is_rival shape line)) is ∙ sym (ap (λ (b : Bool). cond b (filter (is_rival shape line) (since line accesses)) []) some)) (exact rival)
