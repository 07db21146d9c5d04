-- Marks at places of ascending addresses.
use Rattle.std.proofs.Common.{◌≡◌, ◌<◌, ◌≤◌, ◌⊎◌, ⊎_elim, inl, inr, ℕ, ◌++◌, Bool, true, false, List, [], ◌∷◌, length, get_or, set, refl, sym, ap, ◌∙◌, subst, arith, Contains, Result, Ok, Err, MatchResult, get_or-set_same, get_or-set_other, length-set}
use Rattle.std.proofs.lemmas.Bool.{cases_lt, cases_eq, cases_order}
use Rattle.std.proofs.lemmas.List.Elements.{Contains-push, Contains-push_cases, Contains-append_left}
use Rattle.std.specs.Result.{result_ok}
use Rattle.std.proofs.lemmas.List.Sorted.{searched}
use Rattle.std.specs.List.Sorted.{IsBinarySearchResult}
use Rattle.std.specs.Ordering.{nat_cmp}
use Rattle.wx_base.specs.Facts.{AreAscending}
use Rattle.flow_block.specs.Code.{IsPlace, Found, is_marked, AreMarked}

-- in ascending order no address has two places
pub same_place : (addresses : List ℕ) (a b p q : ℕ) → AreAscending addresses → IsPlace addresses a p → IsPlace addresses b q → a ≡ b → p ≡ q
same_place addresses a b p q asc h k e = ⊎_elim (λ same. same)
    (⊎_elim (λ l. absurd (omega (arith, h.stands, k.stands, asc p q 0 l k.within))) (λ l. absurd (omega (arith, h.stands, k.stands, asc q p 0 l h.within))))
    (cases_order p q)

pub rises : (addresses : List ℕ) → AreAscending addresses → (i j : ℕ) → i ≤ j → j < length addresses → get_or addresses i 0 ≤ get_or addresses j 0
rises addresses asc i j h l = ⊎_elim (λ e. omega (arith, ap (λ n. get_or addresses n 0) e))
    (⊎_elim (λ k. omega (arith, asc i j 0 k l)) (λ k. absurd (omega arith)))
    (cases_order i j)

found_by : (addresses : List ℕ) (a : ℕ) (r : Result ℕ ℕ) → MatchResult r (λ i. (i < length addresses) × (get_or addresses i 0 ≡ a)) (λ i. (i ≤ length addresses) × ((k : ℕ) → k < i → get_or addresses k 0 < a) × ((k : ℕ) → i ≤ k → k < length addresses → a < get_or addresses k 0)) → Found addresses a (result_ok r)
found_by addresses a (Ok i) h = record { within = h.0; stands = h.1 }
found_by addresses a (Err i) h = λ k at.
    ⊎_elim (λ l. let below : get_or addresses k 0 < a = h.1 k l in omega (arith, at.stands)) (λ l. let above : a < get_or addresses k 0 = h.2 k l at.within in omega (arith, at.stands)) (cases_lt k i)

-- what a binary search finds
pub found : (addresses : List ℕ) (a : ℕ) (r : Result ℕ ℕ) → AreAscending addresses → IsBinarySearchResult (λ y. nat_cmp y a) addresses r → Found addresses a (result_ok r)
found addresses a r asc h = found_by addresses a r (searched addresses a r h (rises addresses asc))

pub set_here : (marks : List Bool) (p q : ℕ) → p < length marks → q ≡ p → is_marked (set marks p true) q ≡ true
set_here marks p q l e = ap (λ n. is_marked (set marks p true) n) e ∙ get_or-set_same marks p true false l

pub set_keeps : (marks : List Bool) (p q : ℕ) → p < length marks → is_marked marks q ≡ true → is_marked (set marks p true) q ≡ true
set_keeps marks p q l h = ⊎_elim (λ e. set_here marks p q l e) (λ n. get_or-set_other marks p q true false n ∙ h) (cases_eq q p)

pub set_only : (marks : List Bool) (p q : ℕ) → is_marked (set marks p true) q ≡ true → (is_marked marks q ≡ true) ⊎ (q ≡ p)
set_only marks p q h = ⊎_elim (λ e. inr e) (λ n. inl (sym (get_or-set_other marks p q true false n) ∙ h)) (cases_eq q p)

-- nothing is marked at no address
pub none_marked : (addresses : List ℕ) (body before : List Bool) → AreMarked addresses body before before []
none_marked addresses body before = record {
  long = refl;
  kept = λ place h. h;
  sound = λ place h. inl h;
  put = λ address place h. absurd (omega (arith, h.1));
}

SoundAt : List ℕ → List Bool → List Bool → List ℕ → ℕ → Type 0
SoundAt addresses body before list place = (is_marked before place ≡ true) ⊎ ((is_marked body place ≡ true) × Contains list (get_or addresses place 0))

more_sound : (addresses : List ℕ) (body before : List Bool) (list : List ℕ) (a place : ℕ) → SoundAt addresses body before list place → SoundAt addresses body before (list ++ a ∷ []) place
unfolding SoundAt
more_sound addresses body before list a place h = ⊎_elim (λ k. inl k) (λ k. inr (k.0, Contains-append_left list (a ∷ []) (get_or addresses place 0) k.1)) h

-- an address where no instruction of the function stands
pub skipped : (addresses : List ℕ) (body before after : List Bool) (list : List ℕ) (a : ℕ) → AreMarked addresses body before after list → ((place : ℕ) → IsPlace addresses a place → is_marked body place ≡ true → ⊥) → AreMarked addresses body before after (list ++ a ∷ [])
unfolding SoundAt
skipped addresses body before after list a h none = record {
  long = h.long;
  kept = h.kept;
  sound = λ place m. more_sound addresses body before list a place (h.sound place m);
  put = λ address place c p b. ⊎_elim (λ k. h.put address place k p b) (λ e. absurd (none place (record { within = p.within; stands = p.stands ∙ sym e }) b)) (Contains-push_cases list a address c);
}

-- an address where one stands
pub put_one : (addresses : List ℕ) (body before after : List Bool) (list : List ℕ) (a p : ℕ) → AreAscending addresses → length before ≡ length addresses → AreMarked addresses body before after list → IsPlace addresses a p → is_marked body p ≡ true → AreMarked addresses body before (set after p true) (list ++ a ∷ [])
unfolding SoundAt
put_one addresses body before after list a p asc each h at own =
    let l : p < length after = omega (arith, h.long, each, at.within) in
    record {
      long = length-set after p true ∙ h.long;
      kept = λ place m. set_keeps after p place l (h.kept place m);
      sound = λ place m. ⊎_elim
          (λ k. more_sound addresses body before list a place (h.sound place k))
          (λ e. inr (ap (λ n. is_marked body n) e ∙ own, subst (λ (x : ℕ). Contains (list ++ a ∷ []) x) (sym at.stands ∙ ap (λ n. get_or addresses n 0) (sym e)) (Contains-push list a)))
          (set_only after p place m);
      put = λ address place c q b. ⊎_elim
          (λ k. set_keeps after p place l (h.put address place k q b))
          (λ e. set_here after p place l (same_place addresses address a place p asc q at (sym e)))
          (Contains-push_cases list a address c);
    }

-- marks and addresses, by other names
pub moved : (addresses : List ℕ) (body before : List Bool) {after marks : List Bool} {list more : List ℕ} → marks ≡ after → more ≡ list → AreMarked addresses body before after list → AreMarked addresses body before marks more
moved addresses body before {after} {marks} {list} {more} e f h =
    subst (λ (x : List Bool). AreMarked addresses body before x more) (sym e) (subst (λ (x : List ℕ). AreMarked addresses body before after x) (sym f) h)
