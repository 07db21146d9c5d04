-- The lines of nodes are put into a set.
use Rattle.std.proofs.Common.{◌≡◌, ℕ, zero, suc, ◌+◌, ◌<◌, ◌≤◌, ◌⊎◌, ◌↔◌, List, [], ◌∷◌, ◌++◌, length, get_or, take, sym, ap, ◌∙◌, subst, inl, inr, arith}
use Rattle.std.specs.List.{Any, Contains}
use Rattle.std.proofs.lemmas.List.{get_or_default, take_more, take_all}
use Rattle.std.proofs.lemmas.List.Elements.{Contains-append_cases, Contains-append_left, Contains-push}
use Rattle.std.proofs.lemmas.List.Quantifiers.{Any-push}
use Rattle.std.proofs.lemmas.Map.Keys.{below_from_sorted}
use Rattle.std.specs.List.Sorted.{IsStrictlySortedBy}
use Rattle.std.specs.Ordering.{nat_cmp}
use Rattle.wx_base.specs.Facts.{AreAscending}

-- the first so many of some lines were put in
pub record LinesSoFar (others : List ℕ) (i : ℕ) (old new : List ℕ) : Type 0 where
  pub exact : (line : ℕ) → Contains new line ↔ (Contains old line ⊎ Contains (take i others) line)

none_in : {X : Type 0} (x : X) → Contains [] x → ⊥
none_in x c = omega (arith, c.1)

pub lines_none : (others old : List ℕ) → LinesSoFar others 0 old old
lines_none others old = record {
  exact = λ line. (λ c. inl c, λ e. elim e [ inl c ↦ c | inr c ↦ absurd (none_in line c) ]);
}

one_in : {X : Type 0} (x y : X) → Contains (x ∷ []) y → y ≡ x
one_in x y c = one c.0 c.1 c.2
  where
    one : (k : ℕ) → k < 1 → get_or (x ∷ []) k y ≡ y → y ≡ x
    one k h e = let z : k ≡ 0 = omega arith in sym (rw z at e)

pub lines_more : (others old cur new : List ℕ) (i : ℕ) → i < length others
    → ((line : ℕ) → Contains new line ↔ (Contains cur line ⊎ (line ≡ get_or others i 0)))
    → LinesSoFar others i old cur → LinesSoFar others (i + 1) old new
lines_more others old cur new i h exact so =
    let all : take (i + 1) others ≡ take i others ++ get_or others i 0 ∷ [] = take_more others i 0 h in
    record {
      exact = λ line. (
        λ c. elim ((exact line).0 c) [
          | inl k ↦ elim ((so.exact line).0 k) [
            | inl o ↦ inl o
            | inr t ↦ inr (subst (λ (xs : List ℕ). Contains xs line) (sym all) (Contains-append_left (take i others) (get_or others i 0 ∷ []) line t))
          ]
          | inr e ↦ inr (subst (λ (xs : List ℕ). Contains xs line) (sym all) (subst (λ (n : ℕ). Contains (take i others ++ get_or others i 0 ∷ []) n) (sym e) (Contains-push (take i others) (get_or others i 0))))
        ],
        λ e. elim e [
          | inl o ↦ (exact line).1 (inl ((so.exact line).1 (inl o)))
          | inr t ↦ elim (Contains-append_cases (take i others) (get_or others i 0 ∷ []) line (subst (λ (xs : List ℕ). Contains xs line) all t)) [
            | inl k ↦ (exact line).1 (inl ((so.exact line).1 (inr k)))
            | inr k ↦ (exact line).1 (inr (one_in (get_or others i 0) line k))
          ]
        ],
      );
    }

-- the lines of the first so many nodes
pub record AllSoFar (nodes : List (List ℕ)) (i : ℕ) (lines : List ℕ) : Type 0 where
  pub exact : (line : ℕ) → Contains lines line ↔ Any (λ accesses. Contains accesses line) (take i nodes)

pub all_none : (nodes : List (List ℕ)) → AllSoFar nodes 0 []
all_none nodes = record {
  exact = λ line. (λ c. absurd (none_in line c), λ a. absurd (omega (arith, a.2)));
}

any_cases_at : {X : Type 0} (P : X → Type 0) (xs : List X) (x : X) (k : ℕ) (z : X) → k < length (xs ++ x ∷ []) → get_or (xs ++ x ∷ []) k z ≡ z → P z → Any P xs ⊎ P x
any_cases_at P [] x zero z h e p = inr (subst P (sym e) p)
any_cases_at P [] x (suc k) z h e p = absurd (omega arith)
any_cases_at P (y ∷ xs) x zero z h e p = inl (0, z, omega arith, e, p)
any_cases_at P (y ∷ xs) x (suc k) z h e p = elim (any_cases_at P xs x k z (omega arith) e p) [
  | inl b ↦ inl (suc b.0, b.1, omega (arith, b.2), b.3, b.4)
  | inr q ↦ inr q
]

any_cases : {X : Type 0} (P : X → Type 0) (xs : List X) (x : X) → Any P (xs ++ x ∷ []) → Any P xs ⊎ P x
any_cases P xs x a = any_cases_at P xs x a.0 a.1 a.2 a.3 a.4

any_left_at : {X : Type 0} (P : X → Type 0) (xs ys : List X) (k : ℕ) (z : X) → k < length xs → get_or xs k z ≡ z → P z → Any P (xs ++ ys)
any_left_at P [] ys k z h e p = absurd (omega arith)
any_left_at P (x ∷ xs) ys zero z h e p = (0, z, omega arith, e, p)
any_left_at P (x ∷ xs) ys (suc k) z h e p = let r = any_left_at P xs ys k z (omega arith) e p in (suc r.0, r.1, omega (arith, r.2), r.3, r.4)

any_left : {X : Type 0} (P : X → Type 0) (xs ys : List X) → Any P xs → Any P (xs ++ ys)
any_left P xs ys a = any_left_at P xs ys a.0 a.1 a.2 a.3 a.4

pub all_more : (nodes : List (List ℕ)) (cur new node accesses : List ℕ) (i : ℕ) → i < length nodes → node ≡ get_or nodes i node → accesses ≡ node
    → ((line : ℕ) → Contains new line ↔ (Contains cur line ⊎ Contains accesses line)) → AllSoFar nodes i cur → AllSoFar nodes (i + 1) new
all_more nodes cur new node accesses i h here is exact so =
    let all : take (i + 1) nodes ≡ take i nodes ++ accesses ∷ [] = take_more nodes i [] h ∙ ap (λ (xs : List ℕ). take i nodes ++ xs ∷ []) (get_or_default nodes i [] node h ∙ sym here ∙ sym is) in
    record {
      exact = λ line. (
        λ c. subst (λ (ns : List (List ℕ)). Any (λ a. Contains a line) ns) (sym all) (elim ((exact line).0 c) [
          | inl k ↦ any_left (λ (a : List ℕ). Contains a line) (take i nodes) (accesses ∷ []) ((so.exact line).0 k)
          | inr k ↦ Any-push (λ (a : List ℕ). Contains a line) (take i nodes) accesses k
        ]),
        λ a. elim (any_cases (λ (a : List ℕ). Contains a line) (take i nodes) accesses (subst (λ (ns : List (List ℕ)). Any (λ a. Contains a line) ns) all a)) [
          | inl k ↦ (exact line).1 (inl ((so.exact line).1 k))
          | inr k ↦ (exact line).1 (inr k)
        ],
      );
    }

-- behind the last line or node
pub lines_all : (others old new : List ℕ) (i : ℕ) → length others ≤ i → LinesSoFar others i old new
    → (line : ℕ) → Contains new line ↔ (Contains old line ⊎ Contains others line)
lines_all others old new i end so line =
    subst (λ (xs : List ℕ). Contains new line ↔ (Contains old line ⊎ Contains xs line)) (take_all i others end) (so.exact line)

pub all_listed : (nodes : List (List ℕ)) (keys lines : List ℕ) (i : ℕ) → length nodes ≤ i → lines ≡ keys → AllSoFar nodes i keys
    → (line : ℕ) → Contains lines line ↔ Any (λ accesses. Contains accesses line) nodes
all_listed nodes keys lines i end same so line =
    subst (λ (ns : List (List ℕ)). Contains lines line ↔ Any (λ accesses. Contains accesses line) ns) (take_all i nodes end)
    (subst (λ (xs : List ℕ). Contains xs line ↔ Any (λ accesses. Contains accesses line) (take i nodes)) (sym same) (so.exact line))

-- the lines of a set ascend
pub lines_ascend : (keys lines : List ℕ) → lines ≡ keys → IsStrictlySortedBy nat_cmp keys → AreAscending lines
lines_ascend keys lines same sorted = subst AreAscending (sym same) (λ i j d less within. below_from_sorted keys i j d sorted less within)
