-- What stands in lists, and scopes as parts of the flow.
use Rattle.std.proofs.Common.{◌≡◌, ℕ, zero, suc, ◌<◌, ◌≤◌, ◌⊎◌, Bool, true, false, List, [], ◌∷◌, ◌++◌, length, get_or, Some, refl, sym, ap, ◌∙◌, subst, inl, inr, arith, zero-add, ◌==◌}
use Rattle.std.specs.List.{AllPairs, Contains, filter, range_with_len, slice_get}
use Rattle.std.specs.Option.{option_map_or}
use Rattle.std.proofs.lemmas.Bool.{cases_Bool, eqb-true, false≢true}
use Rattle.std.proofs.lemmas.List.{get_or_default}
use Rattle.std.proofs.lemmas.List.FromFn.{get_or-range_with_len, length-range_with_len}
use Rattle.std.proofs.lemmas.Option.{same_Some, slice_get_within, slice_get-get_or}
use Rattle.cache_ages.specs.Bounds.{is_one_of}
use Rattle.cache_flow.specs.Flows.{Part}
use Rattle.flow_ctx.specs.declared.scope.Scope.TheVariants.{Loop}
use Rattle.flow_ctx.specs.declared.unfolded.Edge.{Edge}
use Rattle.flow_ctx.specs.declared.unfolded.ULoop.{ULoop}
use Rattle.flow_ctx.specs.declared.unfolded.UNode.{UNode}
use Rattle.flow_ctx.specs.declared.unfolded.Unfolded.{Unfolded}
use Rattle.flow_ctx.specs.Unfolding.{AreLoops}
use Rattle.flow_graph.specs.declared.program.Program.{Program}
use Rattle.cache_class.specs.Accesses.{part_of}
use Rattle.cache_class.proofs.Ascending.{first_or_later}

-- ---- what stands in a list

later_in : {X : Type 0} (y : X) (ys : List X) (x : X) → Contains ys x → Contains (y ∷ ys) x
later_in y ys x c = (suc c.0, omega (arith, c.1), c.2)

-- what is picked from a list by a test
pub picked : {X : Type 0} (p : X → Bool) (xs : List X) (x : X) → Contains (filter p xs) x → Contains xs x × (p x ≡ true)
picked p [] x c = absurd (omega (arith, c.1))
picked p (y ∷ ys) x c = elim (cases_Bool (p y)) [
  | inl e ↦ elim (first_or_later y (filter p ys) x (rw e at c)) [
    | inl same ↦ ((0, omega arith, same), ap p (sym same) ∙ e)
    | inr k ↦ let r = picked p ys x k in (later_in y ys x r.0, r.1)
  ]
  | inr e ↦ let r = picked p ys x (rw e at c) in (later_in y ys x r.0, r.1)
]

pub pick : {X : Type 0} (p : X → Bool) (xs : List X) (x : X) → Contains xs x → p x ≡ true → Contains (filter p xs) x
pick p [] x c h = absurd (omega (arith, c.1))
pick p (y ∷ ys) x c h = elim (first_or_later y ys x c) [
  | inl same ↦ rw (ap p same ∙ h) (0, omega arith, same)
  | inr k ↦ elim (cases_Bool (p y)) [
    | inl e ↦ rw e (later_in y (filter p ys) x (pick p ys x k h))
    | inr e ↦ rw e (pick p ys x k h)
  ]
]

pub contained : (lines : List ℕ) (line : ℕ) → is_one_of lines line ≡ true → Contains lines line
contained [] line h = absurd (false≢true h)
contained (x ∷ xs) line h = elim (cases_Bool (x == line)) [
  | inl e ↦ (0, omega arith, eqb-true x line e)
  | inr e ↦ later_in x xs line (contained xs line (rw e at h))
]

pub absent : (numbers : List ℕ) (n : ℕ) → ((k : ℕ) → k < length numbers → get_or numbers k 0 ≡ n → ⊥) → is_one_of numbers n ≡ false
absent numbers n none = elim (cases_Bool (is_one_of numbers n)) [
  | inr e ↦ e
  | inl e ↦ let c = contained numbers n e in absurd (none c.0 c.1 (get_or_default numbers c.0 0 n c.1 ∙ c.2))
]

-- what stands at a place of a list
pub stands_at : {X : Type 0} (xs : List X) (k : ℕ) (x : X) → k < length xs → x ≡ get_or xs k x → slice_get xs k ≡ Some x
stands_at xs k x h e = slice_get-get_or xs k x h ∙ ap Some (sym e)

-- an element of a list with one more is one of before, or the last
pub before_or_last : {X : Type 0} (xs : List X) (x : X) (k : ℕ) (y : X) → slice_get (xs ++ x ∷ []) k ≡ Some y → (slice_get xs k ≡ Some y) ⊎ ((k ≡ length xs) × (x ≡ y))
before_or_last [] x zero y e = inr (refl, same_Some x y e)
before_or_last [] x (suc k) y e = absurd cc
before_or_last (z ∷ xs) x zero y e = inl e
before_or_last (z ∷ xs) x (suc k) y e = elim (before_or_last xs x k y e) [
  | inl before ↦ inl before
  | inr last ↦ inr (omega (arith, last.0), last.1)
]

-- what holds of each element so far and of one more
pub each_more : {X : Type 0} (Holds : ℕ → X → Type 0) (xs : List X) (x : X) (count : ℕ) → length xs ≡ count
    → ((k : ℕ) (y : X) → slice_get xs k ≡ Some y → Holds k y) → Holds count x → (k : ℕ) (y : X) → slice_get (xs ++ x ∷ []) k ≡ Some y → Holds k y
each_more {X} Holds xs x count long each next k y at = elim (before_or_last xs x k y at) [
  | inl before ↦ each k y before
  | inr last ↦ let e : k ≡ count = last.0 ∙ long in subst (λ (n : ℕ). Holds n y) (sym e) (subst (λ (z : X). Holds count z) last.1 next)
]

-- ---- scopes as parts

pub in_range : (n k : ℕ) → k < n → Contains (range_with_len 0 n) k
in_range n k h = (k, omega (arith, length-range_with_len 0 n), get_or-range_with_len 0 n k k h ∙ zero-add k)

pub range_within : (n k : ℕ) → Contains (range_with_len 0 n) k → k < n
range_within n k c =
    let inside : c.0 < n = omega (arith, c.1, length-range_with_len 0 n) in
    omega (arith, inside, sym c.2 ∙ get_or-range_with_len 0 n c.0 k inside ∙ zero-add c.0)

abbrev pub part : ℕ → List ℕ → Part
part head members = record { head = head; members = members }

pub loop_part : (u : Unfolded) (number : ℕ) (l : ULoop) → slice_get u.loops number ≡ Some l → part_of u (Loop number) ≡ part l.head l.members
loop_part u number l at = ap (λ o. option_map_or (λ (x : ULoop). part x.head x.members) o (part 0 [])) at

-- ---- the number of loops

-- a loop's head is no lower than the loop's number, so there are no more loops than nodes
module _ (nodes : List UNode) (program : Program) (edges : List Edge) where
  head_above : (loops : List ULoop) → AllPairs (λ (l m : ULoop). l.head < m.head) loops → (d : ULoop) (k : ℕ) → k < length loops → k ≤ (get_or loops k d).head
  head_above loops up d zero h = omega arith
  head_above loops up d (suc k) h = omega (arith, head_above loops up d k (omega (arith, h)), up k (suc k) d (omega arith) h)

  pub few_loops : (loops : List ULoop) → AreLoops program nodes edges loops → (d : ULoop) (k : ℕ) → k < length loops → k < length nodes
  few_loops loops are d k h =
      let l = are.each k d h in
      omega (arith, head_above loops are.ascending d k h, slice_get_within nodes (get_or loops k d).head l.node l.stands)
