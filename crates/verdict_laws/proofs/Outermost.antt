-- Of the scopes in which a line is kept one is the outermost, if there is any.
use Rattle.std.proofs.Common.{◌≡◌, ◌⊎◌, inl, inr, ⊎_elim, ℕ, zero, suc, ◌<◌, ◌≤◌, List, [], length, slice_get, Option, None, sym, ap, ◌∙◌, subst, refl, arith}
use Rattle.std.specs.List.{Contains}
use Rattle.std.specs.Option.{option_map_or}
use Rattle.std.proofs.lemmas.Bool.{cases_lt}
use Rattle.std.proofs.lemmas.Option.{slice_get_past}
use Rattle.wx_base.specs.declared.machine.Shape.{Shape}
use Rattle.flow_ctx.specs.declared.scope.Scope.{Scope}
use Rattle.flow_ctx.specs.declared.scope.Scope.TheVariants.{Run, Loop}
use Rattle.flow_ctx.specs.declared.unfolded.ULoop.{ULoop}
use Rattle.flow_ctx.specs.declared.unfolded.Unfolded.{Unfolded}
use Rattle.cache_flow.specs.declared.flow.Flow.{Flow}
use Rattle.cache_flow.specs.Flows.{Part}
use Rattle.cache_flow.specs.Shown.{IsBarred, IsHeld}
use Rattle.cache_class.specs.declared.class.Class.{Class}
use Rattle.cache_class.specs.declared.class.Class.TheVariants.{AlwaysHit, AlwaysMiss, FirstMiss, Open}
use Rattle.cache_class.specs.Accesses.{part_of}
use Rattle.cache_class.specs.Classes.{IsClass, IsKeptIn, IsOutside, first, hits, misses, opens, size_of}

module _ (u : Unfolded) (Kept : Scope → Type 0) where
  -- of the first so many loops none has what is asked, or one that no other of them is outside of
  data Best (count : ℕ) : Type 0 where
    none : ((n : ℕ) → n < count → Kept (Loop n) → ⊥) → Best count
    one : (best : ℕ) → Kept (Loop best) → best < count → ((n : ℕ) → n < count → IsOutside u (Loop n) (Loop best) → Kept (Loop n) → ⊥) → Best count

  below_or_last : (n count : ℕ) → n < suc count → (n < count) ⊎ (n ≡ count)
  below_or_last n count h = ⊎_elim (λ (less : n < count). inl less) (λ (more : count ≤ n). inr (omega (arith, h, more))) (cases_lt n count)

  without : (count : ℕ) → Best count → (Kept (Loop count) → ⊥) → Best (suc count)
  without count (none nothing) lacks =
      none (λ n h kept. ⊎_elim (λ (less : n < count). nothing n less kept) (λ (e : n ≡ count). lacks (subst (λ (k : ℕ). Kept (Loop k)) e kept)) (below_or_last n count h))
  without count (one best has below outer) lacks =
      one best has (omega (arith, below))
      (λ n h outside kept. ⊎_elim (λ (less : n < count). outer n less outside kept) (λ (e : n ≡ count). lacks (subst (λ (k : ℕ). Kept (Loop k)) e kept)) (below_or_last n count h))

  abbrev size : ℕ → ℕ
  size n = size_of u (Loop n)

  not_outside_itself : (n count : ℕ) → n ≡ count → IsOutside u (Loop n) (Loop count) → ⊥
  not_outside_itself n count e (inl less) = let s : size n ≡ size count = ap size e in omega (arith, s, less)
  not_outside_itself n count e (inr (same, less)) = omega (arith, e, less)

  with_last : (count : ℕ) → Best count → Kept (Loop count) → Best (suc count)
  with_last count (none nothing) has =
      one count has (omega arith)
      (λ n h outside kept. ⊎_elim (λ (less : n < count). nothing n less kept) (λ (e : n ≡ count). not_outside_itself n count e outside) (below_or_last n count h))
  with_last count (one best holds below outer) has =
      ⊎_elim (λ (less : size best < size count). one count has (omega arith) (larger less)) (λ (more : size count ≤ size best). one best holds (omega (arith, below)) (smaller more))
      (cases_lt (size best) (size count))
    where
      further : (n : ℕ) → size best < size count → IsOutside u (Loop n) (Loop count) → IsOutside u (Loop n) (Loop best)
      further n less (inl more) = inl (omega (arith, less, more))
      further n less (inr (same, lower)) = inl (omega (arith, less, same))

      larger : size best < size count → (n : ℕ) → n < suc count → IsOutside u (Loop n) (Loop count) → Kept (Loop n) → ⊥
      larger less n h outside kept =
          ⊎_elim (λ (under : n < count). outer n under (further n less outside) kept) (λ (e : n ≡ count). not_outside_itself n count e outside) (below_or_last n count h)

      not_larger : (n : ℕ) → size count ≤ size best → n ≡ count → IsOutside u (Loop n) (Loop best) → ⊥
      not_larger n more e (inl larger) = let s : size n ≡ size count = ap size e in omega (arith, s, more, larger)
      not_larger n more e (inr (same, lower)) = omega (arith, e, lower, below)

      smaller : size count ≤ size best → (n : ℕ) → n < suc count → IsOutside u (Loop n) (Loop best) → Kept (Loop n) → ⊥
      smaller more n h outside kept =
          ⊎_elim (λ (under : n < count). outer n under outside kept) (λ (e : n ≡ count). not_larger n more e outside) (below_or_last n count h)

  best : (count : ℕ) → (Best count → ⊥) → ⊥
  best zero go = go (none (λ n h kept. omega (arith, h)))
  best (suc count) go = best count (λ b. go (without count b (λ has. go (with_last count b has))))

module _ (shape : Shape) (u : Unfolded) (flow : Flow) (node place line : ℕ) where
  abbrev Kept : Scope → Type 0
  Kept scope = IsKeptIn shape u flow node place line scope

  abbrev of_loop : Option ULoop → Part
  of_loop found = option_map_or (λ (l : ULoop). record { head = l.head; members = l.members }) found (record { head = 0; members = [] })

  -- a scope of no loop has no node
  no_loop : (number : ℕ) → length u.loops ≤ number → Kept (Loop number) → ⊥
  no_loop number past kept =
      let e : (part_of u (Loop number)).members ≡ [] = ap (λ (o : Option ULoop). (of_loop o).members) (slice_get_past u.loops number past) in
      let c : Contains [] node = subst (λ (l : List ℕ). Contains l node) e kept.member in
      omega (arith, c.1)

  module _ (stop : (class : Class) → IsClass shape u flow node place line class → ⊥) where
    not_held : IsHeld shape flow node place line → ⊥
    not_held held = stop AlwaysHit (hits held)

    not_barred : IsBarred shape flow node place line → ⊥
    not_barred barred = stop AlwaysMiss (misses not_held barred)

    not_in_run : Kept Run → ⊥
    not_in_run kept = stop (FirstMiss Run) (first Run not_held not_barred kept outermost)
      where
        outermost : (outer : Scope) → IsOutside u outer Run → Kept outer → ⊥
        outermost Run outside k = outside
        outermost (Loop number) outside k = outside

    not_best : Best u Kept (length u.loops) → ⊥
    not_best (none nothing) = stop Open (opens not_held not_barred nowhere)
      where
        nowhere : (scope : Scope) → Kept scope → ⊥
        nowhere Run kept = not_in_run kept
        nowhere (Loop number) kept =
            ⊎_elim (λ (inside : number < length u.loops). nothing number inside kept) (λ (past : length u.loops ≤ number). no_loop number past kept)
            (cases_lt number (length u.loops))
    not_best (one best has below outer) = stop (FirstMiss (Loop best)) (first (Loop best) not_held not_barred has outermost)
      where
        outermost : (scope : Scope) → IsOutside u scope (Loop best) → Kept scope → ⊥
        outermost Run outside kept = not_in_run kept
        outermost (Loop number) outside kept =
            ⊎_elim (λ (inside : number < length u.loops). outer number inside outside kept) (λ (past : length u.loops ≤ number). no_loop number past kept)
            (cases_lt number (length u.loops))

    -- an access to a line has a class
    pub has_class : ⊥
    has_class = best u Kept (length u.loops) not_best
