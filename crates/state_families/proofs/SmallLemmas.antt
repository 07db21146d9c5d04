-- The vectors that rounds come to are bounded where exits are.
use Rattle.std.proofs.Common.{◌≡◌, ◌∙◌, ◌⊎◌, ◌==◌, ◌^◌, ℕ, ◌<◌, ◌≤◌, All, List, [], ◌∷◌, get_or, length, map, slice_get, Option, Some, None, inl, inr, sym, ap, subst, arith}
use Rattle.std.specs.List.{Contains}
use Rattle.std.proofs.lemmas.List.{get_or-map, length-map}
use Rattle.std.proofs.lemmas.List.Elements.{All-from_get_or, All-map, Contains-get_or}
use Rattle.std.proofs.lemmas.Option.{get_or_from_slice_get, same_Some, slice_get-get_or, slice_get_within}
use Rattle.wx_base.specs.Vector.{AreWithin}
use Rattle.pipe_time.specs.declared.vector.Vector.{Vector}
use Rattle.state_families.specs.declared.node_set.NodeSet.{NodeSet}
use Rattle.state_families.specs.Families.{AreAfterRounds, AreFirst, IsInUnion, IsRound, IsVectorOf, NextSet, vector_of}
use Rattle.state_families.specs.Families.AreAfterRounds.{first, next}
use Rattle.state_families.specs.Families.NextSet.{grows, joins, stays}
use Rattle.state_families.specs.Fresh.{IsBounded}
use Rattle.state_families.specs.Small.{AreSmall}
use Rattle.state_families.proofs.ArrivalLemmas.{small_of}
use Rattle.state_families.proofs.FirstLemmas.{at_first, at_first_bounded}
use Rattle.state_families.proofs.GrowthLemmas.{greatest_bounded}
use Rattle.state_families.proofs.SettlingLemmas.{only_one}

module _ (Exits : ℕ → ℕ → List ℕ → List ℕ → Type 0) (states bound count start : ℕ) (exits : (from to : ℕ) (source slots : List ℕ) → Exits from to source slots → IsBounded bound slots) where
  abbrev AllBounded : List NodeSet → Type 0
  AllBounded sets = (node : ℕ) (v : List ℕ) → IsVectorOf sets node v → IsBounded bound v

  next_bounded : (In : List ℕ → Type 0) (old new : NodeSet) → ((v : List ℕ) → In v → IsBounded bound v) → NextSet states In old new
      → (v : List ℕ) → Contains new.vectors v → IsBounded bound v
  next_bounded In _ _ all (grows vectors union is few) v c = all v ((is.exact v).0 c)
  next_bounded In _ _ all (joins vectors union slots is many great) v c = subst (IsBounded bound) (only_one slots v c) (greatest_bounded bound In slots all great)
  next_bounded In _ _ all (stays vectors kept slots great) v c = subst (IsBounded bound) (only_one slots v c) (greatest_bounded bound In slots all great)

  first_bounded : (sets : List NodeSet) → AreFirst count start sets → AllBounded sets
  first_bounded sets f node v w =
      let l : node < count = omega (arith, slice_get_within sets node w.set w.stands, f.long) in
      let one : NodeSet = record { vectors = at_first (node == start); kept = None } in
      let same : w.set ≡ one = same_Some w.set one (sym w.stands ∙ f.each node l) in
      at_first_bounded bound (node == start) v (subst (λ (s : NodeSet). Contains s.vectors v) same w.listed)

  round_bounded : (sets following : List NodeSet) → AllBounded sets → IsRound Exits states count sets following → AllBounded following
  round_bounded sets following all r node v w =
      let l : node < count = omega (arith, slice_get_within following node w.set w.stands, r.same) in
      let n = r.each node l in
      let same : w.set ≡ n.new = same_Some w.set n.new (sym w.stands ∙ n.after) in
      next_bounded (IsInUnion Exits sets node) n.old n.new union_bounded n.becomes v (subst (λ (s : NodeSet). Contains s.vectors v) same w.listed)
    where
      union_bounded : (other : List ℕ) → IsInUnion Exits sets node other → IsBounded bound other
      union_bounded other e = elim e [ inl own ↦ all node other own | inr a ↦ exits a.from node a.source other a.exits ]

  rounds_bounded : (sets : List NodeSet) → AreAfterRounds Exits states count start sets → AllBounded sets
  rounds_bounded _ (first sets f) = first_bounded sets f
  rounds_bounded _ (next before sets r round) = round_bounded before sets (rounds_bounded before r) round

  abbrev nothing : NodeSet
  nothing = record { vectors = []; kept = None }

  abbrev vectors_in : NodeSet → List Vector
  vectors_in set = map vector_of set.vectors

  -- the vectors of the answer are small
  pub families_small : (vectors : List (List Vector)) (sets : List NodeSet) → bound ≤ 4095 → AreAfterRounds Exits states count start sets → vectors ≡ map vectors_in sets → AreSmall vectors
  families_small vectors sets few r is = record { each = each }
    where
      each : (node : ℕ) (family : List Vector) → slice_get vectors node ≡ Some family → All (λ v. AreWithin (10 ^ 18) v.slots) family
      each node family at =
          let long : length vectors ≡ length sets = ap (λ (xs : List (List Vector)). length xs) is ∙ length-map sets vectors_in in
          let l : node < length sets = omega (arith, slice_get_within vectors node family at, long) in
          let set = get_or sets node nothing in
          let same : vectors_in set ≡ family =
          sym (get_or-map vectors_in sets node nothing [] l) ∙ ap (λ (xs : List (List Vector)). get_or xs node []) (sym is) ∙ get_or_from_slice_get vectors node family [] at in
          subst (λ (xs : List Vector). All (λ v. AreWithin (10 ^ 18) v.slots) xs) same
          (All-map (λ (v : Vector). AreWithin (10 ^ 18) v.slots) vector_of set.vectors
          (All-from_get_or (λ (slots : List ℕ). AreWithin (10 ^ 18) slots) set.vectors [] (λ i h. small_of bound (get_or set.vectors i []) few
          (rounds_bounded sets r node (get_or set.vectors i []) (record { set = set; stands = slice_get-get_or sets node nothing l; listed = Contains-get_or set.vectors i [] h })))))
