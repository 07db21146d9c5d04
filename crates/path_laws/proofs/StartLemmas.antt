-- The start is a vertex: its node has a vector before the first round, and no round takes a node's last vector away.
use Rattle.std.proofs.Common.{◌≡◌, ℕ, ◌+◌, ◌<◌, ◌==◌, true, Bool, List, [], ◌∷◌, length, map, get_or, slice_get, Some, None, if◌then◌else◌, refl, ap, ◌∙◌, inl, arith, length-append}
use Rattle.std.specs.Prelude.{Contains, sum_by}
use Rattle.std.proofs.lemmas.Bool.{eq-eqb}
use Rattle.std.proofs.lemmas.List.{length-map}
use Rattle.std.proofs.lemmas.List.Sums.{sum_by-cons, sum_by_more_le}
use Rattle.std.proofs.lemmas.Option.{get_or_from_slice_get, slice_get_within}
use Rattle.wx_base.specs.declared.machine.Machine.{Machine}
use Rattle.wx_base.specs.Vector.{zero_slots}
use Rattle.pipe_time.specs.declared.vector.Vector.{Vector}
use Rattle.flow_ctx.specs.declared.unfolded.Unfolded.{Unfolded}
use Rattle.cache_class.specs.declared.class.Classes.{Classes}
use Rattle.state_families.specs.declared.family_set.FamilySet.{FamilySet}
use Rattle.state_families.specs.declared.node_set.NodeSet.{NodeSet}
use Rattle.state_families.specs.Families.{AreAfterRounds, AreFamilies, AreFirst, IsRound, IsVectorOf, NextSet, vector_of}
use Rattle.state_families.specs.Families.AreAfterRounds.{first, next}
use Rattle.state_families.specs.Families.NextSet.{grows, joins, stays}
use Rattle.path_rules.specs.Pairs.{first_vertex, pairs, pairs_from, pairs_of}
use Rattle.path_laws.proofs.Lists.{mapped}

-- ---- a vector of the start

record HasSome (vectors : List (List ℕ)) : Type 0 where
  slots : List ℕ
  contained : Contains vectors slots

some_of_one : (slots : List ℕ) → HasSome (slots ∷ [])
some_of_one slots = record { slots = slots; contained = (0, omega arith, refl) }

some_next : (states : ℕ) (In : List ℕ → Type 0) (old new : NodeSet) (slots : List ℕ) → In slots
    → NextSet states In old new → HasSome new.vectors
some_next states In old new slots there (grows vectors union is few) =
    record { slots = slots; contained = (is.exact slots).1 there }
some_next states In old new slots there (joins vectors union one is many great) = some_of_one one
some_next states In old new slots there (stays vectors kept one great) = some_of_one one

-- the node has a vector
record HasVector (sets : List NodeSet) (node : ℕ) : Type 0 where
  set : NodeSet
  stands : slice_get sets node ≡ Some set
  some : HasSome set.vectors

at_first : (node : ℕ) (b : Bool) → b ≡ true → HasSome (if b then zero_slots ∷ [] else [])
at_first node b is = rw is (some_of_one zero_slots)

module _ (Exits : ℕ → ℕ → List ℕ → List ℕ → Type 0) (states count start : ℕ) (within : start < count) where
  has_first : (sets : List NodeSet) → AreFirst count start sets → HasVector sets start
  has_first sets are = record {
    set = record { vectors = if start == start then zero_slots ∷ [] else []; kept = None };
    stands = are.each start within;
    some = at_first start (start == start) (eq-eqb start start refl);
  }

  has_next : (sets others : List NodeSet) → IsRound Exits states count sets others → HasVector sets start
      → HasVector others start
  has_next sets others round has =
      let one = round.each start within in
      let still : IsVectorOf sets start has.some.slots =
      record { set = has.set; stands = has.stands; listed = has.some.contained } in
      record {
        set = one.new;
        stands = one.after;
        some = some_next states _ one.old one.new has.some.slots (inl still) one.becomes;
      }

  has_vector : (sets : List NodeSet) → AreAfterRounds Exits states count start sets → HasVector sets start
  has_vector sets (first _ are) = has_first sets are
  has_vector sets (next before _ rounds round) = has_next before sets round (has_vector before rounds)

-- ---- how many pairs there are

pair_count : (node : ℕ) (families : List (List Vector)) → length (pairs_from node families) ≡ sum_by length families
pair_count node [] = refl
pair_count node (family ∷ families) =
    let all = length-append (pairs_of node family) (pairs_from (node + 1) families) in
    let rest : length (pairs_from (node + 1) families) ≡ sum_by length families = pair_count (node + 1) families in
    let here : length (pairs_of node family) ≡ length family
    = length-map family (λ v. record { node = node; vector = v }) in
    let sum = sum_by-cons (λ (l : List Vector). length l) family families in
    omega (arith, all, rest, here, sum)

first_within : (vectors : List (List Vector)) (node : ℕ) (family : List Vector)
    → slice_get vectors node ≡ Some family → 0 < length family
    → first_vertex vectors node < length (pairs vectors)
first_within vectors node family stands some =
    let within : node < length vectors = slice_get_within vectors node family stands in
    let same : get_or vectors node [] ≡ family = get_or_from_slice_get vectors node family [] stands in
    let long : length (get_or vectors node []) ≡ length family = ap length same in
    let more = sum_by_more_le (λ (l : List Vector). length l) vectors node [] within in
    omega (arith, long, more, some, pair_count 0 vectors)

pub start_is_vertex : (u : Unfolded) (m : Machine) (classes : Classes) (f : FamilySet) → u.start < length u.nodes
    → AreFamilies u m classes f
    → first_vertex f.vectors u.start < length (pairs f.vectors)
start_is_vertex u m classes f within are =
    let has : HasVector are.sets u.start
    = has_vector _ m.states (length u.nodes) u.start within are.sets are.settled.rounds in
    let family : List Vector = map vector_of has.set.vectors in
    let stands : slice_get f.vectors u.start ≡ Some family
    = ap (λ (l : List (List Vector)). slice_get l u.start) are.vectors
    ∙ mapped (λ (set : NodeSet). map vector_of set.vectors) are.sets u.start has.set has.stands in
    let some : 0 < length has.set.vectors = omega (arith, has.some.contained.1) in
    first_within f.vectors u.start family stands (omega (arith, some, length-map has.set.vectors vector_of))
