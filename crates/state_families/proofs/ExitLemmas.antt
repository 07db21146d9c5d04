-- The slots of exits lie within the machine's horizon.
use Rattle.std.proofs.Common.{◌≡◌, ℕ, zero, suc, ◌-◌, ◌<◌, ◌≤◌, Bool, List, [], ◌∷◌, length, max, slice_get, Some, ◌↔◌, refl, sym, ap, subst, ◌∙◌, inl, inr, arith}
use Rattle.std.specs.List.{Contains}
use Rattle.std.proofs.lemmas.Bool.{cases_lt}
use Rattle.std.proofs.lemmas.List.{get_or_past, get_or-map, length-map, length-set}
use Rattle.std.proofs.lemmas.List.Elements.{All-get_or}
use Rattle.std.proofs.lemmas.Option.{get_or_from_slice_get, same_Some, slice_get_within}
use Rattle.wx_base.specs.declared.machine.Machine.{Machine}
use Rattle.wx_base.specs.Blocks.{cost_of, base_of, end_from, exit_from, greatest_slot, past_from, rebased, slots_after, with_jump}
use Rattle.wx_base.specs.Recurrence.{Done, Entry, slot, window}
use Rattle.wx_base.specs.Vector.{slot_count}
use Rattle.flow_ctx.specs.declared.unfolded.Edge.{Edge}
use Rattle.flow_ctx.specs.declared.unfolded.Unfolded.{Unfolded}
use Rattle.flow_ctx.specs.Unfolding.{IsEdge, IsUnfolding}
use Rattle.pipe_block.specs.Events.{entries_of}
use Rattle.cache_class.specs.declared.class.Classes.{Classes}
use Rattle.state_families.specs.Families.{Arrives, IsExitOf, IsExitTo, IsListedAt}
use Rattle.state_families.specs.Fresh.{IsBounded}
use Rattle.state_families.specs.Incoming.{IsEdgeInto}
use Rattle.state_families.specs.Leaving.{IsExitAmong}

-- a vector behind instructions has all slots
window_long : (m : Machine) (slots : List ℕ) (past : List Done) → length (window m slots past) ≡ slot_count
unfolding window
window_long m slots past = refl

-- no slot is above the greatest
slot_most : (slots : List ℕ) (k : ℕ) → slot slots k ≤ greatest_slot slots
unfolding greatest_slot
slot_most [] k = let none : slot [] k ≡ 0 = get_or_past {X = ℕ} [] k 0 (omega arith) in omega (arith, none)
slot_most (time ∷ slots) zero = omega arith
slot_most (time ∷ slots) (suc k) = let rest : slot slots k ≤ greatest_slot slots = slot_most slots k in omega (arith, rest)

-- a time counted from the cost on
taken_off : (time greatest base horizon cost : ℕ) → time ≤ greatest → cost ≡ max base (greatest - horizon) → time - cost ≤ horizon
taken_off time greatest base horizon cost most is = omega (arith, most, is)

-- the vector behind a block along an edge
abbrev behind : Machine → List ℕ → List Entry → Bool → List ℕ
behind m slots entries taken = with_jump taken (end_from m slots entries) (slots_after m slots entries)

exit_long : (m : Machine) (slots : List ℕ) (entries : List Entry) (taken : Bool) → length (exit_from m slots entries taken).slots ≡ slot_count
exit_long m slots entries taken =
    length-map (behind m slots entries taken) (λ time. time - cost_of m (behind m slots entries taken))
    ∙ (length-set (slots_after m slots entries) 13 _ ∙ window_long m slots (past_from m slots entries))

-- a vector counted from its cost on lies within the horizon
rebased_within : (m : Machine) (slots : List ℕ) (k : ℕ) → slot (rebased m slots) k ≤ m.horizon
rebased_within m slots k = elim (cases_lt k (length slots)) [
  | inl l ↦
      let e : slot (rebased m slots) k ≡ slot slots k - cost_of m slots = get_or-map (λ time. time - cost_of m slots) slots k 0 0 l in
      let t = taken_off (slot slots k) (greatest_slot slots) (base_of m slots) m.horizon (cost_of m slots) (slot_most slots k) refl in
      omega (arith, e, t)
  | inr g ↦
      let e : slot (rebased m slots) k ≡ 0 = get_or_past (rebased m slots) k 0 (omega (arith, g, length-map slots (λ time. time - cost_of m slots))) in
      omega (arith, e)
]

pub exit_bounded : (m : Machine) (slots : List ℕ) (entries : List Entry) (taken : Bool) → IsBounded m.horizon (exit_from m slots entries taken).slots
exit_bounded m slots entries taken = record {
  long = exit_long m slots entries taken;
  within = record { each = λ k. rebased_within m (behind m slots entries taken) k };
}

pub exit_of_bounded : (u : Unfolded) (m : Machine) (classes : Classes) (edge : Edge) (source slots : List ℕ) → IsExitOf u m classes edge source slots → IsBounded m.horizon slots
exit_of_bounded u m classes edge source slots e = subst (IsBounded m.horizon) (sym e.is) (exit_bounded m source (entries_of e.block e.f) edge.taken)

-- edges lead from nodes to nodes
edge_of : (u : Unfolded) (number : ℕ) (edge : Edge) → IsUnfolding u.program u → slice_get u.edges number ≡ Some edge → IsEdge u.program u.nodes edge
edge_of u number edge is at =
    subst (IsEdge u.program u.nodes) (get_or_from_slice_get u.edges number edge edge at)
    (All-get_or (IsEdge u.program u.nodes) u.edges number edge (slice_get_within u.edges number edge at) is.edges.each)

pub edge_from : (u : Unfolded) (number : ℕ) (edge : Edge) → IsUnfolding u.program u → slice_get u.edges number ≡ Some edge → edge.from < length u.nodes
edge_from u number edge is at = let e = edge_of u number edge is at in slice_get_within u.nodes edge.from e.source e.from

pub edge_to : (u : Unfolded) (number : ℕ) (edge : Edge) → IsUnfolding u.program u → slice_get u.edges number ≡ Some edge → edge.to < length u.nodes
edge_to u number edge is at = let e = edge_of u number edge is at in slice_get_within u.nodes edge.to e.target e.to

pub exit_into : (u : Unfolded) (m : Machine) (classes : Classes) → IsUnfolding u.program u → (from to : ℕ) (source slots : List ℕ) → IsExitTo u m classes from to source slots
    → to < length u.nodes
exit_into u m classes is from to source slots e = subst (λ (n : ℕ). n < length u.nodes) e.comes (edge_to u e.number e.edge is e.stands)

-- what comes along the edges into a node is what arrives there
module _ (u : Unfolded) (m : Machine) (classes : Classes) (numbers : List ℕ) (fresh : List (List (List ℕ))) (node : ℕ)
    (exact : (number : ℕ) → Contains numbers number ↔ IsEdgeInto u.edges (length u.edges) node number) where
  pub among_arrives : (slots : List ℕ) → IsExitAmong u m classes numbers fresh slots → Arrives (IsExitTo u m classes) (IsListedAt fresh) node slots
  among_arrives slots a =
      let into = (exact a.number).0 a.among in
      let same : into.edge ≡ a.edge = same_Some into.edge a.edge (sym into.stands ∙ a.stands) in
      record {
        from = a.edge.from;
        source = a.source;
        listed = a.listed;
        exits = record { number = a.number; edge = a.edge; stands = a.stands; leaves = refl; comes = sym (ap (λ (e : Edge). e.to) same) ∙ into.comes; exits = a.exits };
      }

  pub arrives_among : (slots : List ℕ) → Arrives (IsExitTo u m classes) (IsListedAt fresh) node slots → IsExitAmong u m classes numbers fresh slots
  arrives_among slots a =
      let x = a.exits in
      record {
        number = x.number;
        edge = x.edge;
        among = (exact x.number).1 (record { edge = x.edge; below = slice_get_within u.edges x.number x.edge x.stands; stands = x.stands; comes = x.comes });
        stands = x.stands;
        source = a.source;
        listed = subst (λ (n : ℕ). IsListedAt fresh n a.source) (sym x.leaves) a.listed;
        exits = x.exits;
      }

pub exit_to_bounded : (u : Unfolded) (m : Machine) (classes : Classes) (from to : ℕ) (source slots : List ℕ) → IsExitTo u m classes from to source slots → IsBounded m.horizon slots
exit_to_bounded u m classes from to source slots e = exit_of_bounded u m classes e.edge source slots e.exits

pub among_bounded : (u : Unfolded) (m : Machine) (classes : Classes) (numbers : List ℕ) (fresh : List (List (List ℕ))) (slots : List ℕ)
    → IsExitAmong u m classes numbers fresh slots → IsBounded m.horizon slots
among_bounded u m classes numbers fresh slots a = exit_of_bounded u m classes a.edge a.source slots a.exits
