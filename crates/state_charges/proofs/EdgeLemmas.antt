-- Rises from the vectors of a node are rises along an edge that leaves it, and the charges of groups are the greatest rises along all edges.
use Rattle.std.proofs.Common.{◌≡◌, ℕ, ◌<◌, ◌≤◌, List, [], length, slice_get, slice_index, replicate, Option, Some, Result, Ok, Err, IfOk, refl, sym, ap, subst, ◌∙◌, inl, inr, arith}
use Rattle.std.specs.Global.{Vec}
use Rattle.std.specs.Option.{option_map, option_map_or}
use Rattle.std.proofs.lemmas.Option.{get_or_from_slice_get, same_Some, slice_get-map, slice_get_within}
use Rattle.wx_text.specs.declared.memory.NoMemory.{NoMemory}
use Rattle.wx_base.specs.declared.machine.Machine.{Machine}
use Rattle.flow_block.specs.declared.block.Block.{Block}
use Rattle.flow_block.specs.declared.block.Slot.{Slot}
use Rattle.flow_graph.specs.declared.program.Function.{Function}
use Rattle.flow_ctx.specs.declared.unfolded.Edge.{Edge}
use Rattle.flow_ctx.specs.declared.unfolded.UNode.{UNode}
use Rattle.flow_ctx.specs.declared.unfolded.Unfolded.{Unfolded}
use Rattle.flow_ctx.specs.Nodes.{IsBlockOf}
use Rattle.flow_ctx.specs.Unfolding.{IsEdge, IsUnfolding}
use Rattle.cache_class.specs.declared.class.Class.{Class}
use Rattle.cache_class.specs.declared.class.Classes.{Classes}
use Rattle.cache_class.specs.declared.group.Group.{Group}
use Rattle.cache_class.specs.Accesses.{slots_of}
use Rattle.cache_class.specs.Allowed.{IsAllowed}
use Rattle.cache_class.specs.Classes.{AreClasses}
use Rattle.cache_class.specs.Groups.{AreGroups, IsOfGroup}
use Rattle.cert_text.specs.declared.certificate.Charge.{Charge}
use Rattle.cert_rules.specs.Rules.{group_of}
use Rattle.pipe_time.specs.declared.vector.Vector.{Vector}
use Rattle.state_charges.specs.declared.miss.Miss.{Miss}
use Rattle.state_charges.specs.Charges.{AreCharges, IsCharge, IsRiseAlong}
use Rattle.state_charges.specs.Misses.{AreMisses, HaveAmounts, IsMiss}
use Rattle.state_charges.specs.Raising.{Raises, IsEarly, IsEdgeRise, IsFamilyRise, cost_from, rise_at}
use Rattle.state_charges.specs.Subject.{IsFirstMiss}
use Rattle.state_charges.proofs.RaisingLemmas.{raised_alike, zero_at}

-- a node has one block
one_block : (u : Unfolded) (number : ℕ) (a b : Block) → IsBlockOf u number a → IsBlockOf u number b → a ≡ b
one_block u number a b x y =
    let node : x.node ≡ y.node = same_Some x.node y.node (sym x.stands ∙ y.stands) in
    let there : slice_get u.program.functions x.node.function ≡ Some y.function = subst (λ (n : UNode). slice_get u.program.functions n.function ≡ Some y.function) (sym node) y.function_stands in
    let function : x.function ≡ y.function = same_Some x.function y.function (sym x.function_stands ∙ there) in
    let other : slice_get x.function.blocks x.node.block ≡ Some b =
    subst (λ (g : Function). slice_get g.blocks x.node.block ≡ Some b) (sym function)
    (subst (λ (n : UNode). slice_get y.function.blocks n.block ≡ Some b) (sym node) y.block_stands) in
    same_Some a b (sym x.block_stands ∙ other)

-- the events of a node are those of its block
pub slots_are : (u : Unfolded) (number : ℕ) (block : Block) (node : UNode) → IsBlockOf u number block → slice_get u.nodes number ≡ Some node → slots_of u.program node ≡ block.slots
slots_are u number block node is stands =
    let same : is.node ≡ node = same_Some is.node node (sym is.stands ∙ stands) in
    subst (λ (n : UNode). slots_of u.program n ≡ block.slots) same
    (ap (λ (o : Option Function). option_map_or (λ function. option_map_or (λ block. block.slots) (slice_get function.blocks is.node.block) []) o []) is.function_stands
    ∙ ap (λ (o : Option Block). option_map_or (λ block. block.slots) o []) is.block_stands)

-- each event of a node's block has a class
pub kinds_long : (u : Unfolded) (m : Machine) (classes : Classes) (node : ℕ) (block : Block) (kinds : List Class) → AreClasses u m classes → IsBlockOf u node block
    → slice_get classes.slots node ≡ Some kinds → length kinds ≡ length block.slots
kinds_long u m classes node block kinds all is listed =
    (all.each node is.node kinds is.stands listed).long ∙ ap (λ (xs : List Slot). length xs) (slots_are u node block is.node is is.stands)

-- an edge leaves a node
pub leaves_node : (u : Unfolded) (number : ℕ) (edge : Edge) → IsUnfolding u.program u → slice_get u.edges number ≡ Some edge → edge.from < length u.nodes
leaves_node u number edge whole at =
    let is : IsEdge u.program u.nodes edge =
    subst (λ (e : Edge). IsEdge u.program u.nodes e) (get_or_from_slice_get u.edges number edge edge at)
    (whole.edges.each number edge (slice_get_within u.edges number edge at)) in
    slice_get_within u.nodes edge.from is.source is.from

-- events that belong to groups are first misses of them
pub first_misses : (groups : List Group) (slots : List Slot) (kinds : List Class) (misses : List Miss) (count : ℕ) → count ≡ length groups
    → AreMisses groups slots kinds misses → (k : ℕ) (x : Miss) → slice_get misses k ≡ Some x → IsFirstMiss kinds count x
first_misses groups slots kinds misses count long are k x at =
    let is = are.sound k x at in
    record { scope = is.group.scope; class = is.class; group = subst (λ (n : ℕ). x.group < n) (sym long) (slice_get_within groups x.group is.group is.listed) }

module _ (u : Unfolded) (m : Machine) (classes : Classes) (vectors : List (List Vector)) (groups : List Group) (number : ℕ) (edge : Edge) (block : Block)
    (kinds : List Class) (family : List Vector) (misses : List Miss) (stands : slice_get u.edges number ≡ Some edge) (of_node : IsBlockOf u edge.from block)
    (classed : slice_get classes.slots edge.from ≡ Some kinds) (listed : slice_get vectors edge.from ≡ Some family)
    (are : AreMisses groups block.slots kinds misses) where
  to_edge : (i n : ℕ) → IsEarly (IsFamilyRise m block kinds edge.taken misses family) (length family) i n → IsEdgeRise u m classes vectors groups number i n
  to_edge i n e =
      let w = e.is.is in
      let miss : IsMiss groups block.slots kinds w.x.event w.x.group = are.sound w.place w.x w.stands in
      record {
        group = miss.group;
        listed = subst (λ (k : ℕ). slice_get groups k ≡ Some miss.group) (sym w.group) miss.listed;
        is = record {
          edge = edge;
          block = block;
          kinds = kinds;
          v = e.is.v;
          event = w.x.event;
          f = w.f;
          stands = stands;
          classed = record { is = of_node; stands = classed };
          listed = record { family = family; place = e.step; stands = listed; listed = e.is.stands };
          of = record {
            node = of_node.node;
            slot = miss.slot;
            classes = kinds;
            stands = of_node.stands;
            event = ap (λ (xs : List Slot). slice_get xs w.x.event) (slots_are u edge.from block of_node.node of_node of_node.stands) ∙ miss.event_stands;
            fetches = miss.fetches;
            listed = classed;
            class = miss.class;
          };
          allowed = w.allowed;
          is = w.is;
        };
      }

  -- the same rise, where the edge, its block, the classes and the vectors are those that are known
  module _ (i n : ℕ) (r : IsEdgeRise u m classes vectors groups number i n) where
    one_edge : r.is.edge ≡ edge
    one_edge = same_Some r.is.edge edge (sym r.is.stands ∙ stands)

    its_block : r.is.block ≡ block
    its_block = one_block u edge.from r.is.block block (subst (λ (e : Edge). IsBlockOf u e.from r.is.block) one_edge r.is.classed.is) of_node

    its_kinds : r.is.kinds ≡ kinds
    its_kinds = same_Some r.is.kinds kinds (sym (subst (λ (e : Edge). slice_get classes.slots e.from ≡ Some r.is.kinds) one_edge r.is.classed.stands) ∙ classed)

    its_family : r.is.listed.family ≡ family
    its_family = same_Some r.is.listed.family family (sym (subst (λ (e : Edge). slice_get vectors e.from ≡ Some r.is.listed.family) one_edge r.is.listed.stands) ∙ listed)

    its_miss : IsMiss groups block.slots kinds r.is.event i
    its_miss =
        let of : IsOfGroup u classes r.group.line r.group.scope edge.from r.is.event =
        subst (λ (e : Edge). IsOfGroup u classes r.group.line r.group.scope e.from r.is.event) one_edge r.is.of in
        let own : of.classes ≡ kinds = same_Some of.classes kinds (sym of.listed ∙ classed) in
        record {
          slot = of.slot;
          group = r.group;
          event_stands = ap (λ (xs : List Slot). slice_get xs r.is.event) (sym (slots_are u edge.from block of.node of_node of.stands)) ∙ of.event;
          fetches = of.fetches;
          class = ap (λ (xs : List Class). slice_get xs r.is.event) (sym own) ∙ of.class;
          listed = r.listed;
        }

    to_family : IsEarly (IsFamilyRise m block kinds edge.taken misses family) (length family) i n
    to_family =
        let found = are.whole r.is.event i its_miss in
        let at : slice_get family r.is.listed.place ≡ Some r.is.v = subst (λ (vs : List Vector). slice_get vs r.is.listed.place ≡ Some r.is.v) its_family r.is.listed.listed in
        record {
          step = r.is.listed.place;
          early = slice_get_within family r.is.listed.place r.is.v at;
          is = record {
            v = r.is.v;
            stands = at;
            is = record {
              place = found.0;
              x = record { event = r.is.event; group = i };
              f = r.is.f;
              stands = found.1;
              group = refl;
              allowed = subst (λ (ks : List Class). IsAllowed ks r.is.f) its_kinds r.is.allowed;
              is = subst (λ (b : Block). n ≡ rise_at (cost_from m b edge.taken r.is.v) r.is.event r.is.f) its_block
                  (subst (λ (e : Edge). n ≡ rise_at (cost_from m r.is.block e.taken r.is.v) r.is.event r.is.f) one_edge r.is.is);
            };
          };
        }

  -- what the vectors raise, the edge does
  pub edge_raised : (a b : List ℕ) → Raises (IsEarly (IsFamilyRise m block kinds edge.taken misses family) (length family)) a b
      → Raises (IsEdgeRise u m classes vectors groups number) a b
  edge_raised a b raises =
      raised_alike (IsEarly (IsFamilyRise m block kinds edge.taken misses family) (length family)) (IsEdgeRise u m classes vectors groups number) a b
      to_edge to_family raises

-- amounts that all edges raised from zero are the charges
pub are_charges : (u : Unfolded) (m : Machine) (classes : Classes) (vectors : List (List Vector)) (groups : List Group) (count : ℕ) (amounts : List ℕ) (charges : List Charge)
    → AreGroups u classes groups → Raises (IsEarly (IsEdgeRise u m classes vectors groups) (length u.edges)) (replicate count 0) amounts
    → HaveAmounts groups amounts charges → AreCharges u m classes vectors charges
are_charges u m classes vectors groups count amounts charges all raises have = record {
  groups = subst (AreGroups u classes) (sym have.are) all;
  each = λ i charge at. its_charge i charge at;
}
  where
    its_group : (i : ℕ) (charge : Charge) → slice_get charges i ≡ Some charge → slice_get groups i ≡ Some (group_of charge)
    its_group i charge at = subst (λ (gs : List Group). slice_get gs i ≡ Some (group_of charge)) have.are (slice_get-map group_of charges i ∙ ap (option_map group_of) at)

    its_charge : (i : ℕ) (charge : Charge) → slice_get charges i ≡ Some charge → IsCharge u m classes vectors charge
    its_charge i charge at =
        let amount : charge.amount ≡ slice_index amounts i = have.each i charge at in
        let there : slice_get groups i ≡ Some (group_of charge) = its_group i charge at in
        record {
          greatest = λ number rise along.
              let less : rise ≤ slice_index amounts i = raises.covers i rise (record {
                step = number;
                early = slice_get_within u.edges number along.edge along.stands;
                is = record { group = group_of charge; listed = there; is = along };
              }) in
              omega (arith, less, amount);
          reached = elim (raises.reached i) [
            | inl same ↦ inl (amount ∙ same ∙ zero_at count i)
            | inr e ↦
                let group : e.is.group ≡ group_of charge = same_Some e.is.group (group_of charge) (sym e.is.listed ∙ there) in
                inr (
                  e.step,
                  subst (λ (n : ℕ). IsRiseAlong u m classes vectors (group_of charge) e.step n) (sym amount)
                      (subst (λ (g : Group). IsRiseAlong u m classes vectors g e.step (slice_index amounts i)) group e.is.is),
                )
          ];
        }

-- the events that were gathered are those of the node's block
pub ok_misses : (u : Unfolded) (node : ℕ) (groups : List Group) (own block : Block) (events : List Slot) (found kinds : List Class) (r : Result (Vec Miss) NoMemory)
    → IsBlockOf u node own → IsBlockOf u node block → events ≡ own.slots → found ≡ kinds
    → IfOk r (λ misses. AreMisses groups events found misses.items) → IfOk r (λ misses. AreMisses groups block.slots kinds misses.items)
ok_misses u node groups own block events found kinds (Ok misses) is other at same are =
    subst (λ (ks : List Class). AreMisses groups block.slots ks misses.items) same
    (subst (λ (b : Block). AreMisses groups b.slots found misses.items) (one_block u node own block is other)
    (subst (λ (es : List Slot). AreMisses groups es found misses.items) at are))
ok_misses u node groups own block events found kinds (Err e) is other at same are = tt
