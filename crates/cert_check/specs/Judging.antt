-- How the vectors of a certificate are judged one by one. This project's own.
use Rattle.std.specs.Prelude.{◌≡◌, ℕ, ◌+◌, ◌<◌, ◌≤◌, ◌^◌, List, length, slice_get, Some, Option, All}
use Rattle.wx_base.specs.declared.machine.Machine.{Machine}
use Rattle.wx_base.specs.Machine.{IsMachine}
use Rattle.wx_base.specs.Blocks.{exit_from, finish_from}
use Rattle.xdd_table.specs.declared.node.Dd.{Dd}
use Rattle.xdd_table.specs.declared.node.Node.{Node}
use Rattle.xdd_table.specs.Diagram.{Combination, time}
use Rattle.flow_block.specs.declared.block.Block.{Block}
use Rattle.flow_ctx.specs.declared.unfolded.Edge.{Edge}
use Rattle.flow_ctx.specs.declared.unfolded.Unfolded.{Unfolded}
use Rattle.flow_ctx.specs.declared.scope.Scope.{Scope}
use Rattle.flow_ctx.specs.Laws.{IsUnfoldedOn}
use Rattle.flow_ctx.specs.Unfolding.{most_nodes}
use Rattle.pipe_block.specs.Events.{entries_of}
use Rattle.cache_class.specs.declared.class.Class.{Class}
use Rattle.cache_class.specs.declared.class.Classes.{Classes}
use Rattle.cache_class.specs.Allowed.{IsAllowed}
use Rattle.cache_class.specs.Classes.{AreClasses}
use Rattle.cert_text.specs.declared.certificate.CertVector.{CertVector}
use Rattle.cert_text.specs.declared.certificate.Charge.{Charge}
use Rattle.cert_text.specs.declared.certificate.Certificate.{Certificate}
use Rattle.cert_rules.specs.Prices.{charge_of, missed}
use Rattle.cert_rules.specs.Rules.{HasShape, HasSmallNumbers, IsClassed, PaysOn}
use Rattle.cert_rules.specs.Judged.{FailsFirst, IsBroken}
use Rattle.cert_judge.specs.Offers.{AreSmallCharges, IsCharged, charged_from}
use Rattle.cert_prices.specs.Keys.{charge_in}
use Rattle.cert_prices.specs.Sums.{AreEdgePrices}
use Rattle.cert_check.specs.declared.refused.Refused.{Refused}
use Rattle.cert_check.specs.declared.refused.Refused.TheVariants.{Rejected, NoMemory}

-- what is known of an unfolding, a machine, the classes of events and a certificate before the certificate's vectors are judged
pub record IsSubject (u : Unfolded) (m : Machine) (classes : Classes) (c : Certificate) : Type 0 where
  pub unfolded : IsUnfoldedOn m u
  pub few : length u.nodes ≤ most_nodes
  pub machine : IsMachine m
  pub classed : AreClasses u m classes
  pub shape : HasShape u classes c
  pub small : HasSmallNumbers c

-- a table has the charges of a list
pub record HasCharges (table : List ((ℕ × Option ℕ) × ℕ)) (charges : List Charge) : Type 0 where
  pub each : (line : ℕ) (scope : Scope) → charge_in table line scope ≡ charge_of charges line scope

-- what each edge costs and gives back is known, and no such amount is large
pub record ArePrices (c : Certificate) (u : Unfolded) (costs returns : List ℕ) : Type 0 where
  pub are : AreEdgePrices c u costs returns
  pub costs_small : All (λ price. price < 2 ^ 127) costs
  pub returns_small : All (λ price. price < 2 ^ 127) returns

-- a node's events have these classes, and a miss of each is charged this
pub record AreChargesOf (u : Unfolded) (classes : Classes) (c : Certificate) (node : ℕ) (kinds : List Class) (charges : List ℕ) : Type 0 where
  pub block : Block
  pub is : IsClassed u classes node block kinds
  pub small : AreSmallCharges kinds charges
  pub charged : (f : Combination) → charged_from charges 0 f kinds ≡ missed c.charges f block kinds

-- a node's events have these classes, and the diagram has what its misses are charged
pub record IsSite (nodes : List Node) (u : Unfolded) (classes : Classes) (c : Certificate) (node : ℕ) (kinds : List Class) (charged : Dd) : Type 0 where
  pub block : Block
  pub is : IsClassed u classes node block kinds
  pub diagram : IsCharged nodes kinds charged
  pub times : (f : Combination) → time nodes f charged.place ≡ missed c.charges f block kinds

-- a vector of a node pays for a run that ends in the node's block
pub record VectorPaysFinish (u : Unfolded) (m : Machine) (classes : Classes) (c : Certificate) (node : ℕ) (v : CertVector) : Type 0 where
  pub each : (block : Block) (kinds : List Class) (f : Combination) → IsClassed u classes node block kinds → IsAllowed kinds f
      → finish_from m v.slots.slots (entries_of block f) ≤ v.potential + missed c.charges f block kinds

-- a vector of the source of an edge pays for going on along the edge, which is given by its number
pub record VectorPaysEdge (u : Unfolded) (m : Machine) (classes : Classes) (c : Certificate) (v : CertVector) (number : ℕ) : Type 0 where
  pub each : (edge : Edge) (block : Block) (kinds : List Class) (f : Combination) → slice_get u.edges number ≡ Some edge
      → IsClassed u classes edge.from block kinds → IsAllowed kinds f
      → PaysOn u c number edge (v.potential + missed c.charges f block kinds) (exit_from m v.slots.slots (entries_of block f) edge.taken)

-- a vector of a node pays for going on along each of the node's edges
pub record VectorPaysEdges (u : Unfolded) (m : Machine) (classes : Classes) (c : Certificate) (node : ℕ) (v : CertVector) : Type 0 where
  pub each : (number : ℕ) (edge : Edge) → slice_get u.edges number ≡ Some edge → edge.from ≡ node → VectorPaysEdge u m classes c v number

-- The edges of a node are those with numbers from the first up to the end. Those before leave earlier nodes, those behind later ones.
pub record IsRange (edges : List Edge) (node first end : ℕ) : Type 0 where
  pub order : first ≤ end
  pub within : end ≤ length edges
  pub before : (k : ℕ) (e : Edge) → k < first → slice_get edges k ≡ Some e → e.from < node
  pub inside : (k : ℕ) (e : Edge) → first ≤ k → k < end → slice_get edges k ≡ Some e → e.from ≡ node
  pub after : (k : ℕ) (e : Edge) → end ≤ k → slice_get edges k ≡ Some e → node < e.from

-- the edges before a number leave nodes before a node, the others do not
pub record IsCut (edges : List Edge) (node first : ℕ) : Type 0 where
  pub within : first ≤ length edges
  pub before : (k : ℕ) (e : Edge) → k < first → slice_get edges k ≡ Some e → e.from < node
  pub after : (k : ℕ) (e : Edge) → first ≤ k → slice_get edges k ≡ Some e → node ≤ e.from

-- the vector of a family at a place has a property, if there is one
pub record FamilyPays (P : CertVector → Type 0) (family : List CertVector) (place : ℕ) : Type 0 where
  pub each : (v : CertVector) → slice_get family place ≡ Some v → P v

-- something fails at a place, and holds at all places before
pub record FailsAt (P : ℕ → Type 0) (place : ℕ) : Type 0 where
  pub fails : P place → ⊥
  pub before : (earlier : ℕ) → earlier < place → P earlier

-- a refusal names a rule, a node, and the first place at which the node breaks the rule
abbrev pub NamesPlace : (ℕ → Type 0) → ℕ → ℕ → Refused → Type 0
NamesPlace P rule node (Rejected named at place) = (named ≡ rule) × ((at ≡ node) × FailsAt P place)
NamesPlace P rule node NoMemory = Unit {0}

-- a refusal names a rule and the first vector of all nodes that breaks it
abbrev pub NamesFirst : (ℕ → ℕ → Type 0) → ℕ → Refused → Type 0
NamesFirst P rule (Rejected named node place) = (named ≡ rule) × FailsFirst P node place
NamesFirst P rule NoMemory = Unit {0}

-- a refusal names the rule that is broken first, and where
abbrev pub Breaks : Unfolded → Machine → Classes → Certificate → Refused → Type 0
Breaks u m classes c (Rejected rule node place) = IsBroken u m classes c rule node place
Breaks u m classes c NoMemory = Unit {0}
