-- What is known of each function by numbers: its entry, its loops, and the least address on a cycle without back edges.
use Rattle.std.specs.Prelude.{◌≡◌, ◌<◌, ℕ, Bool, false, IsTrue, IsSome, List, AllPairs, All, Any, map, length, slice_get, slice_index, slice_index_or, Some, None}
use Rattle.wx_base.specs.declared.facts.Facts.{Facts}
use Rattle.wx_base.specs.declared.image.Image.{Image}
use Rattle.wx_base.specs.declared.machine.Machine.{Machine}
use Rattle.wx_base.specs.Functions.{AreLoops, fact_of, fact_on}
use Rattle.graph_loops.specs.Loops as graph
use Rattle.graph_loops.specs.declared.loops.Loop.{Loop}
use Rattle.graph_loops.specs.Graph.{lists_of}
use Rattle.flow_graph.specs.declared.listing.Listing.{Listing}
use Rattle.flow_graph.specs.declared.outline.Outline.{Outline}
use Rattle.flow_graph.specs.declared.program.Function.{Function}
use Rattle.flow_graph.specs.declared.program.LoopInfo.{LoopInfo}
use Rattle.flow_block.specs.Blocks.{AreBlocks}
use Rattle.flow_graph.specs.Listing.{IsStart}
use Rattle.flow_graph.specs.Program.{bounded_loop, judged_function}

-- the outline of the function that begins at a vertex
pub record IsOutline (ways : List (List ℕ)) (o : Outline) : Type 0 where
  pub cycle : graph.IsLeastCycle ways o.entry o.structure.cycle
  pub loops : graph.AreLoops ways o.entry o.structure.loops

-- the outlines of the functions whose entries are marked
pub record AreOutlines (ways : List (List ℕ)) (entries : List Bool) (outlines : List Outline) : Type 0 where
  pub ascending : AllPairs (λ o p. o.entry < p.entry) outlines
  pub each : All (λ o. IsOutline ways o) outlines
  pub marked : All (λ o. IsTrue (slice_index_or entries o.entry false)) outlines
  pub whole : (v : ℕ) → IsTrue (slice_index_or entries v false) → Any (λ o. o.entry ≡ v) outlines

-- the outlines of all functions, those that are called and that of the start
pub record AreAllOutlines (start : ℕ) (l : Listing) (outlines : List Outline) : Type 0 where
  pub marks : List Bool
  pub entries : IsStart l.addresses.items (lists_of l.calls.items) start marks
  pub marked : AreOutlines l.ways marks outlines

-- a number is the head of a loop in some outline, and no fact bounds it
pub record IsUnboundedNumber (facts : Facts) (addresses : List ℕ) (outlines : List Outline) (v : ℕ) : Type 0 where
  pub head : Any (λ o. Any (λ l. l.head ≡ v) o.structure.loops) outlines
  pub unbounded : fact_of facts (slice_index addresses v) ≡ None

-- the function that begins at an address
pub record IsFunction (image : Image) (facts : Facts) (machine : Machine) (entry : ℕ) (f : Function) : Type 0 where
  pub begins : f.entry ≡ entry
  pub blocks : AreBlocks image facts machine f.entry f.blocks
  pub loops : AreLoops image facts f.entry (judged_function f).loops

-- a fact bounds the head of each of some loops
abbrev pub HaveBounds : Facts → List ℕ → List Loop → Type 0
HaveBounds facts addresses loops = All (λ l. IsSome (fact_of facts (slice_index addresses l.head))) loops

-- a fact bounds each head of an outline
pub record HasBounds (facts : Facts) (addresses : List ℕ) (o : Outline) : Type 0 where
  pub each : HaveBounds facts addresses o.structure.loops

-- a loop with its addresses, and with the bounds of the fact on its head
pub record IsLoopInfo (facts : Facts) (addresses : List ℕ) (found : Loop) (info : LoopInfo) : Type 0 where
  pub head : info.head ≡ slice_index addresses found.head
  pub members : info.members ≡ map (λ j. slice_index addresses j) found.members
  pub bounds : fact_of facts info.head ≡ Some (fact_on (bounded_loop info))

-- the same of each of some loops
pub record AreLoopInfos (facts : Facts) (addresses : List ℕ) (loops : List Loop) (infos : List LoopInfo) : Type 0 where
  pub count : length infos ≡ length loops
  pub each : (i : ℕ) (l : Loop) (info : LoopInfo) → slice_get loops i ≡ Some l → slice_get infos i ≡ Some info → IsLoopInfo facts addresses l info

-- the functions of some outlines
pub record AreFunctionsOf (image : Image) (facts : Facts) (machine : Machine) (addresses : List ℕ) (outlines : List Outline) (functions : List Function) : Type 0 where
  pub entries : map (λ f. f.entry) functions ≡ map (λ o. slice_index addresses o.entry) outlines
  pub each : All (λ f. IsFunction image facts machine f.entry f) functions
