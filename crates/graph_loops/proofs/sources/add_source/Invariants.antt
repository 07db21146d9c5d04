use Rattle.std.proofs.Common.{take}
use Rattle.graph_loops.specs.Graph.{lists_of}
use Rattle.graph_loops.specs.Walk.{IsSourceAdded}
use Rattle.graph_loops.proofs.sources.add_source.Given as goal

abbrev pub invariant-loop-v : goal.invariant-loop-v
invariant-loop-v l = IsSourceAdded (lists_of l.initial.sources) (lists_of l.sources) l.u (take l.v-index l.targets)
