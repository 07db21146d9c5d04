use Rattle.std.proofs.Common.{take}
use Rattle.flow_graph.specs.Outlines.{AreLoopInfos}
use Rattle.flow_graph.proofs.function.loop_infos.Given as goal

abbrev pub invariant-loop-found : goal.invariant-loop-found
invariant-loop-found l = AreLoopInfos l.facts l.addresses (take l.found-index l.loops) l.infos.items
