use Rattle.std.proofs.Common.{◌≡◌, ◌+◌, take, map, length}
use Rattle.std.specs.List.{sum}
use Rattle.flow_graph.proofs.construction.has_more_blocks.Given as goal

abbrev pub invariant-loop-function : goal.invariant-loop-function
invariant-loop-function l = l.left + sum (map (λ f. length f.blocks) (take l.function-index l.functions)) ≡ l.most
