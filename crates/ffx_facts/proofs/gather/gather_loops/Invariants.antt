use Rattle.std.proofs.Common.{◌≡◌, ◌++◌, drop}
use Rattle.ffx_facts.specs.Order.{loop_facts}
use Rattle.ffx_facts.proofs.gather.gather_loops.Given as goal

abbrev pub invariant-loop-says : goal.invariant-loop-says
invariant-loop-says l = l.loops.items ++ loop_facts (drop l.says-index l.all) ≡ loop_facts l.all
