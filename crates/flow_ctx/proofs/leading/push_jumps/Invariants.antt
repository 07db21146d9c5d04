use Rattle.std.proofs.Common.{take}
use Rattle.flow_ctx.specs.Targets.{Adds, AtSome}
use Rattle.flow_ctx.proofs.leading.push_jumps.Given as goal

abbrev pub invariant-loop-jump : goal.invariant-loop-jump
invariant-loop-jump l = Adds (AtSome l.program l.chain (take l.jump-index l.jumps)) l.initial.targets.items l.targets.items
