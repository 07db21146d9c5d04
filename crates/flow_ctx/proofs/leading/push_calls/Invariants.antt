use Rattle.std.proofs.Common.{take}
use Rattle.flow_ctx.specs.Targets.{Adds, AtCallee}
use Rattle.flow_ctx.proofs.leading.push_calls.Given as goal

abbrev pub invariant-loop-entry : goal.invariant-loop-entry
invariant-loop-entry l = Adds (AtCallee l.program l.chain l.site (take l.entry-index l.entries)) l.initial.targets.items l.targets.items
