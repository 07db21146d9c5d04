use Rattle.std.proofs.Common.{true, List, get_or, subst, arith}
use Rattle.flow_ctx.specs.declared.unfolded.Call.{Call}
use Rattle.flow_ctx.specs.Targets.{Adds, At}
use Rattle.flow_ctx.proofs.TargetLemmas.{calls_more}
use Rattle.flow_ctx.proofs.leading.push_calls.Goals as goal

pub loop-entry-preserved : goal.loop-entry-preserved
loop-entry-preserved c =
    let i = c.loop-entry.entry-index in
    calls_more c.args.program.now c.requires c.args.chain.now c.args.site c.args.entries.now i c.loop-entry-test.true
    c.args.targets.now.items c.loop-entry.targets.items c.push_place.new.targets.items c.loop-entry.invariant
    (subst (λ (l : List Call). Adds (At c.args.program.now l (get_or c.args.entries.now i 0) true) c.loop-entry.targets.items c.push_place.new.targets.items)
    c.in_ok-longer.ensures c.in_ok-push_place.ensures)
