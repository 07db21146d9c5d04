use Rattle.std.proofs.Common.{true, List, get_or, subst, arith}
use Rattle.flow_ctx.specs.declared.unfolded.Call.{Call}
use Rattle.flow_ctx.specs.Targets.{Adds, At}
use Rattle.flow_ctx.proofs.TargetLemmas.{jumps_more}
use Rattle.flow_ctx.proofs.leading.push_jumps.Goals as goal

pub loop-jump-preserved : goal.loop-jump-preserved
loop-jump-preserved c =
    let i = c.loop-jump.jump-index in
    jumps_more c.args.program.now c.requires c.args.chain.now c.args.jumps.now i c.loop-jump-test.true
    c.args.targets.now.items c.loop-jump.targets.items c.push_place.new.targets.items c.loop-jump.invariant
    (subst (λ (l : List Call). Adds (At c.args.program.now l (get_or c.args.jumps.now i 0) true) c.loop-jump.targets.items c.push_place.new.targets.items)
    c.in_ok-from_slice.ensures.items c.in_ok-push_place.ensures)
