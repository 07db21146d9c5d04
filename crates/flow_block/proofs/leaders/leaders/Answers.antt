use Rattle.std.proofs.Common.{◌+◌, Bool, List, subst, sym, ap, arith}
use Rattle.flow_block.proofs.Entered.{LeadersTo, begun_by, looked_by, some_insn, passed, all_looked}
use Rattle.flow_block.proofs.leaders.leaders.Goals as goal
use Rattle.flow_block.proofs.leaders.leaders.Goals.{then-body-place+in_ok-list, else-body-place}

pub loop-place-init : goal.loop-place-init
loop-place-init g c = begun_by _ _ _ _ _ _ c.requires.1.1.0 (c.in_ok-marks.ensures.items_if_clones_equal (λ y e. e)) c.mark.ensures

pub loop-place-preserved : goal.loop-place-preserved
loop-place-preserved g c =
    elim c.if-body-place.branch [
      | then-body-place+in_ok-list w ↦
          looked_by g.of _ _ _ _ _ _ _ _ _ _ _ c.requires.0 c.requires.1.0 c.loop-place.invariant c.loop-place-test.true w.if-body-place.true w.mark-then-body-place.ensures w.deref.ensures.value w.in_ok-list.ensures (ap (λ v. v.items) w.marks-is)
      | else-body-place w ↦ subst (λ (x : List Bool). LeadersTo g.of c.args.code.now.addresses.now c.args.body.now x (c.loop-place.place + 1)) (sym (ap (λ v. v.items) w.marks-is)) (passed _ _ _ _ _ c.loop-place.invariant w.if-body-place.false)
    ]

pub returns : goal.returns
returns g c = all_looked _ _ _ _ _ some_insn _ c.requires.0 c.loop-place.invariant (omega arith)
