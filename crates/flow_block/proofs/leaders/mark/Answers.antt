use Rattle.std.proofs.Common.{◌<◌, length, ap, ◌∙◌, refl}
use Rattle.std.proofs.lemmas.List.{take_more}
use Rattle.std.proofs.lemmas.Bool.{both_ways}
use Rattle.flow_block.specs.Code.{is_marked}
use Rattle.flow_block.proofs.Marks.{put_one, skipped, same_place, moved}
use Rattle.flow_block.proofs.leaders.mark.Goals as goal
use Rattle.flow_block.proofs.leaders.mark.Goals.{in-Some+then-body-place, in-Some+else-body-place, in_default}

pub loop-address-preserved : goal.loop-address-preserved
loop-address-preserved c =
    let list = c.args.list.now in
    let i = c.loop-address.address-index in
    let l : i < length list = c.loop-address-test.true in
    let more = take_more list i 0 l in
    elim c.match-find.branch [
      | in-Some+then-body-place w ↦
          moved _ _ _ (ap (λ v. v.items) w.marks-is) more (put_one _ _ _ _ _ _ w.in-Some.place c.requires.ascending c.requires.mark_each c.loop-address.invariant (w.in-Some.ensures) w.if-body-place.true)
      | in-Some+else-body-place w ↦
          moved _ _ _ (ap (λ v. v.items) w.marks-is) more (skipped _ _ _ _ _ _ c.loop-address.invariant
          (λ place h b. both_ways _ w.if-body-place.false (ap (λ n. is_marked c.args.body.now n) (same_place _ _ _ w.in-Some.place place c.requires.ascending (w.in-Some.ensures) h refl) ∙ b)))
      | in_default w ↦
          moved _ _ _ (ap (λ v. v.items) w.marks-is) more (skipped _ _ _ _ _ _ c.loop-address.invariant (λ place h b. w.in_default.ensures place h))
    ]
