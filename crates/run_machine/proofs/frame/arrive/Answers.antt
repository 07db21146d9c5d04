use Rattle.std.proofs.Common.{ℕ, List, ap, ◌∙◌, false, refl}
use Rattle.std.specs.Option.{option_map_or}
use Rattle.wx_base.specs.Monitor as monitor
use Rattle.run_machine.specs.Judging.{frame_with, totals_of}
use Rattle.run_machine.proofs.Frames.{hit_there, missed}
use Rattle.run_machine.proofs.frame.arrive.Goals as goal

pub returns-in_ok-breach-in-Ok-clause-moved : goal.returns-in_ok-breach-in-Ok-clause-moved
returns-in_ok-breach-in-Ok-clause-moved c = λ entry callers.
    let loops = c.args.loops.now in
    let l = c.index-loops-i.result in
    let inside = c.is_inside-inside.ensures ∙ ap (λ (members : List ℕ). option_map_or (monitor.is_one_of members) c.args.last false) c.as_slice.ensures in
    hit_there loops c.in-Ok.i c.args.to l c.args.counts.now c.count_all.new.counts (frame_with loops entry c.args.last c.args.counts.now) callers c.is_inside-inside.result c.in_ok-breach-in-Ok.breach c.args.totals.now c.count_all.new.totals
    c.requires.heads c.in-Ok.ensures c.index-loops-i.is c.requires.counts inside c.in_ok-breach-in-Ok.ensures.breach c.in_ok-breach-in-Ok.ensures.counted c.in_ok-breach-in-Ok.ensures.summed refl

pub returns-in-Err-clause-moved : goal.returns-in-Err-clause-moved
returns-in-Err-clause-moved c = λ entry callers. missed c.args.loops.now c.in-Err.i c.args.to (frame_with c.args.loops.now entry c.args.last c.args.counts.now) callers (totals_of c.args.totals.now) c.in-Err.ensures
