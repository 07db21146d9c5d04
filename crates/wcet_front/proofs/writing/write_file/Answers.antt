use Rattle.std.proofs.Common.{ap, Err}
use Rattle.wcet_front.specs.StageLaws.{starves_anyway}
use Rattle.wcet_front.proofs.Unwritten.{cut_in_write, stops_unwritten, stops_sound}
use Rattle.wcet_front.proofs.writing.write_file.Goals as goal

pub returns-in-Err-clause-outcome : goal.returns-in-Err-clause-outcome
returns-in-Err-clause-outcome g c =
    let write = c.in-Err.ensures in
    stops_unwritten _ _ _ _ _ _ _ _ c.args.bytes.now _ c.in-Err.fault c.write_stop.ensures write.others write.write_names write.outcome

pub returns-in-Err-clause-starved : goal.returns-in-Err-clause-starved
returns-in-Err-clause-starved g c =
    let write = c.in-Err.ensures in
    starves_anyway _ c.write_stop.result (cut_in_write _ _ _ _ _ _ _ _ c.args.bytes.now c.in-Err.fault write.others write.write_names write.outcome)

pub returns-in-Err-clause-sound : goal.returns-in-Err-clause-sound
returns-in-Err-clause-sound g c r =
    let write = c.in-Err.ensures in
    stops_sound _ _ _ _ _ c.args.bytes.now _ c.in-Err.fault c.write_stop.ensures (λ e. write.sound r (ap Err e)) write.outcome
