use Rattle.std.proofs.Common.{ap, Err}
use Rattle.wcet_front.specs.StageLaws.{starved, starved_then}
use Rattle.wcet_front.proofs.Unread.{read_fails, cut_in_read, cut_behind_read, sound_fault}
use Rattle.wcet_front.proofs.files.read_file.Goals as goal

pub returns-in-Err-NoMemory-clause-starved : goal.returns-in-Err-NoMemory-clause-starved
returns-in-Err-NoMemory-clause-starved g c = cut_in_read _ _ _ _ c.in-Err-NoMemory.field-0 c.in-Err-NoMemory.field-0-is c.in-Err-NoMemory.ensures.read_names

pub returns-in_err-fault_reply-in-Err : goal.returns-in_err-fault_reply-in-Err
returns-in_err-fault_reply-in-Err g c = record {
  outcome = starved _ _ _ c.from_residual.ensures;
  starved = starved_then _ _ c.from_residual.ensures (cut_behind_read _ _ _ _ c.in-Err.fault c.fault_reply.ensures.other c.in-Err.ensures.read_names);
  holds = c.in-Err.ensures.unchanged;
  asked = c.in-Err.ensures.asked;
  read_faults = c.in-Err.ensures.read_faults;
  write_names = c.in-Err.ensures.write_names;
  write_faults = c.in-Err.ensures.write_faults;
  reliable = c.in-Err.ensures.reliable;
  sound = λ r. starved _ _ _ c.from_residual.ensures;
}

pub returns : goal.returns
returns g c = record {
  outcome = read_fails _ _ _ _ _ c.in-Err.fault _ c.fault_reply.ensures.other c.in-Err.ensures.read_names c.in-Err.ensures.outcome c.in_ok-fault_reply-in-Err.ensures.reply;
  starved = tt;
  holds = c.in-Err.ensures.unchanged;
  asked = c.in-Err.ensures.asked;
  read_faults = c.in-Err.ensures.read_faults;
  write_names = c.in-Err.ensures.write_names;
  write_faults = c.in-Err.ensures.write_faults;
  reliable = c.in-Err.ensures.reliable;
  sound = λ r. sound_fault _ c.in-Err.fault _ (λ e. c.in-Err.ensures.sound r (ap Err e)) c.in_ok-fault_reply-in-Err.ensures.reply;
}
