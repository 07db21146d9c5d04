use Rattle.pipe_time.proofs.Shift.{shift_moves_times, shift_moves_completion}
use Rattle.pipe_time.proofs.laws.a_shift_moves_all_times.Goals as goal

pub returns-clause-times : goal.returns-clause-times
returns-clause-times c = shift_moves_times

pub returns-clause-completion : goal.returns-clause-completion
returns-clause-completion c = shift_moves_completion
