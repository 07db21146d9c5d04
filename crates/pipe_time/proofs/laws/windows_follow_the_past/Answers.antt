use Rattle.pipe_time.proofs.Windows.{window_gives_times, window_gives_window, zero_is_nothing, nothing_is_zero, zero_stays, stepping_is_the_recurrence}
use Rattle.pipe_time.proofs.laws.windows_follow_the_past.Goals as goal

pub returns-clause-times : goal.returns-clause-times
returns-clause-times c = window_gives_times

pub returns-clause-slots : goal.returns-clause-slots
returns-clause-slots c = window_gives_window

pub returns-clause-zero : goal.returns-clause-zero
returns-clause-zero c = zero_is_nothing

pub returns-clause-nothing : goal.returns-clause-nothing
returns-clause-nothing c = nothing_is_zero

pub returns-clause-stays : goal.returns-clause-stays
returns-clause-stays c = zero_stays

pub returns-clause-stepping : goal.returns-clause-stepping
returns-clause-stepping c = stepping_is_the_recurrence
