use Rattle.pipe_time.proofs.Floors.{raising_changes_nothing}
use Rattle.pipe_time.proofs.laws.raising_to_the_next_fetch_changes_nothing.Goals as goal

pub returns : goal.returns
returns c = raising_changes_nothing
