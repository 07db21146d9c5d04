use Rattle.pipe_time.proofs.Delay.{missing_is_the_longest}
use Rattle.pipe_time.proofs.laws.every_fetch_missing_is_the_longest.Goals as goal

pub returns : goal.returns
returns c = missing_is_the_longest
