use Rattle.pipe_time.proofs.GoingOn.{completion_never_falls}
use Rattle.pipe_time.proofs.laws.completion_never_falls.Goals as goal

pub returns : goal.returns
returns c = completion_never_falls
