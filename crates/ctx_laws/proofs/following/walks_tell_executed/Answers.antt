use Rattle.ctx_laws.proofs.Walks.{followed_walks_are_walks, walks_tell_executed}
use Rattle.ctx_laws.proofs.following.walks_tell_executed.Goals as goal

pub returns-clause-walks : goal.returns-clause-walks
returns-clause-walks c = followed_walks_are_walks

pub returns-clause-executed : goal.returns-clause-executed
returns-clause-executed c = walks_tell_executed
