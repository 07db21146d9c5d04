use Rattle.graph_loops.proofs.ToldLemmas.{lists_tell, ways_tell}
use Rattle.graph_loops.proofs.WalkedLemmas.{closed_walks}
use Rattle.graph_loops.proofs.laws.closed_walks_lie_in_loops.Goals as goal

pub returns-clause-walks : goal.returns-clause-walks
returns-clause-walks c = closed_walks

pub returns-clause-lists : goal.returns-clause-lists
returns-clause-lists c = lists_tell

pub returns-clause-ways : goal.returns-clause-ways
returns-clause-ways c = ways_tell
