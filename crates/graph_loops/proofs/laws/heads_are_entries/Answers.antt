use Rattle.graph_loops.proofs.EntranceLemmas.{back_edges_come_from_members, heads_are_on_paths, entered_at_heads, ways_in_have_heads, entered}
use Rattle.graph_loops.proofs.laws.heads_are_entries.Goals as goal

pub returns-clause-back : goal.returns-clause-back
returns-clause-back c = back_edges_come_from_members

pub returns-clause-paths : goal.returns-clause-paths
returns-clause-paths c = heads_are_on_paths

pub returns-clause-edges : goal.returns-clause-edges
returns-clause-edges c = entered_at_heads

pub returns-clause-ways : goal.returns-clause-ways
returns-clause-ways c = ways_in_have_heads

pub returns-clause-outside : goal.returns-clause-outside
returns-clause-outside c = entered
