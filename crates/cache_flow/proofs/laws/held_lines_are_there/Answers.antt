use Rattle.cache_flow.proofs.Runs.{held_lines}
use Rattle.cache_flow.proofs.laws.held_lines_are_there.Goals as goal

pub returns : goal.returns
returns c = held_lines c.access_keeps_cache.ensures c.must_access_covers.ensures c.must_holds_line.ensures
