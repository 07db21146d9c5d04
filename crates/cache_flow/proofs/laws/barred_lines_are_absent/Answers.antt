use Rattle.cache_flow.proofs.Runs.{barred_lines}
use Rattle.cache_flow.proofs.laws.barred_lines_are_absent.Goals as goal

pub returns : goal.returns
returns c = barred_lines c.access_keeps_cache.ensures c.may_access_covers.ensures c.may_bars_line.ensures
