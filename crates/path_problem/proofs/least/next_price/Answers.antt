use Rattle.std.proofs.Common.{arith}
use Rattle.std.proofs.lemmas.Int.{ints}
use Rattle.path_problem.proofs.LeastLemmas.{ceil_next, ceil_large, never_pays}
use Rattle.path_problem.proofs.least.next_price.Goals as goal

pub returns-then-slope-eq0 : goal.returns-then-slope-eq0
returns-then-slope-eq0 c = never_pays c.args.slope.weight c.args.slope.backs _ c.requires c.if-slope-eq0.true

pub returns-then-next-from : goal.returns-then-next-from
returns-then-next-from c = ceil_large c.args.slope.weight _ c.args.slope.backs _ _ (let h = c.requires in omega (arith, ints)) c.from.ensures (omega arith) c.div_ceil-next.ensures (omega arith)

pub returns-else-next-from : goal.returns-else-next-from
returns-else-next-from c = ceil_next c.args.slope.weight _ c.args.slope.backs _ _ (let h = c.requires in omega (arith, ints)) c.from.ensures (omega arith) c.div_ceil-next.ensures (omega arith)
