use Rattle.std.proofs.Common.{arith}
use Rattle.path_problem.proofs.WholeLemmas.{all_below}
use Rattle.path_problem.proofs.layout.numbers_below.Goals as goal

pub returns-clause-each : goal.returns-clause-each
returns-clause-each c = λ a h. all_below c.loop-number.number c.loop-number.numbers.items c.loop-number.invariant a (omega arith)
