use Rattle.std.proofs.Common.{arith}
use Rattle.cert_prices.proofs.BoundLemmas.{worth_bound}
use Rattle.cert_prices.proofs.start.worth.Goals as goal

pub returns-clause-bound : goal.returns-clause-bound
returns-clause-bound c = worth_bound c.from.result c.from-2.result (omega arith) (omega arith)
