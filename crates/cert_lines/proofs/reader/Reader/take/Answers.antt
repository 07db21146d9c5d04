use Rattle.cert_lines.specs.Machine.{step}
use Rattle.cert_lines.proofs.reader.Reader.take.Goals as goal

pub returns-in-Between-clause-step : goal.returns-in-Between-clause-step
unfolding step
returns-in-Between-clause-step c = rw c.in-Between.is c.open.ensures.step
