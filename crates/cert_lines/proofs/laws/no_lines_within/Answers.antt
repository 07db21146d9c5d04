use Rattle.cert_lines.proofs.Within.{none_within}
use Rattle.cert_lines.proofs.laws.no_lines_within.Goals as goal

pub returns : goal.returns
returns c = none_within
