use Rattle.verdict_laws.proofs.Verdicts.{valid_or_broken}
use Rattle.verdict_laws.proofs.laws.certificates_are_valid_or_broken.Goals as goal

pub returns : goal.returns
returns c = valid_or_broken
