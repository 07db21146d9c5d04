use Rattle.std.proofs.Common.{◌-◌, length}
use Rattle.cert_judge.proofs.offer.+charged_on.Given as goal

abbrev pub decreases-charged_on : goal.decreases-charged_on
decreases-charged_on l = length l.classes.now - l.number
