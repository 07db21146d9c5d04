use Rattle.state_families.specs.Families.{IsGreatest}
use Rattle.state_families.proofs.GrowthLemmas.{Among}
use Rattle.state_families.proofs.growth.greatest.Given as goal

abbrev pub invariant-loop-other : goal.invariant-loop-other
invariant-loop-other l = IsGreatest (Among l.first l.others l.other-index) l.slots
