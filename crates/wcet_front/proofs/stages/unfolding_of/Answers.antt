use Rattle.std.proofs.Common.{rules}
use Rattle.wcet_front.proofs.FewNodes.{not_too_many}
use Rattle.wcet_front.proofs.stages.unfolding_of.Goals as goal

pub returns-in-Ok-clause-due : goal.returns-in-Ok-clause-due
returns-in-Ok-clause-due c unfolded small =
    c.unfoldings_are_one.ensures c.args.program c.in-Ok.unfolded unfolded c.requires c.in-Ok.ensures.unfolding small.is

pub returns-in-Err-TooManyNodes-clause-due : goal.returns-in-Err-TooManyNodes-clause-due
returns-in-Err-TooManyNodes-clause-due c unfolded small = not_too_many c.args.program unfolded small (search rules)
