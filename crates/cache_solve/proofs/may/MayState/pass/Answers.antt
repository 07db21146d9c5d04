use Rattle.std.proofs.Common.{subst}
use Rattle.wx_base.specs.declared.machine.Shape.{Shape}
use Rattle.cache_ages.specs.Bounds.{may_ages, AreAges}
use Rattle.cache_solve.proofs.Lowering.{may_passes, may_within}
use Rattle.cache_solve.proofs.may.MayState.pass.Goals as goal

pub returns-clause-within : goal.returns-clause-within
returns-clause-within c =
    subst (λ (s : Shape). AreAges s (may_ages c.access.new.self)) c.access.ensures.same.shape (may_within c.access.new.self c.are_bounds-2.ensures)

pub returns-clause-covers : goal.returns-clause-covers
returns-clause-covers c = (may_passes c.args.self.now c.access.new.self c.args.line c.access.ensures.ages).0

pub returns-clause-covered : goal.returns-clause-covered
returns-clause-covered c = (may_passes c.args.self.now c.access.new.self c.args.line c.access.ensures.ages).1
