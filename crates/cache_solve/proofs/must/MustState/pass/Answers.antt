use Rattle.std.proofs.Common.{subst}
use Rattle.wx_base.specs.declared.machine.Shape.{Shape}
use Rattle.cache_ages.specs.Bounds.{must_ages, AreAges}
use Rattle.cache_solve.proofs.Lowering.{must_passes, must_within}
use Rattle.cache_solve.proofs.must.MustState.pass.Goals as goal

pub returns-clause-within : goal.returns-clause-within
returns-clause-within c =
    subst (λ (s : Shape). AreAges s (must_ages c.access.new.self)) c.access.ensures.same.shape (must_within c.access.new.self c.are_bounds-2.ensures)

pub returns-clause-covers : goal.returns-clause-covers
returns-clause-covers c = (must_passes c.args.self.now c.access.new.self c.args.line c.access.ensures.ages).0

pub returns-clause-covered : goal.returns-clause-covered
returns-clause-covered c = (must_passes c.args.self.now c.access.new.self c.args.line c.access.ensures.ages).1
