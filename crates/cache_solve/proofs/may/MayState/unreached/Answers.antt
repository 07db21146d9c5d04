use Rattle.std.proofs.Common.{subst}
use Rattle.wx_base.specs.declared.machine.Shape.{Shape}
use Rattle.cache_ages.specs.Bounds.{may_ages, AreAges}
use Rattle.cache_solve.proofs.Lowering.{may_within}
use Rattle.cache_solve.proofs.may.MayState.unreached.Goals as goal

pub returns-clause-of : goal.returns-clause-of
returns-clause-of c = record {
  of_shape = c.in_ok-state.ensures.made.shape;
  of_lines = c.in_ok-state.ensures.made.lines;
  within = subst (λ (s : Shape). AreAges s (may_ages c.in_ok-state.state)) c.in_ok-state.ensures.made.shape (may_within c.in_ok-state.state c.are_bounds.ensures);
}
