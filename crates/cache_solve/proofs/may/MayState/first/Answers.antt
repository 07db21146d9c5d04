use Rattle.std.proofs.Common.{subst}
use Rattle.wx_base.specs.declared.machine.Shape.{Shape}
use Rattle.wx_base.specs.CacheStates.{Ages, may_start}
use Rattle.cache_ages.specs.Bounds.{may_ages, AreAges}
use Rattle.cache_solve.specs.Orders.{MayCoversAt}
use Rattle.cache_solve.proofs.Lowering.{may_within}
use Rattle.cache_solve.proofs.Orders.{may_same}
use Rattle.cache_solve.proofs.may.MayState.first.Goals as goal

pub returns-clause-of : goal.returns-clause-of
returns-clause-of c = record {
  of_shape = c.in_ok-state.ensures.made.shape;
  of_lines = c.in_ok-state.ensures.made.lines;
  within = subst (λ (s : Shape). AreAges s (may_ages c.in_ok-state.state)) c.in_ok-state.ensures.made.shape (may_within c.in_ok-state.state c.are_bounds.ensures);
}

pub returns-clause-covers : goal.returns-clause-covers
returns-clause-covers c =
    subst (λ (a : Ages). MayCoversAt c.args.lines.now (may_ages c.in_ok-state.state) a) c.in_ok-state.ensures.anywhere (may_same c.args.lines.now (may_ages c.in_ok-state.state))

pub returns-clause-covered : goal.returns-clause-covered
returns-clause-covered c =
    subst (λ (a : Ages). MayCoversAt c.args.lines.now a (may_ages c.in_ok-state.state)) c.in_ok-state.ensures.anywhere (may_same c.args.lines.now (may_ages c.in_ok-state.state))
