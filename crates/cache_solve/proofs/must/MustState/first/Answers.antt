use Rattle.std.proofs.Common.{subst}
use Rattle.wx_base.specs.declared.machine.Shape.{Shape}
use Rattle.wx_base.specs.CacheStates.{Ages, must_start}
use Rattle.cache_ages.specs.Bounds.{must_ages, AreAges}
use Rattle.cache_solve.specs.Orders.{MustCoversAt}
use Rattle.cache_solve.proofs.Lowering.{must_within}
use Rattle.cache_solve.proofs.Orders.{must_same}
use Rattle.cache_solve.proofs.must.MustState.first.Goals as goal

pub returns-clause-of : goal.returns-clause-of
returns-clause-of c = record {
  of_shape = c.in_ok-state.ensures.made.shape;
  of_lines = c.in_ok-state.ensures.made.lines;
  within = subst (λ (s : Shape). AreAges s (must_ages c.in_ok-state.state)) c.in_ok-state.ensures.made.shape (must_within c.in_ok-state.state c.are_bounds.ensures);
}

pub returns-clause-covers : goal.returns-clause-covers
returns-clause-covers c =
    subst (λ (a : Ages). MustCoversAt c.args.lines.now (must_ages c.in_ok-state.state) a) c.in_ok-state.ensures.unknown (must_same c.args.lines.now (must_ages c.in_ok-state.state))

pub returns-clause-covered : goal.returns-clause-covered
returns-clause-covered c =
    subst (λ (a : Ages). MustCoversAt c.args.lines.now a (must_ages c.in_ok-state.state)) c.in_ok-state.ensures.unknown (must_same c.args.lines.now (must_ages c.in_ok-state.state))
