use Rattle.std.proofs.Common.{List, subst}
use Rattle.wx_base.specs.CacheStates.{must_accessed, must_start}
use Rattle.cache_ages.specs.Bounds.{must_ages, AreAges}
use Rattle.cache_flow.specs.declared.flow.Move.{Move}
use Rattle.cache_solve.specs.Orders.{MustCoversAt}
use Rattle.cache_solve.specs.Systems.{IsLeast}
use Rattle.cache_solve.proofs.Tables.{must_least}
use Rattle.cache_solve.proofs.must.must_states.Goals as goal

pub returns-clause-least : goal.returns-clause-least
returns-clause-least c =
    must_least c.args.shape c.args.flow.now c.in_ok-states.states.items c.requires.flow c.in_ok-states.ensures.long c.in_ok-states.ensures.alike
    (subst (λ (ms : List Move). IsLeast must_ages MustCoversAt must_accessed (must_start) (λ s ages. Unit {0}) c.args.shape c.args.flow.now ms c.args.flow.now.start c.in_ok-states.states.items)
    c.as_slice.ensures c.in_ok-states.ensures.least)

pub returns-clause-each : goal.returns-clause-each
returns-clause-each c number state at = let is = c.in_ok-states.ensures.alike.each number state at in record { shape = is.of_shape; lines = is.of_lines }
