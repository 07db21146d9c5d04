use Rattle.std.proofs.Common.{List, subst}
use Rattle.wx_base.specs.CacheStates.{may_accessed, may_start}
use Rattle.cache_ages.specs.Bounds.{may_ages, AreAges}
use Rattle.cache_flow.specs.declared.flow.Move.{Move}
use Rattle.cache_solve.specs.Orders.{MayCoversAt}
use Rattle.cache_solve.specs.Systems.{IsLeast}
use Rattle.cache_solve.proofs.Tables.{may_least}
use Rattle.cache_solve.proofs.may.may_states.Goals as goal

pub returns-clause-least : goal.returns-clause-least
returns-clause-least c =
    may_least c.args.shape c.args.flow.now c.in_ok-states.states.items c.requires.flow c.in_ok-states.ensures.long c.in_ok-states.ensures.alike
    (subst (λ (ms : List Move). IsLeast may_ages MayCoversAt may_accessed (λ s. may_start) (λ s ages. AreAges s ages) c.args.shape c.args.flow.now ms c.args.flow.now.start c.in_ok-states.states.items)
    c.as_slice.ensures c.in_ok-states.ensures.least)

pub returns-clause-each : goal.returns-clause-each
returns-clause-each c number state at = let is = c.in_ok-states.ensures.alike.each number state at in record { shape = is.of_shape; lines = is.of_lines }
