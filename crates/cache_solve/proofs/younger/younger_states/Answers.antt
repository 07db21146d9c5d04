use Rattle.std.proofs.Common.{ℕ, List, sym, subst}
use Rattle.wx_base.specs.CacheStates.{younger_accessed, younger_start}
use Rattle.cache_flow.specs.Solutions.{YoungerCoversAt}
use Rattle.cache_pers.specs.Stays.{younger_of}
use Rattle.cache_solve.specs.Systems.{IsLeast}
use Rattle.cache_solve.proofs.Tables.{younger_least}
use Rattle.cache_solve.proofs.younger.younger_states.Goals as goal

pub returns-clause-least : goal.returns-clause-least
returns-clause-least c part head inner =
    younger_least c.args.shape c.args.flow.now part c.args.inner.now c.in_ok-states.states.items c.requires.flow c.in_ok-states.ensures.long inner c.in_ok-states.ensures.alike
    (subst (λ (n : ℕ). IsLeast younger_of YoungerCoversAt younger_accessed (λ s. younger_start) (λ s younger. Unit {0}) c.args.shape c.args.flow.now c.args.inner.now n c.in_ok-states.states.items)
    (sym head) c.in_ok-states.ensures.least)

pub returns-clause-each : goal.returns-clause-each
returns-clause-each c number state at = let is = c.in_ok-states.ensures.alike.each number state at in record { shape = is.of_shape; lines = is.of_lines }

pub returns-clause-within : goal.returns-clause-within
returns-clause-within c number state at = (c.in_ok-states.ensures.alike.each number state at).within
