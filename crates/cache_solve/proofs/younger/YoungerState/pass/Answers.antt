use Rattle.std.proofs.Common.{List, ℕ, sym, subst}
use Rattle.wx_base.specs.CacheStates.{Younger as Knowledge, younger_accessed}
use Rattle.cache_flow.specs.Solutions.{YoungerCoversAt}
use Rattle.cache_pers.specs.Stays.{younger_of}
use Rattle.cache_solve.specs.Orders.{IsOfLines}
use Rattle.cache_solve.proofs.Orders.{younger_same, younger_stays}
use Rattle.cache_solve.proofs.younger.YoungerState.pass.Goals as goal

pub returns-clause-within : goal.returns-clause-within
returns-clause-within c =
    subst (λ (y : Knowledge). IsOfLines c.args.self.now.lines y) (sym c.access.ensures.younger)
    (younger_stays c.args.self.now.shape c.args.self.now.lines (younger_of c.args.self.now) c.args.line c.requires.listed c.requires.within)

pub returns-clause-covers : goal.returns-clause-covers
returns-clause-covers c =
    subst (λ (y : Knowledge). YoungerCoversAt c.args.self.now.lines (younger_of c.access.new.self) y) c.access.ensures.younger
    (younger_same c.args.self.now.lines (younger_of c.access.new.self))

pub returns-clause-covered : goal.returns-clause-covered
returns-clause-covered c =
    subst (λ (y : Knowledge). YoungerCoversAt c.args.self.now.lines y (younger_of c.access.new.self)) c.access.ensures.younger
    (younger_same c.args.self.now.lines (younger_of c.access.new.self))
