use Rattle.std.proofs.Common.{◌≡◌, ℕ, length, sym, subst}
use Rattle.std.specs.Prelude.{IfOk, Err}
use Rattle.path_graph.specs.declared.graph.Graph.{Graph}
use Rattle.path_problem.specs.declared.path_error.PathError.TheVariants.{LoopLarge}
use Rattle.path_graph.specs.Conditions.{IsBounded, HasPrices}
use Rattle.path_problem.specs.Need.{HasNeeds, IsLoopLarge}
use Rattle.path_problem.specs.Potential.{NoClosedGain}
use Rattle.path_problem.proofs.needs.prices.Goals as goal

pub prices_on-requires-clause-layout : goal.prices_on-requires-clause-layout
prices_on-requires-clause-layout c = c.in_ok-layout.ensures.is

pub prices_on-requires-clause-bounded : goal.prices_on-requires-clause-bounded
prices_on-requires-clause-bounded c = subst IsBounded (sym c.in_ok-layout.ensures.graph) c.requires.bounded

pub prices_on-requires-clause-chosen : goal.prices_on-requires-clause-chosen
prices_on-requires-clause-chosen c =
    let F : Graph → Type 0 = λ g. length c.args.chosen.now ≡ length g.totals in
    subst F (sym c.in_ok-layout.ensures.graph) c.requires.chosen

pub returns-clause-ok : goal.returns-clause-ok
returns-clause-ok c =
    let F : Graph → Type 0 = λ g. IfOk c.prices_on.result (λ prices. HasNeeds g c.args.chosen.now prices) in
    subst F c.in_ok-layout.ensures.graph c.prices_on.ensures.ok

pub returns-clause-priced : goal.returns-clause-priced
returns-clause-priced c =
    let F : Graph → Type 0 = λ g. IfOk c.prices_on.result (HasPrices g) in
    subst F c.in_ok-layout.ensures.graph c.prices_on.ensures.priced

pub returns-clause-closed : goal.returns-clause-closed
returns-clause-closed c =
    let F : Graph → Type 0 = λ g. IfOk c.prices_on.result (NoClosedGain g) in
    subst F c.in_ok-layout.ensures.graph c.prices_on.ensures.closed

pub returns-clause-large : goal.returns-clause-large
returns-clause-large c = λ n e.
    let F : Graph → Type 0 = λ g. IsLoopLarge g c.args.chosen.now n in
    subst F c.in_ok-layout.ensures.graph (c.prices_on.ensures.large n e)
