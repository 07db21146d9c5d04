use Rattle.std.proofs.Common.{◌≡◌, ℕ, ◌<◌, length, sym, subst}
use Rattle.std.specs.Global.{Vec}
use Rattle.std.specs.Prelude.{IfOk, pos, ◌≤ℤ◌}
use Rattle.path_graph.specs.declared.graph.Graph.{Graph}
use Rattle.path_graph.specs.Conditions.{IsBounded, HasPrices}
use Rattle.path_graph.specs.Graph.{finish_at}
use Rattle.path_problem.specs.Potential.{ArePotentials, IsVertexLarge, NoClosedGain}
use Rattle.path_problem.proofs.potential.potentials.Goals as goal

pub potentials_on-requires-clause-layout : goal.potentials_on-requires-clause-layout
potentials_on-requires-clause-layout c = c.in_ok-layout.ensures.is

pub potentials_on-requires-clause-bounded : goal.potentials_on-requires-clause-bounded
potentials_on-requires-clause-bounded c = subst IsBounded (sym c.in_ok-layout.ensures.graph) c.requires.bounded

pub potentials_on-requires-clause-prices : goal.potentials_on-requires-clause-prices
potentials_on-requires-clause-prices c =
    let F : Graph → Type 0 = λ g. HasPrices g c.args.prices.now in
    subst F (sym c.in_ok-layout.ensures.graph) c.requires.prices

pub potentials_on-requires-clause-closed : goal.potentials_on-requires-clause-closed
potentials_on-requires-clause-closed c =
    let F : Graph → Type 0 = λ g. NoClosedGain g c.args.prices.now in
    subst F (sym c.in_ok-layout.ensures.graph) c.requires.closed

pub potentials_on-requires-clause-finishes : goal.potentials_on-requires-clause-finishes
potentials_on-requires-clause-finishes c =
    let F : Graph → Type 0 = λ g. (v : ℕ) → v < length g.finish → pos 0 ≤ℤ finish_at g v in
    subst F (sym c.in_ok-layout.ensures.graph) c.requires.finishes

pub returns-clause-ok : goal.returns-clause-ok
returns-clause-ok c =
    let F : Graph → Type 0 = λ g. IfOk c.potentials_on.result (λ (potentials : Vec ℕ). ArePotentials g c.args.prices.now potentials.items) in
    subst F c.in_ok-layout.ensures.graph c.potentials_on.ensures.ok

pub returns-clause-large : goal.returns-clause-large
returns-clause-large c = λ v e.
    let F : Graph → Type 0 = λ g. IsVertexLarge g c.args.prices.now v in
    subst F c.in_ok-layout.ensures.graph (c.potentials_on.ensures.large v e)
