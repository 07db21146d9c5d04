use Rattle.std.proofs.Common.{◌≡◌, ℕ, ◌<◌, true, replicate, length, sym, subst}
use Rattle.std.specs.Prelude.{IfOk, pos, ◌≤ℤ◌}
use Rattle.path_graph.specs.declared.graph.Graph.{Graph}
use Rattle.path_graph.specs.Conditions.{IsBounded}
use Rattle.path_graph.specs.Graph.{finish_at}
use Rattle.path_problem.specs.Solution.{TurnsSoFar}
use Rattle.path_problem.proofs.choice.take_turns.Goals as goal

pub take_turns_on-requires-clause-layout : goal.take_turns_on-requires-clause-layout
take_turns_on-requires-clause-layout c = c.in_ok-layout.ensures.is

pub take_turns_on-requires-clause-bounded : goal.take_turns_on-requires-clause-bounded
take_turns_on-requires-clause-bounded c = subst IsBounded (sym c.in_ok-layout.ensures.graph) c.requires.bounded

pub take_turns_on-requires-clause-finishes : goal.take_turns_on-requires-clause-finishes
take_turns_on-requires-clause-finishes c =
    let F : Graph → Type 0 = λ g. (v : ℕ) → v < length g.finish → pos 0 ≤ℤ finish_at g v in
    subst F (sym c.in_ok-layout.ensures.graph) c.requires.finishes

pub take_turns_on-requires-clause-chosen : goal.take_turns_on-requires-clause-chosen
take_turns_on-requires-clause-chosen c =
    let F : Graph → Type 0 = λ g. c.args.chosen.now ≡ replicate (length g.totals) true in
    subst F (sym c.in_ok-layout.ensures.graph) c.requires.chosen

pub returns : goal.returns
returns c =
    let F : Graph → Type 0 = λ g. IfOk c.take_turns_on.result (TurnsSoFar g (length g.totals) c.take_turns_on.new.chosen) in
    subst F c.in_ok-layout.ensures.graph c.take_turns_on.ensures
