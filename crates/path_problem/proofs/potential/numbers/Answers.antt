use Rattle.std.proofs.Common.{List, ℕ, ◌+◌, get_or, sym, subst, arith}
use Rattle.std.proofs.Common.{rules}
use Rattle.std.specs.Int.{w128}
use Rattle.std.specs.Prelude.{pos, FitsSigned}
use Rattle.std.proofs.lemmas.Int.{ints}
use Rattle.path_problem.proofs.WholeLemmas.{ValuesSoFar, one_value}
use Rattle.path_problem.proofs.potential.numbers.Goals as goal

pub loop-vertex-preserved : goal.loop-vertex-preserved
loop-vertex-preserved c =
    let F : List ℕ → Type 0 = λ l. ValuesSoFar c.args.values.now (c.loop-vertex.vertex + 1) l in
    let low = c.requires c.loop-vertex.vertex (pos 0) c.loop-vertex-test.true in
    let f : FitsSigned w128 (get_or c.args.values.now c.loop-vertex.vertex (pos 0)) = search rules in
    let is = c.number_of.ensures.value in
    subst F (sym c.in_ok-push.ensures.items) (one_value c.args.values.now c.loop-vertex.vertex c.loop-vertex.numbers.items c.number_of.result c.loop-vertex.invariant (omega (arith, ints)) c.number_of.ensures.small)
