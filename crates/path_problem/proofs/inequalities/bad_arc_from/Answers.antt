use Rattle.std.proofs.Common.{List, ◌≡◌, ◌+◌, ◌^◌, ◌∙◌, ap, refl, get_or, arith}
use Rattle.std.specs.Prelude.{pos}
use Rattle.path_graph.specs.declared.graph.Arc.{Arc}
use Rattle.path_graph.specs.Graph.{arc_at}
use Rattle.path_problem.proofs.CheckLemmas.{covered_more, covers, tested, fits64}
use Rattle.path_problem.specs.Window.{weight_limit}
use Rattle.path_problem.proofs.inequalities.bad_arc_from.Goals as goal

pub loop-at-preserved : goal.loop-at-preserved
loop-at-preserved c =
    let at = c.loop-at.at in
    let a = c.args.first + at in
    let g = c.args.graph.now in
    let p = c.args.potentials.now in
    let target : c.from-target.result ≡ pos (get_or p (arc_at g a).to 0) = c.from-target.ensures ∙ ap (λ (arcs : List Arc). pos (get_or p (get_or arcs a (record { from = 0; to = 0; weight = pos 0 })).to 0)) c.as_slice.ensures in
    let source : c.from-source.result ≡ pos (get_or p (arc_at g a).from 0) = c.from-source.ensures ∙ ap (λ (arcs : List Arc). pos (get_or p (get_or arcs a (record { from = 0; to = 0; weight = pos 0 })).from 0)) c.as_slice.ensures in
    covered_more g c.args.prices.now p c.args.first at c.loop-at.invariant
    (covers g c.args.prices.now p a (get_or c.args.weights.now at (pos 0)) (get_or p (arc_at g a).from 0) (get_or p (arc_at g a).to 0) (c.requires.weights.each at c.loop-at-test.true) refl refl (tested (weight_limit (2 ^ 16)) _ _ (get_or c.args.weights.now at (pos 0)) _ _ (c.requires.within at (pos 0) c.loop-at-test.true) (omega arith) (fits64 _ (c.type_inv.potentials _)) (fits64 _ (c.type_inv.potentials _)) target source c.if-weight-target.false))
