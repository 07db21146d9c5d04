use Rattle.std.proofs.Common.{ℕ, ◌<◌, List, length, sym, subst}
use Rattle.std.specs.Global.{Vec}
use Rattle.std.specs.List.{All, Contains}
use Rattle.path_graph.specs.Graph.{arc_at}
use Rattle.path_graph.specs.Sources.{AreSame, HasArcsOf}
use Rattle.path_problem.proofs.SourceLemmas.{same_below}
use Rattle.path_problem.proofs.WholeLemmas.{ok_more}
use Rattle.path_problem.proofs.layout.arcs_in_order.Goals as goal

pub arcs_of-requires-clause-vertices : goal.arcs_of-requires-clause-vertices
arcs_of-requires-clause-vertices c =
    let count = length c.args.layout.now.graph.now.finish in
    let F : ℕ → Type 0 = λ n. All (λ v. v < n) c.in_ok-numbers.numbers.items in
    let below = subst (All (λ v. v < count)) (sym c.as_slice.ensures.value) (subst F c.len.ensures c.in_ok-numbers.ensures.within) in
    same_below count c.as_slice.result.now c.as_slice-2.result.now (subst (AreSame c.as_slice.result.now) (sym c.as_slice-2.ensures.value) c.in_ok-vertices.ensures) below

pub returns-clause-each : goal.returns-clause-each
returns-clause-each c =
    let g = c.args.layout.now.graph.now in
    let same = subst (AreSame c.as_slice.result.now) (sym c.as_slice-2.ensures.value) c.in_ok-vertices.ensures in
    ok_more (λ (o : Vec ℕ). HasArcsOf g c.as_slice-2.result.now o.items) (λ (o : Vec ℕ). (a : ℕ) → a < length g.arcs → Contains o.items a) c.arcs_of.result
    (λ o listed a h.
    let from = (arc_at g a).from in
    let below = subst (λ (n : ℕ). from < n) (sym c.len.ensures) (c.requires.layout.graph.sources a h) in
    listed.each a h (same.there from (subst (λ (xs : List ℕ). Contains xs from) (sym c.as_slice.ensures.value) (c.in_ok-numbers.ensures.each from below))))
    c.arcs_of.ensures.each
