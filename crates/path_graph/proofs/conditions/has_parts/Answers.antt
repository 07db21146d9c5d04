use Rattle.std.proofs.Common.{◌≡◌, ◌<◌, ℕ, List, Bool, true, false, length, get_or, subst}
use Rattle.std.specs.Prelude.{IsTrue}
use Rattle.std.specs.List.{All}
use Rattle.path_graph.specs.Graph.{arc_at}
use Rattle.path_graph.proofs.TestedLemmas.{Leads, is_loop}
use Rattle.path_graph.proofs.conditions.has_parts.Goals as goal

pub returns : goal.returns
returns c = λ e members.
    let g = c.args.graph.now in
    let l = c.args.arcs.now in
    let marks = c.args.marks.now in
    let entries = subst (λ (xs : List ℕ). All (Leads g marks false) xs) c.as_slice.ensures (λ k d h. let q = c.lead.ensures c.if-not-lead.false k d h in record { within = q.0; source = q.1; target = q.2 }) in
    let back = subst (λ (xs : List ℕ). All (Leads g marks true) xs) c.as_slice-2.ensures (λ k d h. let q = c.lead-2.ensures e k d h in record { within = q.0; source = q.1; target = q.2 }) in
    is_loop g l marks c.requires members (c.has_total.ensures c.if-not-has_total.false) entries back
