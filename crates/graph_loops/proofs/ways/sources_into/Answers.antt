use Rattle.std.proofs.Common.{ℕ, List, true, false, length, ap, sym, subst, ◌∙◌}
use Rattle.graph_loops.specs.Graph.{lists_of, AreVertices}
use Rattle.graph_loops.specs.Ways.{AreSame, AreBackInto}
use Rattle.graph_loops.proofs.WayLemmas.{AreInto, into_is, into_within, sources_within, all_forward, none_back, forward_are, back_are, chosen_among}
use Rattle.graph_loops.proofs.ways.sources_into.Goals as goal
use Rattle.graph_loops.proofs.ways.sources_into.Goals.{In_ok-into}

-- what leads to the vertex from vertices reached
into : (c : In_ok-into) → AreInto c.args.graph.now c.args.entry c.args.v c.in_ok-into.into.items
into c =
    into_is c.args.graph.now (lists_of c.sources.result.now) c.args.entry c.args.v c.list_at.result.now c.args.body.now c.in_ok-into.into.items c.sources.ensures c.list_at.ensures c.requires.body c.in_ok-into.ensures

pub chosen-requires : goal.chosen-requires
chosen-requires c = sources_within c.args.graph.now (lists_of c.sources.result.now) (length c.args.body.now) c.args.v c.list_at.result.now c.requires.body.count c.sources.ensures c.list_at.ensures

pub returns-then-not-may_be_head-clause-forward : goal.returns-then-not-may_be_head-clause-forward
returns-then-not-may_be_head-clause-forward c =
    all_forward c.args.graph.now c.args.entry c.args.v c.in_ok-into.into.items (into (goal.at.returns-then-not-may_be_head-clause-forward c).In_ok-into) c.if-not-may_be_head.ensures.0
    (subst (λ (vs : List ℕ). AreSame vs) c.as_slice.ensures.value c.if-not-may_be_head.ensures.1)

pub returns-then-not-may_be_head-clause-back : goal.returns-then-not-may_be_head-clause-back
returns-then-not-may_be_head-clause-back c =
    subst (λ (back : List ℕ). AreBackInto c.args.graph.now c.args.entry c.args.v back) (sym c.new.ensures.items)
    (none_back c.args.graph.now c.args.entry c.args.v c.in_ok-into.into.items (into (goal.at.returns-then-not-may_be_head-clause-back c).In_ok-into) c.if-not-may_be_head.ensures.0
    (subst (λ (vs : List ℕ). AreSame vs) c.as_slice.ensures.value c.if-not-may_be_head.ensures.1))

pub chosen-requires-2 : goal.chosen-requires-2
chosen-requires-2 c =
    let P : List ℕ → Type 0 = λ vs. AreVertices (length c.as_slice-3.result.now) vs in
    subst P (sym c.as_slice-2.ensures.value)
    (into_within c.args.graph.now (length c.as_slice-3.result.now) c.args.entry c.args.v c.in_ok-into.into.items (ap length c.as_slice-3.ensures.value ∙ c.in_ok-away.ensures.count) (into (goal.at.chosen-requires-2 c).In_ok-into))

pub chosen-requires-3 : goal.chosen-requires-3
chosen-requires-3 c =
    let P : List ℕ → Type 0 = λ vs. AreVertices (length c.as_slice-5.result.now) vs in
    subst P (sym c.as_slice-4.ensures.value)
    (into_within c.args.graph.now (length c.as_slice-5.result.now) c.args.entry c.args.v c.in_ok-into.into.items (ap length c.as_slice-5.ensures.value ∙ c.in_ok-away.ensures.count) (into (goal.at.chosen-requires-3 c).In_ok-into))

pub returns-clause-forward : goal.returns-clause-forward
returns-clause-forward c =
    forward_are c.args.graph.now c.args.entry c.args.v c.in_ok-into.into.items (into (goal.at.returns-clause-forward c).In_ok-into) c.in_ok-away.away.items c.in_ok-away.ensures c.in_ok-chosen.field-0.items
    (chosen_among c.as_slice-2.result.now c.in_ok-into.into.items c.as_slice-3.result.now c.in_ok-away.away.items true c.in_ok-chosen.field-0.items c.as_slice-2.ensures.value c.as_slice-3.ensures.value c.in_ok-chosen.ensures)

pub returns-clause-back : goal.returns-clause-back
returns-clause-back c =
    back_are c.args.graph.now c.args.entry c.args.v c.in_ok-into.into.items (into (goal.at.returns-clause-back c).In_ok-into) c.in_ok-away.away.items c.in_ok-away.ensures c.in_ok-chosen-2.field-0.items
    (chosen_among c.as_slice-4.result.now c.in_ok-into.into.items c.as_slice-5.result.now c.in_ok-away.away.items false c.in_ok-chosen-2.field-0.items c.as_slice-4.ensures.value c.as_slice-5.ensures.value c.in_ok-chosen-2.ensures)
