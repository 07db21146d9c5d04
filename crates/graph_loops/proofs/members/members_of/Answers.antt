use Rattle.std.proofs.Common.{ℕ, List, length, ◌↔◌, sym, ap, ◌∙◌, subst}
use Rattle.std.specs.List.{Contains}
use Rattle.std.specs.Global.{Vec}
use Rattle.wx_base.specs.Paths.{IsMember}
use Rattle.graph_loops.specs.Graph.{lists_of, edges}
use Rattle.graph_loops.proofs.Places.{lists_length}
use Rattle.graph_loops.proofs.WayLemmas.{sources_are_graph, back_within}
use Rattle.graph_loops.proofs.MemberLemmas.{back_read, members_are, taken_among}
use Rattle.graph_loops.proofs.members.members_of.Goals as goal

pub walk-requires-clause-graph : goal.walk-requires-clause-graph
walk-requires-clause-graph c = sources_are_graph c.args.graph.now (lists_of c.sources.result.now) c.sources.ensures

pub walk-requires-clause-roots : goal.walk-requires-clause-roots
walk-requires-clause-roots c =
    back_within c.args.graph.now (length c.sources.result.now) c.args.ways.now.entry c.args.head c.list_at-back.result.now (edges (lists_of c.args.ways.now.back.items) c.args.head)
    (sym (lists_length c.sources.result.now) ∙ c.sources.ensures.count)
    (c.list_at-back.ensures ∙ ap (λ (lists : List (Vec ℕ)). edges (lists_of lists) c.args.head) c.as_slice.ensures.value) (c.requires.ways.back c.args.head)

pub returns-clause-exact : goal.returns-clause-exact
returns-clause-exact c =
    let lists = c.args.graph.now in
    let entry = c.args.ways.now.entry in
    let head = c.args.head in
    let read = back_read lists entry head c.list_at-back.result.now (edges (lists_of c.args.ways.now.back.items) head)
    (c.list_at-back.ensures ∙ ap (λ (ls : List (Vec ℕ)). edges (lists_of ls) head) c.as_slice.ensures.value) (c.requires.ways.back head) in
    let taken = taken_among head c.as_slice-2.result.now c.in_ok-marks.marks.items c.as_slice-3.result.now c.args.ways.now.body.items c.in_ok-members.members.items c.as_slice-2.ensures.value c.as_slice-3.ensures.value c.in_ok-members.ensures in
    let all = members_are lists (lists_of c.sources.result.now) entry head c.list_at-back.result.now c.in_ok-marks.marks.items c.args.ways.now.body.items c.sources.ensures read c.in_ok-marks.ensures c.requires.ways.body c.in_ok-members.members.items c.requires.vertex taken in
    let P : List ℕ → Type 0 = λ members. (a : ℕ) → Contains members a ↔ IsMember (edges lists) entry head a in
    subst P (sym c.new.ensures) all
