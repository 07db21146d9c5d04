use Rattle.std.proofs.Common.{ℕ, List, length, refl, ap, sym, ◌∙◌}
use Rattle.std.specs.Global.{Vec}
use Rattle.graph_loops.specs.Graph.{lists_of, edges}
use Rattle.graph_loops.proofs.Places.{some_there, nothing_there}
use Rattle.graph_loops.proofs.MemberLemmas.{head_is, no_head}
use Rattle.graph_loops.proofs.members.loop_at.Goals as goal

pub returns-then-is_empty : goal.returns-then-is_empty
returns-then-is_empty c =
    no_head c.args.graph.now c.args.ways.now.entry c.args.head c.list_at.result.now (edges (lists_of c.args.ways.now.back.items) c.args.head)
    (c.list_at.ensures ∙ ap (λ (ls : List (Vec ℕ)). edges (lists_of ls) c.args.head) c.as_slice.ensures.value) (c.requires.ways.back c.args.head)
    (nothing_there (length c.list_at.result.now) (sym c.if-is_empty.true ∙ c.is_empty.ensures))

pub returns : goal.returns
returns c = (
  refl,
  record {
    head = head_is c.args.graph.now c.args.ways.now.entry c.args.head c.list_at.result.now (edges (lists_of c.args.ways.now.back.items) c.args.head)
        (c.list_at.ensures ∙ ap (λ (ls : List (Vec ℕ)). edges (lists_of ls) c.args.head) c.as_slice.ensures.value) (c.requires.ways.back c.args.head)
        (some_there (length c.list_at.result.now) (sym c.if-is_empty.false ∙ c.is_empty.ensures));
    ascending = c.in_ok-members.ensures.ascending;
    exact = c.in_ok-members.ensures.exact;
  },
)
