use Rattle.std.proofs.Common.{List, length, subst, sym, ◌∙◌}
use Rattle.std.proofs.lemmas.List.{length-map}
use Rattle.flow_ctx.specs.declared.unfolded.Edge.{Edge}
use Rattle.flow_ctx.specs.Found.{nodes_of}
use Rattle.flow_ctx.specs.Targets.{node_of}
use Rattle.flow_ctx.specs.Unfolding.{AreEdges}
use Rattle.flow_ctx.proofs.EdgeLemmas.{edges_sorted}
use Rattle.flow_ctx.proofs.edges.edges_of.Goals as goal

pub returns : goal.returns
returns c =
    let keys = c.args.places.now.keys in
    let e = c.in_ok-sort_unstable.ensures in
    subst (λ (l : List Edge). AreEdges c.args.program.now (nodes_of keys) l) (sym (c.in_ok-from_slice.ensures.items ∙ c.as_slice.ensures.keys))
    (edges_sorted c.args.program.now (nodes_of keys) c.requires.nodes (length keys) c.in_ok-edges.edges.keys c.sort_unstable.new.self.keys
    (length-map keys node_of) c.in_ok-edges.ensures e.reordered.0 e.sorted e.unique)
