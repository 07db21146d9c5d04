use Rattle.std.proofs.Common.{subst, sym, refl, get_or, ap, ◌∙◌, Some}
use Rattle.std.specs.List.{Contains}
use Rattle.flow_ctx.specs.declared.target.Target.{Target}
use Rattle.flow_ctx.specs.declared.unfolded.Edge.{Edge}
use Rattle.flow_ctx.specs.Edges.{IsEdgeTo}
use Rattle.flow_ctx.specs.Found.{nodes_of}
use Rattle.flow_ctx.specs.Targets.{node_of}
use Rattle.flow_ctx.proofs.EdgeLemmas.{adds_edge}
use Rattle.flow_ctx.proofs.edges.add_edges.Goals as goal

pub number_of-requires-clause-there : goal.number_of-requires-clause-there
number_of-requires-clause-there c =
    subst (λ (t : Target). Contains (nodes_of c.args.places.now.keys) (node_of t.place)) (sym c.target-item.is)
    (c.requires.there c.loop-target.target-index c.target-item.result c.loop-target-test.true)

pub loop-target-preserved : goal.loop-target-preserved
loop-target-preserved c =
    let nodes = nodes_of c.args.places.now.keys in
    let t = c.target-item.result in
    let e : Edge = record { from = c.args.from; to = c.number_of.result; taken = t.taken } in
    adds_edge nodes c.args.from c.args.targets.now c.loop-target.target-index t c.args.edges.now.keys c.loop-target.edges.keys c.insert.new.self.keys e
    c.loop-target-test.true c.loop-target.invariant
    (subst (λ (u : Target). IsEdgeTo nodes c.args.from u e) c.target-item.is (record { source = refl; leads = c.number_of.ensures; taken = refl }))
    c.in_ok-insert.ensures.keys
