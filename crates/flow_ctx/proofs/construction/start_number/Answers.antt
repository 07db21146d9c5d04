use Rattle.std.proofs.Common.{[], List, subst, sym}
use Rattle.flow_ctx.specs.declared.unfolded.Call.{Call}
use Rattle.flow_ctx.specs.Nodes.{BeginsAt, start}
use Rattle.flow_ctx.specs.Targets.{node_of}
use Rattle.flow_ctx.proofs.construction.start_number.Goals as goal

pub unreachable-requires : goal.unreachable-requires
unreachable-requires c = c.in-None.ensures c.requires.order.first
    (subst (λ (l : List Call). BeginsAt c.args.program.now c.requires.order.first l c.args.program.now.start) (sym c.new.ensures.items) c.requires.order.starts)

pub number_of-requires-clause-there : goal.number_of-requires-clause-there
number_of-requires-clause-there c =
    let program = c.args.program.now in
    let b = subst (λ (l : List Call). BeginsAt program (node_of c.in-Some.place) l program.start) c.new.ensures.items c.in-Some.ensures in
    c.requires.nodes.whole (node_of c.in-Some.place) (start (node_of c.in-Some.place) b)

pub returns : goal.returns
returns c =
    let program = c.args.program.now in
    let b = subst (λ (l : List Call). BeginsAt program (node_of c.in-Some.place) l program.start) c.new.ensures.items c.in-Some.ensures in
    record { node = node_of c.in-Some.place; stands = c.number_of.ensures; starts = b }
