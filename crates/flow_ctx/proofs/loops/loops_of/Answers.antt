use Rattle.std.proofs.Common.{List, length, subst, sym, arith}
use Rattle.std.proofs.lemmas.List.{length-map}
use Rattle.flow_ctx.specs.declared.unfolded.ULoop.{ULoop}
use Rattle.flow_ctx.specs.Chosen.{AreLoopsTo}
use Rattle.flow_ctx.specs.Found.{nodes_of}
use Rattle.flow_ctx.specs.Targets.{node_of}
use Rattle.flow_ctx.proofs.LoopLemmas.{loops_all, loops_more, loops_none}
use Rattle.flow_ctx.proofs.loops.loops_of.Goals as goal

pub loop-number-init : goal.loop-number-init
loop-number-init c = subst (λ (l : List ULoop). AreLoopsTo c.args.program.now (nodes_of c.args.places.now) c.args.edges.now 0 l) (sym c.new-loops.ensures.items)
    (loops_none c.args.program.now (nodes_of c.args.places.now) c.args.edges.now)

pub loop-number-preserved : goal.loop-number-preserved
loop-number-preserved c =
    loops_more c.args.program.now (nodes_of c.args.places.now) c.args.edges.now c.loop-number.number c.loop-number.loops.items c.push_found.new.loops.items
    c.in_ok-found.found c.loop-number.invariant c.in_ok-found.ensures c.in_ok-push_found.ensures

pub returns : goal.returns
returns c = loops_all c.args.program.now (nodes_of c.args.places.now) c.args.edges.now c.loop-number.number c.loop-number.loops.items c.loop-number.invariant
    (omega (arith, length-map c.args.places.now node_of))
