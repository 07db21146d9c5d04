use Rattle.path_problem.proofs.SourceLemmas.{none_came, one_came, nearer}
use Rattle.path_problem.proofs.layout.push_arcs_of.Goals as goal

pub steps-init : goal.steps-init
steps-init c =
    none_came c.args.layout.now.graph.now c.args.vertex _ _ c.as_slice.result.now c.args.arcs.now.items c.as_slice.ensures.value c.requires.layout.arcs c.requires.vertex

pub steps-preserved : goal.steps-preserved
steps-preserved c =
    one_came c.args.layout.now.graph.now c.args.vertex _ _ c.as_slice-previous.result.now c.args.arcs.now.items c.steps.arcs.items _ c.steps.next c.in-Some.number c.as_slice-previous.ensures.value c.in_ok-push.ensures.items c.requires.layout.arcs c.in-Some.is c.steps.invariant

pub steps-smaller : goal.steps-smaller
steps-smaller c =
    nearer c.args.layout.now.graph.now c.args.vertex _ _ c.as_slice-previous.result.now c.args.arcs.now.items c.steps.arcs.items c.steps.next c.in-Some.number c.as_slice-previous.ensures.value c.requires.layout.arcs c.in-Some.is c.steps.invariant
