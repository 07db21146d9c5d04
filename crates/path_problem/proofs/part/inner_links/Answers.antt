use Rattle.std.proofs.Common.{ap, ◌∙◌}
use Rattle.std.specs.Global.{Vec}
use Rattle.path_problem.specs.declared.net.Link.{Link}
use Rattle.path_graph.specs.Graph.{loop_at}
use Rattle.path_problem.proofs.PartLemmas.{inner_same, inner_skip, inner_more, all_inner}
use Rattle.path_problem.proofs.part.inner_links.Goals.{in-Some+in_ok-push, in_default}
use Rattle.path_problem.proofs.part.inner_links.Goals as goal

pub loop-number-preserved : goal.loop-number-preserved
loop-number-preserved c =
    elim c.match-inner_link.branch [
      | in-Some+in_ok-push w ↦
          inner_same (ap (λ (l : Vec Link). l.items) w.links-is ∙ w.in_ok-push.ensures.items)
          (inner_more _ _ _ _ _ _ c.loop-number.number-index c.loop-number.links.items c.loop-number.invariant w.in-Some.link w.in-Some.ensures)
      | in_default w ↦
          inner_same (ap (λ (l : Vec Link). l.items) w.links-is)
          (inner_skip _ _ _ _ _ _ c.loop-number.number-index c.loop-number.links.items c.loop-number.invariant w.in_default.ensures)
    ]

pub returns : goal.returns
returns c =
    let p = c.args.part.now in
    let g = p.layout.now.graph.now in
    all_inner g (loop_at g p.number) p.weights.now p.names.now p.places.now c.args.arcs.now c.loop-number.number-index c.loop-number.links.items c.loop-number.invariant c.loop-number-test.false c.requires.each
