use Rattle.std.proofs.Common.{◌+◌, ◌∙◌, ap, arith, get_or, map, refl, take}
use Rattle.std.proofs.lemmas.List.{length-take-le, take_more}
use Rattle.state_families.specs.Families.{vector_of}
use Rattle.state_families.proofs.AnswerLemmas.{joined_more, joined_nothing, joined_some}
use Rattle.state_families.proofs.answer.joined_nodes.Goals as goal
use Rattle.state_families.proofs.answer.joined_nodes.Goals.{in-Some+in_ok-vectors_of-in-Some+in_ok-push-in-Some, in-None}

pub loop-node-preserved : goal.loop-node-preserved
loop-node-preserved c =
    let sets = c.args.sets.now in
    let i = c.loop-node.node in
    let set = get_or sets i c.index-sets-node.result in
    joined_more sets (take i sets) (take (i + 1) sets) i set c.loop-node.joined.items c.match-sets-node.joined.items
    (take_more sets i c.index-sets-node.result c.loop-node-test.true) (length-take-le i sets (omega arith)) c.loop-node.invariant
    (elim c.match-sets-node.branch [
      | in-Some+in_ok-vectors_of-in-Some+in_ok-push-in-Some w ↦
          joined_some i _ set.kept w.in_ok-vectors_of-in-Some.field-0 c.loop-node.joined.items c.match-sets-node.joined.items w.in-Some.is
          (w.in_ok-vectors_of-in-Some.ensures ∙ ap (map vector_of) w.as_slice.ensures) (rw w.joined-is w.in_ok-push-in-Some.ensures.items)
      | in-None w ↦ joined_nothing i set.kept c.loop-node.joined.items c.match-sets-node.joined.items w.in-None.is (rw w.joined-is refl)
    ])
