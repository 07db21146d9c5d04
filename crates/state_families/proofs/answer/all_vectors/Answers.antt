use Rattle.std.proofs.Common.{◌+◌, ◌++◌, ◌∙◌, ◌∷◌, [], List, ap, arith, map, sym, take}
use Rattle.std.proofs.lemmas.List.{take_all, take_more}
use Rattle.pipe_time.specs.declared.vector.Vector.{Vector}
use Rattle.state_families.specs.declared.node_set.NodeSet.{NodeSet}
use Rattle.state_families.specs.Families.{vector_of}
use Rattle.state_families.proofs.AnswerLemmas.{map_more}
use Rattle.state_families.proofs.answer.all_vectors.Goals as goal

abbrev vectors_in : NodeSet → List Vector
vectors_in set = map vector_of set.vectors

pub loop-set-preserved : goal.loop-set-preserved
loop-set-preserved c =
    let sets = c.args.sets.now in
    let i = c.loop-set.set-index in
    let set = c.set-item.result in
    map_more vectors_in (take i sets) (take (i + 1) sets) set c.in_ok-vectors_of.field-0 c.loop-set.all.items c.push.new.self.items
    (take_more sets i set c.loop-set-test.true ∙ ap (λ (x : NodeSet). take i sets ++ x ∷ []) (sym c.set-item.is)) c.loop-set.invariant c.in_ok-push.ensures.items
    (c.in_ok-vectors_of.ensures ∙ ap (map vector_of) c.as_slice.ensures)

pub returns : goal.returns
returns c = c.new.ensures ∙ c.loop-set.invariant ∙ ap (map vectors_in) (take_all c.loop-set.set-index c.args.sets.now (omega arith))
