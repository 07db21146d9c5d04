use Rattle.std.proofs.Common.{◌+◌, ◌∙◌, ap, arith, map, refl, take}
use Rattle.std.proofs.lemmas.List.{take_all, take_more}
use Rattle.state_families.specs.Families.{vector_of}
use Rattle.state_families.proofs.AnswerLemmas.{map_more}
use Rattle.state_families.proofs.answer.vectors_of.Goals as goal

pub loop-slots-preserved : goal.loop-slots-preserved
loop-slots-preserved c =
    let list = c.args.list.now in
    let i = c.loop-slots.slots-index in
    map_more vector_of (take i list) (take (i + 1) list) _ _ c.loop-slots.vectors.items c.push.new.self.items (take_more list i _ c.loop-slots-test.true) c.loop-slots.invariant
    c.in_ok-push.ensures.items refl

pub returns : goal.returns
returns c = c.new.ensures ∙ c.loop-slots.invariant ∙ ap (map vector_of) (take_all c.loop-slots.slots-index c.args.list.now (omega arith))
