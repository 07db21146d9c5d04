use Rattle.std.proofs.Common.{◌≡◌, ◌<◌, ◌++◌, ◌∷◌, [], length, refl, sym, subst}
use Rattle.std.proofs.lemmas.List.Elements.{All-get_or}
use Rattle.flow_graph.specs.declared.outline.Outline.{Outline}
use Rattle.flow_graph.specs.Outlines.{HasBounds, IsOutline}
use Rattle.flow_graph.proofs.FunctionLemmas.{functions_more}
use Rattle.flow_graph.proofs.function.functions.Goals as goal

pub function-requires : goal.function-requires
function-requires c =
    let facts = c.args.inputs.now.facts.now in
    let addresses = c.args.listing.now.addresses.items in
    let ways = c.args.listing.now.ways in
    let P : Outline → Type 0 = λ o. IsOutline ways o × (o.entry < length ways) in
    let is = subst P (sym c.outline-item.is) (All-get_or P c.args.outlines.now c.loop-outline.outline-index c.outline-item.result c.loop-outline-test.true c.requires.outlines) in
    let bounded = subst (λ (o : Outline). HasBounds facts addresses o) (sym c.outline-item.is)
    (All-get_or (λ o. HasBounds facts addresses o) c.args.outlines.now c.loop-outline.outline-index c.outline-item.result c.loop-outline-test.true c.requires.bounded) in
    (refl, (c.requires.facts, (c.requires.machine, (c.requires.listing, (is.0, (is.1, bounded))))))

pub loop-outline-preserved : goal.loop-outline-preserved
loop-outline-preserved c =
    let pushed : c.push.new.self.items ≡ c.loop-outline.functions.items ++ c.in_ok-function.field-0 ∷ [] = c.in_ok-push.ensures.items in
    rw pushed
    (functions_more c.args.inputs.now.image.now c.args.inputs.now.facts.now c.args.inputs.now.machine.now c.args.listing.now.addresses.items c.args.outlines.now c.loop-outline.functions.items c.loop-outline.outline-index
    c.outline-item.result c.in_ok-function.field-0 c.loop-outline-test.true c.outline-item.is c.loop-outline.invariant c.in_ok-function.ensures)
