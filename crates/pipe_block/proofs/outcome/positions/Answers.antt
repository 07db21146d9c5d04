use Rattle.std.proofs.Common.{◌≡◌, ◌∷◌, ◌++◌, [], ◌+◌, refl, sym, ap, ◌∙◌, arith}
use Rattle.pipe_block.proofs.Results.{range_more}
use Rattle.pipe_block.proofs.outcome.positions.Goals as goal

pub loop-place-preserved : goal.loop-place-preserved
loop-place-preserved c =
    let p = c.loop-place.place in
    let z : 0 + p ≡ p = omega arith in
    c.in_ok-push.ensures.items ∙ (ap (λ xs. xs ++ p ∷ []) c.loop-place.invariant ∙ sym (range_more 0 p ∙ rw z refl))
