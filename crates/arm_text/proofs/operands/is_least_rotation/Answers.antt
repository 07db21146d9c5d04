-- A smaller rotation was found.
use Rattle.std.proofs.Common.{◌≡◌, ◌<◌, ◌∙◌, true, not, sym, ap, arith}
use Rattle.arm_text.specs.Text.{rotated, has_rotation}
use Rattle.arm_text.proofs.Ranges.{any_found}
use Rattle.arm_text.proofs.operands.is_least_rotation.Goals as goal

pub returns-then-has_rotation : goal.returns-then-has_rotation
returns-then-has_rotation c =
    let below : c.loop-smaller.smaller < c.args.rot = omega (arith, c.loop-smaller-test.true) in
    let found : has_rotation (rotated c.args.value c.args.rot) c.loop-smaller.smaller ≡ true =
    ap (λ n. has_rotation n c.loop-smaller.smaller) (sym c.rotated-n.ensures) ∙ sym c.has_rotation.ensures ∙ c.if-has_rotation.true in
    sym (ap not (any_found (has_rotation (rotated c.args.value c.args.rot)) c.args.rot c.loop-smaller.smaller below found))
