-- The first rotation that gives eight bits is the least one.
use Rattle.std.proofs.Common.{◌≡◌, ◌*◌, sym, ◌∙◌, ap, arith}
use Rattle.std.specs.Prelude.{true}
use Rattle.std.specs.Int.{w32, rotate_left}
use Rattle.arm_text.specs.Text.{has_rotation}
use Rattle.arm_text.proofs.Rotations.{least_found, least_only, bits_of, none_found}
use Rattle.arm_text.proofs.reading.least_rotation.Goals as goal

pub returns-then-has_rotation-clause-sound : goal.returns-then-has_rotation-clause-sound
returns-then-has_rotation-clause-sound c =
    let value : c.rotate_left.result ≡ rotate_left w32 c.args.n (2 * c.loop-rot.rot) = search (c.rotate_left.ensures, c.from.ensures) in
    let is = least_found c.args.n c.rotate_left.result c.loop-rot.rot c.ranges.n.fits c.loop-rot-test.true value c.loop-rot.invariant in
    (c.loop-rot-test.true, is.least, is.number)

pub returns-then-has_rotation-clause-complete : goal.returns-then-has_rotation-clause-complete
returns-then-has_rotation-clause-complete c value rot small below least is =
    let bits : c.rotate_left.result ≡ rotate_left w32 c.args.n (2 * c.loop-rot.rot) = search (c.rotate_left.ensures, c.from.ensures) in
    let holds : has_rotation c.args.n c.loop-rot.rot ≡ true = sym c.has_rotation.ensures ∙ c.if-has_rotation.true in
    let same = least_only c.args.n value rot c.loop-rot.rot small below least is c.loop-rot.invariant holds in
    let found = bits ∙ ap (λ k. rotate_left w32 c.args.n (2 * k)) same ∙ bits_of c.args.n value rot small below is in
    cc

pub returns-clause-complete : goal.returns-clause-complete
returns-clause-complete c value rot small below least is =
    absurd (none_found c.args.n value rot c.loop-rot.rot small (omega (arith, c.loop-rot-test.false)) below is c.loop-rot.invariant)
