use Rattle.std.proofs.Common.{◌≤◌, ◌^◌, arith}
use Rattle.std.proofs.Math.Nat.{pow-le-pow_right}
use Rattle.arm_code.proofs.encoder.flag.Goals as goal

pub returns-then-set-clause-small : goal.returns-then-set-clause-small
returns-then-set-clause-small c =
    let fits = c.requires in
    let at_most : 2 ^ c.args.at ≤ 2 ^ 27 = pow-le-pow_right {n = 2} (omega arith) {i = c.args.at} {j = 27} fits in
    omega arith
