-- A comma and a space stand behind the operand.
use Rattle.std.proofs.Common.{◌++◌}
use Rattle.arm_text.proofs.parts.split_operand.Goals as goal

pub returns-in_err-behind-clause-complete : goal.returns-in_err-behind-clause-complete
returns-in_err-behind-clause-complete c head tail without same =
    let parts = c.in_ok-operand.ensures.complete head (c.as_slice.result.now ++ tail) without (search (same, c.as_slice.ensures)) in
    absurd (c.in_err-behind.ensures tail parts.1)
