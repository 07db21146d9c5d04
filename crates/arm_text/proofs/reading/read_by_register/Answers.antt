-- No name of a register holds a comma, and no name of a shift a space.
use Rattle.std.proofs.Common.{◌++◌, ◌∷◌}
use Rattle.arm_text.specs.Names.{register_name, shift_name}
use Rattle.arm_text.proofs.Shapes.{shift_without, by_register}
use Rattle.arm_text.proofs.reading.read_by_register.Goals as goal

pub returns-in_err-register-clause-complete : goal.returns-in_err-register-clause-complete
returns-in_err-register-clause-complete c register kind amount below kinds small same =
    absurd (c.in_err-register.ensures.complete register (shift_name kind ++ 32 ∷ register_name amount) below
    (by_register register kind amount c.args.text.now same))

pub returns-in_err-name-clause-complete : goal.returns-in_err-name-clause-complete
returns-in_err-name-clause-complete c register kind amount below kinds small same =
    let parts = c.in_ok-register.ensures.complete register (shift_name kind ++ 32 ∷ register_name amount) below
    (by_register register kind amount c.args.text.now same) in
    absurd (c.in_err-name.ensures.complete (shift_name kind) (register_name amount) (shift_without kind kinds) parts.1)

pub returns-in_err-read_shift_kind-clause-complete : goal.returns-in_err-read_shift_kind-clause-complete
returns-in_err-read_shift_kind-clause-complete c register kind amount below kinds small same =
    let parts = c.in_ok-register.ensures.complete register (shift_name kind ++ 32 ∷ register_name amount) below
    (by_register register kind amount c.args.text.now same) in
    let shift = c.in_ok-name.ensures.complete (shift_name kind) (register_name amount) (shift_without kind kinds) parts.1 in
    let read = c.in_err-read_shift_kind.ensures.complete kind kinds shift.0 in
    cc

pub returns-in_err-read_register-clause-complete : goal.returns-in_err-read_register-clause-complete
returns-in_err-read_register-clause-complete c register kind amount below kinds small same =
    let parts = c.in_ok-register.ensures.complete register (shift_name kind ++ 32 ∷ register_name amount) below
    (by_register register kind amount c.args.text.now same) in
    let shift = c.in_ok-name.ensures.complete (shift_name kind) (register_name amount) (shift_without kind kinds) parts.1 in
    let read = c.in_err-read_register.ensures.complete amount small shift.1 in
    cc

pub returns-clause-complete : goal.returns-clause-complete
returns-clause-complete c register kind amount below kinds small same =
    let parts = c.in_ok-register.ensures.complete register (shift_name kind ++ 32 ∷ register_name amount) below
    (by_register register kind amount c.args.text.now same) in
    let shift = c.in_ok-name.ensures.complete (shift_name kind) (register_name amount) (shift_without kind kinds) parts.1 in
    let read_kind = c.in_ok-read_shift_kind.ensures.complete kind kinds shift.0 in
    let read_amount = c.in_ok-read_register.ensures.complete amount small shift.1 in
    cc
