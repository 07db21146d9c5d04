-- A register, and an address with its offset.
use Rattle.arm_text.specs.Text.{half_offset_text, address_text}
use Rattle.arm_text.proofs.OperandParts.{half_answer}
use Rattle.arm_text.proofs.reader.read_half.Goals as goal

pub returns-in_err-rd-clause-complete : goal.returns-in_err-rd-clause-complete
returns-in_err-rd-clause-complete c to base index up by to_fits base_fits fits same =
    absurd (c.in_err-rd.ensures.complete to (address_text index base (half_offset_text up by)) to_fits same)

pub returns-in_err-index-clause-complete : goal.returns-in_err-index-clause-complete
returns-in_err-index-clause-complete c to base index up by to_fits base_fits fits same =
    let one = c.in_ok-rd.ensures.complete to (address_text index base (half_offset_text up by)) to_fits same in
    absurd (c.in_err-index.ensures.complete index base (half_offset_text up by) base_fits one.1)

pub returns-in_err-up-clause-complete : goal.returns-in_err-up-clause-complete
returns-in_err-up-clause-complete c to base index up by to_fits base_fits fits same =
    let one = c.in_ok-rd.ensures.complete to (address_text index base (half_offset_text up by)) to_fits same in
    let two = c.in_ok-index.ensures.complete index base (half_offset_text up by) base_fits one.1 in
    let read = c.in_err-up.ensures.complete up by fits two.2 in
    absurd (cc)

pub returns-clause-complete : goal.returns-clause-complete
returns-clause-complete c to base index up by to_fits base_fits fits same =
    let one = c.in_ok-rd.ensures.complete to (address_text index base (half_offset_text up by)) to_fits same in
    let two = c.in_ok-index.ensures.complete index base (half_offset_text up by) base_fits one.1 in
    let read = c.in_ok-up.ensures.complete up by fits two.2 in
    half_answer c.args.kind c.in_ok-rd.rd to c.in_ok-index.rn base c.in_ok-index.index index (c.in_ok-up.up, c.in_ok-up.offset) up by one.0 two.1 two.0 read
