-- The base, and the list in its braces.
use Rattle.std.proofs.Common.{◌++◌, ◌∷◌, codes}
use Rattle.arm_text.specs.Text.{list_text}
use Rattle.arm_text.specs.Operands.{marked_base}
use Rattle.arm_text.proofs.AddressParts.{cut, ends}
use Rattle.arm_text.proofs.OperandParts.{base_without, block_is, block_answer, behind_brace}
use Rattle.arm_text.proofs.reader.read_block.Goals as goal

pub returns-in_err-base-clause-complete : goal.returns-in_err-base-clause-complete
returns-in_err-base-clause-complete c wback base list base_fits list_fits same =
    absurd (c.in_err-base.ensures.complete (marked_base wback base) (123 ∷ (list_text list ++ codes "}")) (base_without wback base base_fits) (block_is wback base list c.args.text.now same))

pub returns-in_err-wback-clause-complete : goal.returns-in_err-wback-clause-complete
returns-in_err-wback-clause-complete c wback base list base_fits list_fits same =
    let one = c.in_ok-base.ensures.complete (marked_base wback base) (123 ∷ (list_text list ++ codes "}")) (base_without wback base base_fits) (block_is wback base list c.args.text.now same) in
    let read = c.in_err-wback.ensures.complete wback base base_fits one.0 in
    absurd (cc)

pub returns-in_err-behind-clause-complete : goal.returns-in_err-behind-clause-complete
returns-in_err-behind-clause-complete c wback base list base_fits list_fits same =
    let one = c.in_ok-base.ensures.complete (marked_base wback base) (123 ∷ (list_text list ++ codes "}")) (base_without wback base base_fits) (block_is wback base list c.args.text.now same) in
    absurd (c.in_err-behind.ensures (list_text list ++ codes "}") (search (one.1, c.as_slice.ensures)))

pub returns-in_err-before-clause-complete : goal.returns-in_err-before-clause-complete
returns-in_err-before-clause-complete c wback base list base_fits list_fits same =
    let one = c.in_ok-base.ensures.complete (marked_base wback base) (123 ∷ (list_text list ++ codes "}")) (base_without wback base base_fits) (block_is wback base list c.args.text.now same) in
    let inner = behind_brace c.in_ok-base.rest.now c.as_slice.result.now c.in_ok-behind.field-0.now (list_text list ++ codes "}") c.as_slice.ensures c.in_ok-behind.ensures one.1 in
    absurd (c.in_err-before.ensures (list_text list) (ends c.in_ok-behind.field-0.now (list_text list) c.as_slice-2.result.now (codes "}") inner c.as_slice-2.ensures))

pub returns-in_err-list-clause-complete : goal.returns-in_err-list-clause-complete
returns-in_err-list-clause-complete c wback base list base_fits list_fits same =
    let one = c.in_ok-base.ensures.complete (marked_base wback base) (123 ∷ (list_text list ++ codes "}")) (base_without wback base base_fits) (block_is wback base list c.args.text.now same) in
    let inner = behind_brace c.in_ok-base.rest.now c.as_slice.result.now c.in_ok-behind.field-0.now (list_text list ++ codes "}") c.as_slice.ensures c.in_ok-behind.ensures one.1 in
    let within = cut c.in_ok-behind.field-0.now c.in_ok-before.field-0.now (list_text list) c.as_slice-2.result.now (codes "}") inner c.as_slice-2.ensures c.in_ok-before.ensures in
    let read = c.in_err-list.ensures.complete list list_fits within in
    absurd (cc)

pub returns-clause-complete : goal.returns-clause-complete
returns-clause-complete c wback base list base_fits list_fits same =
    let one = c.in_ok-base.ensures.complete (marked_base wback base) (123 ∷ (list_text list ++ codes "}")) (base_without wback base base_fits) (block_is wback base list c.args.text.now same) in
    let inner = behind_brace c.in_ok-base.rest.now c.as_slice.result.now c.in_ok-behind.field-0.now (list_text list ++ codes "}") c.as_slice.ensures c.in_ok-behind.ensures one.1 in
    let within = cut c.in_ok-behind.field-0.now c.in_ok-before.field-0.now (list_text list) c.as_slice-2.result.now (codes "}") inner c.as_slice-2.ensures c.in_ok-before.ensures in
    block_answer c.args.load c.args.before_base c.args.up (c.in_ok-wback.wback, c.in_ok-wback.rn) wback base c.in_ok-list.list list
    (c.in_ok-wback.ensures.complete wback base base_fits one.0) (c.in_ok-list.ensures.complete list list_fits within)
