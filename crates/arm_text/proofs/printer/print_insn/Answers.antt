-- What was pushed is the name, the suffix, a space and the operands.
use Rattle.std.proofs.Common.{◌++◌, ◌∙◌, ap}
use Rattle.arm_text.proofs.WholeTexts.{text_in_parts}
use Rattle.arm_text.proofs.printer.print_insn.Goals as goal

pub returns-clause-written : goal.returns-clause-written
returns-clause-written c =
    let text =
    text_in_parts c.args.addr c.args.insn.now c.new-text.result.items c.push_name.new.out.items c.condition_suffix.result.now
    c.push.new.out.items c.as_slice.result.now c.push-2.new.out.items c.push_operands.new.out.items c.new-text.ensures.items
    c.in_ok-push_name.ensures c.condition_suffix.ensures c.in_ok-push.ensures c.as_slice.ensures c.in_ok-push-2.ensures
    c.in_ok-push_operands.ensures in
    c.in_ok-extend_from_slice.ensures.items ∙ ap (λ t. c.args.out.now.items ++ t) (c.deref.ensures.value ∙ text)
