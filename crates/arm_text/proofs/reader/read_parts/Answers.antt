-- The mnemonic ends at the first space.
use Rattle.std.proofs.Common.{◌++◌, sym, ◌∙◌}
use Rattle.arm_text.specs.Names.{condition_suffix}
use Rattle.arm_text.specs.Mnemonics.{name_text}
use Rattle.arm_text.specs.Operands.{name_of, operands_text}
use Rattle.arm_text.proofs.WholeTexts.{text_is, named, mnemonic_without, whole_text, mnemonic_parts, insn_answer}
use Rattle.arm_text.proofs.reader.read_parts.Goals as goal

pub returns-clause-sound : goal.returns-clause-sound
returns-clause-sound c =
    whole_text c.args.addr c.in_ok-name.cond c.in_ok-name.name c.in_ok-op.op c.in_ok-mnemonic.mnemonic.now c.in_ok-mnemonic.operands.now
    c.args.text.now c.in_ok-mnemonic.ensures.sound c.in_ok-name.ensures.sound.2 c.in_ok-op.ensures.sound.0 c.in_ok-op.ensures.sound.1

pub returns-in_err-mnemonic-clause-complete : goal.returns-in_err-mnemonic-clause-complete
returns-in_err-mnemonic-clause-complete c insn cond fits same =
    absurd (c.in_err-mnemonic.ensures.complete (name_text (name_of insn.op) ++ condition_suffix insn.cond) (operands_text c.args.addr insn.op)
    (mnemonic_without (name_of insn.op) insn.cond (named insn.op fits) cond) (same ∙ text_is c.args.addr insn))

pub returns-in_err-name-clause-complete : goal.returns-in_err-name-clause-complete
returns-in_err-name-clause-complete c insn cond fits same =
    let parts = c.in_ok-mnemonic.ensures.complete (name_text (name_of insn.op) ++ condition_suffix insn.cond) (operands_text c.args.addr insn.op)
    (mnemonic_without (name_of insn.op) insn.cond (named insn.op fits) cond) (same ∙ text_is c.args.addr insn) in
    let read = c.in_err-name.ensures.complete (name_of insn.op) insn.cond (named insn.op fits) cond parts.0 in
    absurd (cc)

pub returns-in_err-op-clause-complete : goal.returns-in_err-op-clause-complete
returns-in_err-op-clause-complete c insn cond fits same =
    let parts = c.in_ok-mnemonic.ensures.complete (name_text (name_of insn.op) ++ condition_suffix insn.cond) (operands_text c.args.addr insn.op)
    (mnemonic_without (name_of insn.op) insn.cond (named insn.op fits) cond) (same ∙ text_is c.args.addr insn) in
    let mnemonic = c.in_ok-name.ensures.complete (name_of insn.op) insn.cond (named insn.op fits) cond parts.0 in
    let same_parts = mnemonic_parts c.in_ok-name.name (name_of insn.op) c.in_ok-name.cond insn.cond mnemonic in
    let read = c.in_err-op.ensures.complete insn.op fits (sym same_parts.0) parts.1 in
    absurd (cc)

pub returns-clause-complete : goal.returns-clause-complete
returns-clause-complete c insn cond fits same =
    let parts = c.in_ok-mnemonic.ensures.complete (name_text (name_of insn.op) ++ condition_suffix insn.cond) (operands_text c.args.addr insn.op)
    (mnemonic_without (name_of insn.op) insn.cond (named insn.op fits) cond) (same ∙ text_is c.args.addr insn) in
    let mnemonic = c.in_ok-name.ensures.complete (name_of insn.op) insn.cond (named insn.op fits) cond parts.0 in
    let same_parts = mnemonic_parts c.in_ok-name.name (name_of insn.op) c.in_ok-name.cond insn.cond mnemonic in
    insn_answer c.in_ok-name.cond c.in_ok-op.op insn same_parts.1 (c.in_ok-op.ensures.complete insn.op fits (sym same_parts.0) parts.1)
