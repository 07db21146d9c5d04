use Rattle.std.proofs.Common.{◌∙◌, sym, subst, ◌≡◌, Some, arith}
use Rattle.arm_code.specs.Encoding.{decoded}
use Rattle.arm_code.proofs.Spelling.{spelled, word_decodes, word_fits}
use Rattle.arm_code.proofs.encoder.encode.Goals as goal

pub overflow_cast-result : goal.overflow_cast-result
overflow_cast-result c =
    let fits = word_fits c.args.insn.now c.requires in
    let is = c.insn_bits.ensures in
    omega arith

pub returns-clause-decodes : goal.returns-clause-decodes
returns-clause-decodes c =
    subst (λ w. decoded w ≡ Some c.args.insn.now) (sym c.insn_bits.ensures.value) (word_decodes c.args.insn.now c.requires)

pub returns-clause-only : goal.returns-clause-only
returns-clause-only c = λ word small d. sym (c.insn_bits.ensures.value ∙ spelled word c.args.insn.now small d)
