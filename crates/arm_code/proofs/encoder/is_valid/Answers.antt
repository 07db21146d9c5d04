use Rattle.std.proofs.Common.{◌∙◌, sym, subst, ◌≡◌, Some, arith}
use Rattle.arm_code.specs.Encoding.{decoded}
use Rattle.arm_code.proofs.Spelling.{word_decodes, word_fits}
use Rattle.arm_code.proofs.Same.{is_that, finds_that}
use Rattle.arm_code.proofs.encoder.is_valid.Goals as goal

pub returns-then-bits : goal.returns-then-bits
returns-then-bits c = (
  λ t. record {
    word = c.insn_bits-bits.result;
    fits = omega arith;
    means = sym c.decode.ensures.exact ∙ is_that c.decode.result c.args.insn.now (sym c.eq.ensures ∙ t);
  },
  λ v. c.eq.ensures
      ∙ finds_that c.decode.result c.args.insn.now
      (c.decode.ensures.exact ∙ subst (λ w. decoded w ≡ Some c.args.insn.now) (sym c.insn_bits-bits.ensures.value) (word_decodes c.args.insn.now v)),
)

pub returns-else-bits : goal.returns-else-bits
returns-else-bits c = (
  λ t. cc,
  λ v. let fits = word_fits c.args.insn.now v in let is = c.insn_bits-bits.ensures.value in absurd (omega arith),
)
