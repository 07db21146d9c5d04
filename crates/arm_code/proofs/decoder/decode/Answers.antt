use Rattle.std.proofs.Common.{◌∙◌, sym, arith}
use Rattle.std.proofs.lemmas.Bool.{ne_eqb}
use Rattle.arm_code.proofs.Candidates.{no_instruction, decodes_to, decodes_to_none}
use Rattle.arm_code.proofs.Spelling.{spelled}
use Rattle.arm_code.proofs.decoder.decode.Goals as goal

pub returns-then-cond-eq15-clause-exact : goal.returns-then-cond-eq15-clause-exact
returns-then-cond-eq15-clause-exact c = sym (no_instruction c.args.word (omega arith))

pub returns-in_err-op-clause-exact : goal.returns-in_err-op-clause-exact
returns-in_err-op-clause-exact c =
    c.from_residual.ensures
    ∙ sym (decodes_to_none c.args.word (ne_eqb _ _ (λ e. omega arith)) (sym c.read.ensures ∙ c.in_err-op.was))

pub returns-clause-exact : goal.returns-clause-exact
returns-clause-exact c =
    sym (decodes_to c.args.word _ c.in_ok-op.op c.condition-cond.ensures.value (ne_eqb _ _ (λ e. omega arith)) (sym c.read.ensures ∙ c.in_ok-op.was))

pub returns-clause-spelled : goal.returns-clause-spelled
returns-clause-spelled c =
    spelled c.args.word _ (omega arith)
    (decodes_to c.args.word _ c.in_ok-op.op c.condition-cond.ensures.value (ne_eqb _ _ (λ e. omega arith)) (sym c.read.ensures ∙ c.in_ok-op.was))

pub returns-clause-valid : goal.returns-clause-valid
returns-clause-valid c = record {
  word = c.args.word;
  fits = omega arith;
  means = decodes_to c.args.word _ c.in_ok-op.op c.condition-cond.ensures.value (ne_eqb _ _ (λ e. omega arith)) (sym c.read.ensures ∙ c.in_ok-op.was);
}
