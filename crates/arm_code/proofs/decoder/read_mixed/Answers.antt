use Rattle.std.proofs.Common.{◌∙◌, arith}
use Rattle.std.proofs.lemmas.Bool.{ne_eqb}
use Rattle.arm_code.proofs.Candidates.{shift_or_return, by_register_or_exchange, multiplication, half}
use Rattle.arm_code.proofs.decoder.read_mixed.Goals as goal

pub returns-then-field-eq0 : goal.returns-then-field-eq0
returns-then-field-eq0 c =
    c.read_alu_shift_or_return.ensures ∙ shift_or_return c.args.word c.requires (omega arith)

pub returns-then-field-eq0-2 : goal.returns-then-field-eq0-2
returns-then-field-eq0-2 c =
    c.read_alu_by_register_or_exchange.ensures
    ∙ by_register_or_exchange c.args.word c.requires (omega arith) (omega arith)

pub returns-then-field-eq0-3 : goal.returns-then-field-eq0-3
returns-then-field-eq0-3 c =
    c.read_multiplication.ensures
    ∙ multiplication c.args.word c.requires (omega arith) (omega arith) (omega arith)

pub returns-else-field-eq0-3 : goal.returns-else-field-eq0-3
returns-else-field-eq0-3 c =
    c.read_half.ensures
    ∙ half c.args.word c.requires (omega arith) (omega arith) (ne_eqb _ _ (λ e. omega arith))
