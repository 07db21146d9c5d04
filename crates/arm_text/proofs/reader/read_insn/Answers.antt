-- What was read is the only valid instruction of its text.
use Rattle.std.proofs.Common.{Ok, sym, ◌∙◌, ap, subst}
use Rattle.std.proofs.lemmas.Bool.{false≢true}
use Rattle.arm_code.specs.Encoding.{IsValid}
use Rattle.arm_text.proofs.Validity.{valid_fields}
use Rattle.arm_text.proofs.WholeTexts.{one_insn, no_insn}
use Rattle.arm_text.proofs.reader.read_insn.Goals as goal

pub returns-in-Some-clause-complete : goal.returns-in-Some-clause-complete
returns-in-Some-clause-complete c insn valid same =
    ap Ok (one_insn c.in-Some.insn insn (sym c.in-Some.is ∙ c.read_parts.ensures.complete insn (valid_fields insn valid).cond_fits (valid_fields insn valid).op_fits same))

pub returns-in-Some-clause-one_each : goal.returns-in-Some-clause-one_each
returns-in-Some-clause-one_each c a b valid other same too =
    one_insn a b (sym (c.read_parts.ensures.complete a (valid_fields a valid).cond_fits (valid_fields a valid).op_fits same)
    ∙ c.read_parts.ensures.complete b (valid_fields b other).cond_fits (valid_fields b other).op_fits too)

pub returns-in_default-clause-complete : goal.returns-in_default-clause-complete
returns-in_default-clause-complete c insn valid same =
    absurd (false≢true (sym c.if-is_valid.false ∙ c.is_valid.ensures.1 (subst IsValid (sym (one_insn c.in-Some.insn insn (sym c.in-Some.is ∙ c.read_parts.ensures.complete insn (valid_fields insn valid).cond_fits (valid_fields insn valid).op_fits same))) valid)))

pub returns-in_default-clause-refused : goal.returns-in_default-clause-refused
returns-in_default-clause-refused c insn valid same =
    false≢true (sym c.if-is_valid.false ∙ c.is_valid.ensures.1 (subst IsValid (sym (one_insn c.in-Some.insn insn (sym c.in-Some.is ∙ c.read_parts.ensures.complete insn (valid_fields insn valid).cond_fits (valid_fields insn valid).op_fits same))) valid))

pub returns-in_default-clause-one_each : goal.returns-in_default-clause-one_each
returns-in_default-clause-one_each c a b valid other same too =
    one_insn a b (sym (c.read_parts.ensures.complete a (valid_fields a valid).cond_fits (valid_fields a valid).op_fits same)
    ∙ c.read_parts.ensures.complete b (valid_fields b other).cond_fits (valid_fields b other).op_fits too)

pub returns-in_default-2-clause-complete : goal.returns-in_default-2-clause-complete
returns-in_default-2-clause-complete c insn valid same =
    absurd (no_insn c.read_parts.result insn c.in_default.is (c.read_parts.ensures.complete insn (valid_fields insn valid).cond_fits (valid_fields insn valid).op_fits same))

pub returns-in_default-2-clause-refused : goal.returns-in_default-2-clause-refused
returns-in_default-2-clause-refused c insn valid same =
    no_insn c.read_parts.result insn c.in_default.is (c.read_parts.ensures.complete insn (valid_fields insn valid).cond_fits (valid_fields insn valid).op_fits same)

pub returns-in_default-2-clause-one_each : goal.returns-in_default-2-clause-one_each
returns-in_default-2-clause-one_each c a b valid other same too =
    one_insn a b (sym (c.read_parts.ensures.complete a (valid_fields a valid).cond_fits (valid_fields a valid).op_fits same)
    ∙ c.read_parts.ensures.complete b (valid_fields b other).cond_fits (valid_fields b other).op_fits too)
