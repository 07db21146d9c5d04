-- The register is the whole text.
use Rattle.std.proofs.Common.{ℕ, ap}
use Rattle.std.specs.Option.{option_map}
use Rattle.arm_code.specs.declared.insn.Op.{Op}
use Rattle.arm_code.specs.declared.insn.Op.TheVariants as op
use Rattle.arm_text.proofs.reader.read_exchange.Goals as goal

pub returns-in_err-rm-clause-complete : goal.returns-in_err-rm-clause-complete
returns-in_err-rm-clause-complete c register below same =
    let read = c.in_err-rm.ensures.complete register below same in
    absurd (cc)

pub returns-clause-complete : goal.returns-clause-complete
returns-clause-complete c register below same =
    let by_register : ℕ → Op = λ k. op.Exchange c.args.link k in
    ap (option_map by_register) (c.in_ok-rm.ensures.complete register below same)
