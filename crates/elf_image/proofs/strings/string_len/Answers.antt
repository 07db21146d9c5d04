use Rattle.std.proofs.Common.{◌==◌, length, sym, arith, eq-eqb}
use Rattle.std.proofs.lemmas.List.Sums.{position_or_len_is}
use Rattle.elf_image.proofs.strings.string_len.Goals as goal

pub returns-then-byte-eq0-clause-value : goal.returns-then-byte-eq0-clause-value
returns-then-byte-eq0-clause-value c =
    sym (position_or_len_is (λ b. b == 0) c.args.bytes.now c.loop-k.k 0 (omega arith) c.loop-k.invariant (λ h. eq-eqb _ 0 c.if-byte-eq0.true))

pub returns-clause-value : goal.returns-clause-value
returns-clause-value c =
    sym (position_or_len_is (λ b. b == 0) c.args.bytes.now (length c.args.bytes.now) 0 (omega arith) (λ k h. c.loop-k.invariant k (omega arith)) (λ h. absurd (omega arith)))
