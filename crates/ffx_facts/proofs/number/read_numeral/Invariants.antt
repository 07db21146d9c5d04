use Rattle.std.proofs.Common.{◌≡◌, ◌<◌, ◌^◌, drop}
use Rattle.ffx_facts.specs.Values.{numeral}
use Rattle.ffx_facts.proofs.Numerals.{numeral_from}
use Rattle.ffx_facts.proofs.number.read_numeral.Given as goal

abbrev pub invariant-loop-byte : goal.invariant-loop-byte
invariant-loop-byte l = record {
  small : l.value < 2 ^ 32;
  left : numeral_from (2 ^ 32) l.radix l.value (drop l.byte-index l.digits) ≡ numeral l.radix l.digits;
}
