use Rattle.std.proofs.Common.{◌≡◌, ◌<◌, ℕ, take, get_or, length}
use Rattle.std.specs.Option.{unwrap_or}
use Rattle.start_file.specs.StartSaid.{said, of_register}
use Rattle.start_file.proofs.start_made.registers.Given as goal

abbrev pub invariant-loop-item : goal.invariant-loop-item
invariant-loop-item l = record {
  told : (n : ℕ) → n < 15 → get_or l.registers n 0 ≡ unwrap_or (said (of_register n) (take l.item-index l.items)) 0;
  long : length l.registers ≡ 16;
}
