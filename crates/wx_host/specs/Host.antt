-- What a store over the system's files is seen as. This project's own.
use Rattle.std.specs.Prelude.{ℕ}

-- how many reads were asked for, and how many reads and writes failed, each up to 2^64 - 1
pub record Counts : Type 0 where
  pub asked : ℕ
  pub read_faults : ℕ
  pub write_faults : ℕ
