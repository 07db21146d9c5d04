-- Devices in memory that fail at chosen calls. This project's own.
use Rattle.std.specs.Prelude.{ℕ, ◌<◌, List}
use Rattle.std.specs.List.{Contains}
use Rattle.wx_host.specs.Outside.{last_count}

-- The calls of a device that are to fail, by their numbers from 1, and how many calls there were.
pub record OutagePlan : Type 0 where
  pub failing : List ℕ
  pub calls : ℕ

-- the call of this number fails: it is listed, and the counter of calls has not come to its end
abbrev pub FailsAt : List ℕ → ℕ → Type 0
FailsAt failing number = (number < last_count) × Contains failing number
