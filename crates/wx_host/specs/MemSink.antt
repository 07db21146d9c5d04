-- What a sink in memory is seen as. This project's own.
use Rattle.std.specs.Prelude.{ℕ, List}

-- The bytes that were put, how many a put takes at most, the numbers of the calls that are to fail, and how many calls and faults
-- there were.
pub record MemSinkView : Type 0 where
  pub bytes : List ℕ
  pub most : ℕ
  pub failing : List ℕ
  pub calls : ℕ
  pub faults : ℕ
