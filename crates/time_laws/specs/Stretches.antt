-- The time of a run whose instructions come in stretches, as in the blocks of a program, by vectors that cover what each stretch
-- leaves behind. This project's own.
use Rattle.std.specs.Prelude.{◌≢◌, ℕ, ◌+◌, ◌≤◌, Bool, List, [], ◌∷◌, ◌++◌, reverse, take}
use Rattle.wx_base.specs.declared.machine.Machine.{Machine}
use Rattle.wx_base.specs.Blocks.{Exit, exit_from, finish_from}
use Rattle.wx_base.specs.Machine.{IsMachine}
use Rattle.wx_base.specs.Recurrence.{Entry, window, past_of, completion}
use Rattle.wx_base.specs.Vector.{Covers}
use Rattle.pipe_time.specs.Order.{SlotsAtMostLater}

-- instructions in their order, and whether the last of them jumps; whatever their entries say of it, no other does
pub record Stretch : Type 0 where
  pub entries : List Entry
  pub taken : Bool

-- entries, the last one first, of which that one jumps or does not
abbrev pub jumping : Bool → List Entry → List Entry
jumping taken [] = []
jumping taken (e ∷ es) = record e { taken = taken } ∷ es

-- the instructions of a stretch, the last one first
abbrev pub backwards : Stretch → List Entry
backwards s = jumping s.taken (reverse s.entries)

-- the instructions of stretches, the last stretch and of each the last instruction first
abbrev pub executed_in : List Stretch → List Entry
executed_in [] = []
executed_in (s ∷ stretches) = backwards s ++ executed_in stretches

-- what a stretch hands on from a vector
abbrev pub exit_of : Machine → List ℕ → Stretch → Exit
exit_of m v s = exit_from m v s.entries s.taken

-- Vectors go along stretches, of which the last stands first: from any one at the beginning, behind each stretch on to one that
-- covers what the stretch hands on. What is counted off on the way is added up.
pub data GoAlong (m : Machine) : List Stretch → List ℕ → ℕ → Type 0 where
  begins : (v : List ℕ) → GoAlong m [] v 0
  goes : (stretches : List Stretch) (s : Stretch) (v w : List ℕ) (cost : ℕ) → GoAlong m stretches v cost → s.entries ≢ []
      → Covers w (exit_of m v s).slots → GoAlong m (s ∷ stretches) w (cost + (exit_of m v s).cost)

-- Behind each stretch the vector, later by what was counted off, covers the run's own.
abbrev pub VectorsCoverRuns : Type 0
VectorsCoverRuns =
    (m : Machine) (stretches : List Stretch) (v : List ℕ) (cost : ℕ) → IsMachine m → GoAlong m stretches v cost
    → SlotsAtMostLater cost v (window m [] (past_of m [] (executed_in stretches)))

-- So a run that was cut after some first instructions of a further stretch is complete no later than the whole stretch from the
-- vector, and what was counted off.
abbrev pub VectorsBoundTimes : Type 0
VectorsBoundTimes =
    (m : Machine) (stretches : List Stretch) (v : List ℕ) (cost : ℕ) (last : List Entry) (count : ℕ) (taken : Bool)
    → IsMachine m → GoAlong m stretches v cost
    → completion [] (past_of m [] (jumping taken (reverse (take count last)) ++ executed_in stretches)) ≤ cost + finish_from m v last
