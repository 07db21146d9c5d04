-- How much later one instruction can make the latest of a vector's times. This project's own.
use Rattle.std.specs.Prelude.{ℕ, ◌+◌, ◌≤◌, List, [], ◌∷◌}
use Rattle.wx_base.specs.declared.machine.Machine.{Machine}
use Rattle.wx_base.specs.declared.times.Times.{Times}
use Rattle.wx_base.specs.Machine.{IsMachine}
use Rattle.wx_base.specs.Recurrence.{Entry, next, window}
use Rattle.wx_base.specs.Vector.{AreWithin}

-- the most cycles by which one instruction raises the greatest slot
abbrev pub greatest_step : ℕ
greatest_step = 4016

-- each of the six times is at most the bound
pub record TimesWithin (bound : ℕ) (times : Times) : Type 0 where
  pub f : times.f ≤ bound
  pub fe : times.fe ≤ bound
  pub d : times.d ≤ bound
  pub x : times.x ≤ bound
  pub xe : times.xe ≤ bound
  pub c : times.c ≤ bound

-- the times of the next instruction are at most that much later than the latest of the slots
abbrev pub TimesGrowLittle : Type 0
TimesGrowLittle =
    (m : Machine) (bound : ℕ) (slots : List ℕ) (e : Entry) → IsMachine m → AreWithin bound slots →
    TimesWithin (bound + greatest_step) (next m slots [] e)

-- and so are the slots behind it
abbrev pub SlotsGrowLittle : Type 0
SlotsGrowLittle =
    (m : Machine) (bound : ℕ) (slots : List ℕ) (e : Entry) → IsMachine m → AreWithin bound slots →
    AreWithin (bound + greatest_step) (window m slots (record { entry = e; times = next m slots [] e } ∷ []))
