-- Slots that lie below the next fetch play no part. This project's own.
use Rattle.std.specs.Prelude.{◌≡◌, ℕ, ◌≤◌, List, [], max}
use Rattle.wx_base.specs.declared.machine.Machine.{Machine}
use Rattle.wx_base.specs.Machine.{IsMachine}
use Rattle.wx_base.specs.Recurrence.{Entry, slot, f_of, past_of}

-- each slot of the first is that of the second, or it was raised, to the floor at most
pub record IsRaised (floor : ℕ) (raised slots : List ℕ) : Type 0 where
  pub covers : (k : ℕ) → slot slots k ≤ slot raised k
  pub within : (k : ℕ) → slot raised k ≤ max (slot slots k) floor

-- Slots that are raised no higher than the next fetch begins leave every time as it is.
abbrev pub RaisingChangesNothing : Type 0
RaisingChangesNothing =
    (m : Machine) (raised slots : List ℕ) (entries : List Entry) → IsMachine m → IsRaised (f_of m slots []) raised slots →
    past_of m raised entries ≡ past_of m slots entries
