-- Vectors: the 35 numbers that the recurrence needs of the past, and how two of them compare. This project's own.
--
-- Slot 0 is f of the last instruction; 1 and 2 are fe of the last and of the one before; 3 to 10 are d of the last
-- eight, the last first; 11 and 12 are x; 13 is the end of the last instruction if it jumped, else 0; 14 and 15 are c;
-- 16, 17 and 18 are the times at which the ALU, the multiplier and the memory unit are free; 19 to 33 are the ends of
-- the last writers of r0 to r14, and 34 is that of the flags.
use Rattle.std.specs.Prelude.{◌≡◌, ℕ, ◌+◌, ◌≤◌, Bool, true, ◌==◌, ◌||◌, ◌&&◌, not, nat_le, IsTrue, List, replicate}
use Rattle.wx_base.specs.declared.machine.Machine.{Machine}
use Rattle.wx_base.specs.Recurrence.{Entry, slot}

-- how many slots a vector has
abbrev pub slot_count : ℕ
slot_count = 35

-- the vector of the empty pipeline
abbrev pub zero_slots : List ℕ
zero_slots = replicate slot_count 0

-- no slot of the second is greater
pub record Covers (a b : List ℕ) : Type 0 where
  pub each : (k : ℕ) → slot b k ≤ slot a k

-- every slot is at most the bound
pub record AreWithin (bound : ℕ) (slots : List ℕ) : Type 0 where
  pub each : (k : ℕ) → slot slots k ≤ bound

-- The machine reads the slot: with width 1 it looks at the fetch end, start and completion of the last instruction
-- alone, and it looks no further back in decoding than its queue is long.
abbrev pub is_used : Machine → ℕ → Bool
is_used m k =
    nat_le (k + 1) slot_count
    && not (((k == 2) || (k == 12) || (k == 15)) && nat_le m.width 1)
    && not (nat_le 3 k && nat_le k 10 && not (nat_le k (m.queue + 2)))

-- each slot that the machine reads is later by t
pub record IsLaterBy (m : Machine) (t : ℕ) (later slots : List ℕ) : Type 0 where
  pub each : (k : ℕ) → IsTrue (is_used m k) → slot later k ≡ slot slots k + t

-- the first entry is as the second, but may miss or be slow where the other is not
pub record IsWorse (worse e : Entry) : Type 0 where
  pub word : worse.word ≡ e.word
  pub taken : worse.taken ≡ e.taken
  pub miss : e.miss ≡ true → worse.miss ≡ true
  pub slow : e.slow ≡ true → worse.slow ≡ true
