-- What counting a vector from its cost on does to later times. This project's own.
use Rattle.std.specs.Prelude.{◌≡◌, ℕ, ◌+◌, ◌≤◌, List, ◌∷◌, length}
use Rattle.wx_base.specs.declared.machine.Machine.{Machine}
use Rattle.wx_base.specs.Blocks.{base_of, cost_of, rebased}
use Rattle.wx_base.specs.Machine.{IsMachine}
use Rattle.wx_base.specs.Recurrence.{Entry, past_of, completion}
use Rattle.wx_base.specs.Vector.{Covers, slot_count}
use Rattle.pipe_time.specs.Order.{Pairwise, AreAtMostLater, AreLaterBy, SlotsAtMostLater}

-- From a vector every time is at most its cost later than from the rebased vector.
abbrev pub RebasedIsNoFaster : Type 0
RebasedIsNoFaster =
    (m : Machine) (slots : List ℕ) (entries : List Entry) → IsMachine m →
    Pairwise (λ i j. AreAtMostLater (cost_of m slots) i.times j.times) (past_of m (rebased m slots) entries) (past_of m slots entries)

-- so the last instruction is complete at most that much later
abbrev pub RebasedCompletesNoEarlier : Type 0
RebasedCompletesNoEarlier =
    (m : Machine) (slots : List ℕ) (entries : List Entry) → IsMachine m →
    completion slots (past_of m slots entries) ≤ completion (rebased m slots) (past_of m (rebased m slots) entries) + cost_of m slots

-- Where the cost is the base, every time is later by exactly the cost.
abbrev pub RebasedIsExact : Type 0
RebasedIsExact =
    (m : Machine) (slots : List ℕ) (entries : List Entry) → IsMachine m → length slots ≡ slot_count → cost_of m slots ≡ base_of m slots →
    Pairwise (λ i j. AreLaterBy (cost_of m slots) i.times j.times) (past_of m slots entries) (past_of m (rebased m slots) entries)

-- so the last instruction, where there is one, is complete later by exactly the cost
abbrev pub RebasedCompletionIsExact : Type 0
RebasedCompletionIsExact =
    (m : Machine) (slots : List ℕ) (e : Entry) (entries : List Entry) → IsMachine m → length slots ≡ slot_count → cost_of m slots ≡ base_of m slots →
    completion slots (past_of m slots (e ∷ entries)) ≡ completion (rebased m slots) (past_of m (rebased m slots) (e ∷ entries)) + cost_of m slots

-- a vector's slots are at most its cost later than those of the rebased vector
abbrev pub RebasedPlusCostCovers : Type 0
RebasedPlusCostCovers = (m : Machine) (slots : List ℕ) → SlotsAtMostLater (cost_of m slots) (rebased m slots) slots

-- a covering vector has at least the base
abbrev pub BaseIsMonotone : Type 0
BaseIsMonotone = (m : Machine) (a b : List ℕ) → IsMachine m → Covers a b → base_of m b ≤ base_of m a

-- and at least the cost
abbrev pub CostIsMonotone : Type 0
CostIsMonotone = (m : Machine) (a b : List ℕ) → IsMachine m → Covers a b → cost_of m b ≤ cost_of m a

-- covering survives a rebase: what a vector covers, the rebased vector covers once the cost is added
abbrev pub CoverSurvives : Type 0
CoverSurvives = (m : Machine) (a b : List ℕ) → Covers a b → SlotsAtMostLater (cost_of m a) (rebased m a) b
