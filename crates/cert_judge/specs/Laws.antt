-- What misses are charged, by a list of charges and by what each event is charged. This project's own.
use Rattle.std.specs.Prelude.{◌≡◌, ℕ, ◌+◌, List, [], ◌∷◌, length, slice_get, slice_index, Some, if◌then◌else◌}
use Rattle.flow_block.specs.declared.block.Slot.{Slot}
use Rattle.cache_class.specs.declared.class.Class.{Class}
use Rattle.xdd_table.specs.Diagram.{Combination}
use Rattle.cert_judge.specs.Offers.{charge_of, charged_from}

-- the charges of the events that miss, where `worth` gives that of an event with its class; events and classes are
-- numbered on from `number`
abbrev pub missed_from : (Slot → Class → ℕ) → Combination → ℕ → List Slot → List Class → ℕ
missed_from worth f number [] classes = 0
missed_from worth f number (event ∷ events) [] = 0
missed_from worth f number (event ∷ events) (class ∷ classes) =
    (if f number then worth event class else 0) + missed_from worth f (number + 1) events classes

-- each event has a class, and the list has what a miss of it is charged
pub record AreCharges (worth : Slot → Class → ℕ) (events : List Slot) (classes : List Class) (charges : List ℕ)
    : Type 0 where
  pub long : length events ≡ length classes
  pub each : (number : ℕ) (event : Slot) (class : Class) → slice_get events number ≡ Some event
      → slice_get classes number ≡ Some class → charge_of class (slice_index charges number) ≡ worth event class

-- what the misses are charged by such a list is the sum of the charges of the events that miss
abbrev pub MissesAreCharged : Type 0
MissesAreCharged =
    (worth : Slot → Class → ℕ) (f : Combination) (events : List Slot) (classes : List Class) (charges : List ℕ) →
    AreCharges worth events classes charges → charged_from charges 0 f classes ≡ missed_from worth f 0 events classes
