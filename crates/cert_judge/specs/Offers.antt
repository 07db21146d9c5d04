-- What a vector of a certificate offers at a combination of its block's events: its potential, and what the misses are
-- charged. This project's own.
use Rattle.std.specs.Prelude.{◌≡◌, ℕ, ◌+◌, ◌<◌, ◌≤◌, ◌^◌, List, [], ◌∷◌, length, slice_index, if◌then◌else◌}
use Rattle.cache_class.specs.declared.class.Class.{Class}
use Rattle.cache_class.specs.declared.class.Class.TheVariants.{AlwaysHit, AlwaysMiss, FirstMiss, Open}
use Rattle.xdd_table.specs.declared.node.Dd.{Dd}
use Rattle.xdd_table.specs.declared.node.Node.{Node}
use Rattle.xdd_table.specs.Diagram.{Combination, time}
use Rattle.flow_block.specs.Blocks.{most_slots}
use Rattle.cert_judge.specs.Settled.{settled}

-- what a miss of an event of the class is charged, where `charge` is the charge of its group
abbrev pub charge_of : Class → ℕ → ℕ
charge_of AlwaysHit charge = 0
charge_of AlwaysMiss charge = 0
charge_of (FirstMiss scope) charge = charge
charge_of Open charge = 0

-- what the events that miss are charged, which are numbered on from `number` and have these classes; `charges` is by number
abbrev pub charged_from : List ℕ → ℕ → Combination → List Class → ℕ
charged_from charges number f [] = 0
charged_from charges number f (class ∷ classes) =
    (if f number then charge_of class (slice_index charges number) else 0) + charged_from charges (number + 1) f classes

-- the events of a block have a class and a charge each, and no charge is above 10^18
pub record AreSmallCharges (classes : List Class) (charges : List ℕ) : Type 0 where
  pub few : length classes ≤ most_slots
  pub long : length charges ≡ length classes
  pub small : (number : ℕ) → slice_index charges number ≤ 10 ^ 18

-- a diagram of charges: only the events matter whose classes leave a choice
pub record IsCharged (nodes : List Node) (classes : List Class) (d : Dd) : Type 0 where
  pub few : length classes ≤ most_slots
  pub within : d.place < length nodes
  pub alike : (f : Combination) → time nodes (settled classes f) d.place ≡ time nodes f d.place

-- what the vector offers at a combination, where the diagram has what the misses are charged
abbrev pub offered : List Node → Dd → ℕ → Combination → ℕ
offered nodes charged potential f = potential + time nodes f charged.place
