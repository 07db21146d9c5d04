-- Amounts by position that are raised to the greatest of some numbers. This project's own.
use Rattle.std.specs.Prelude.{◌≡◌, ◌⊎◌, ℕ, ◌-◌, ◌≤◌, ◌<◌, Bool, true, false, List, length, slice_get, slice_index, Some}
use Rattle.wx_base.specs.declared.machine.Machine.{Machine}
use Rattle.wx_base.specs.Blocks.{exit_from}
use Rattle.xdd_table.specs.Diagram.{Combination, with_event}
use Rattle.pipe_time.specs.declared.vector.Vector.{Vector}
use Rattle.pipe_block.specs.Events.{entries_of}
use Rattle.flow_block.specs.declared.block.Block.{Block}
use Rattle.flow_ctx.specs.declared.unfolded.Unfolded.{Unfolded}
use Rattle.cache_class.specs.declared.class.Class.{Class}
use Rattle.cache_class.specs.declared.class.Classes.{Classes}
use Rattle.cache_class.specs.declared.group.Group.{Group}
use Rattle.cache_class.specs.Allowed.{IsAllowed}
use Rattle.state_charges.specs.declared.miss.Miss.{Miss}
use Rattle.state_charges.specs.Charges.{IsRiseAlong}

-- Each amount became the greatest of itself and the numbers that `Is` tells for its position.
pub record Raises (Is : ℕ → ℕ → Type 0) (old new : List ℕ) : Type 0 where
  pub long : length new ≡ length old
  pub grows : (i : ℕ) → slice_index old i ≤ slice_index new i
  pub covers : (i n : ℕ) → Is i n → n ≤ slice_index new i
  pub reached : (i : ℕ) → (slice_index new i ≡ slice_index old i) ⊎ Is i (slice_index new i)

-- one of the first steps tells the number for the position
pub record IsEarly (Is : ℕ → ℕ → ℕ → Type 0) (steps i n : ℕ) : Type 0 where
  pub step : ℕ
  pub early : step < steps
  pub is : Is step i n

-- by how much the cost rises by a miss of the event, the others being as in the combination
abbrev pub rise_at : (Combination → ℕ) → ℕ → Combination → ℕ
rise_at cost event f = cost (with_event f event true) - cost (with_event f event false)

-- a rise of a cost by a miss of the event, for the position of its group
pub record IsEventRise (cost : Combination → ℕ) (x : Miss) (i rise : ℕ) : Type 0 where
  pub group : i ≡ x.group
  pub f : Combination
  pub is : rise ≡ rise_at cost x.event f

-- the same of the event at a place of a list
pub record IsListedRise (cost : Combination → ℕ) (misses : List Miss) (k i rise : ℕ) : Type 0 where
  pub x : Miss
  pub stands : slice_get misses k ≡ Some x
  pub is : IsEventRise cost x i rise

-- the cost that an edge has from a vector
abbrev pub cost_from : Machine → Block → Bool → Vector → Combination → ℕ
cost_from m block taken v f = (exit_from m v.slots (entries_of block f) taken).cost

-- a rise of that cost at an allowed combination by a miss of one of the events
pub record IsVectorRise (m : Machine) (block : Block) (kinds : List Class) (taken : Bool) (misses : List Miss) (v : Vector) (i rise : ℕ) : Type 0 where
  pub place : ℕ
  pub x : Miss
  pub f : Combination
  pub stands : slice_get misses place ≡ Some x
  pub group : i ≡ x.group
  pub allowed : IsAllowed kinds f
  pub is : rise ≡ rise_at (cost_from m block taken v) x.event f

-- the same from the vector at a place of a list
pub record IsFamilyRise (m : Machine) (block : Block) (kinds : List Class) (taken : Bool) (misses : List Miss) (family : List Vector) (place i rise : ℕ) : Type 0 where
  pub v : Vector
  pub stands : slice_get family place ≡ Some v
  pub is : IsVectorRise m block kinds taken misses v i rise

-- a rise along the edge with a number, for the position of its group
pub record IsEdgeRise (u : Unfolded) (m : Machine) (classes : Classes) (vectors : List (List Vector)) (groups : List Group) (number i rise : ℕ) : Type 0 where
  pub group : Group
  pub listed : slice_get groups i ≡ Some group
  pub is : IsRiseAlong u m classes vectors group number rise
