-- What charges are worked out from. This project's own.
use Rattle.std.specs.Prelude.{◌≡◌, ℕ, ◌<◌, ◌≤◌, ◌^◌, List, length, slice_get, Some}
use Rattle.wx_base.specs.declared.machine.Machine.{Machine}
use Rattle.wx_base.specs.Machine.{IsMachine}
use Rattle.wx_base.specs.Vector.{AreWithin}
use Rattle.pipe_time.specs.declared.vector.Vector.{Vector}
use Rattle.flow_block.specs.declared.block.Block.{Block}
use Rattle.flow_ctx.specs.declared.unfolded.Unfolded.{Unfolded}
use Rattle.flow_ctx.specs.declared.scope.Scope.{Scope}
use Rattle.flow_ctx.specs.Laws.{IsUnfoldedOn}
use Rattle.flow_ctx.specs.Nodes.{IsBlockOf}
use Rattle.cache_class.specs.declared.class.Class.{Class}
use Rattle.cache_class.specs.declared.class.Class.TheVariants.{FirstMiss}
use Rattle.cache_class.specs.declared.class.Classes.{Classes}
use Rattle.cache_class.specs.Classes.{AreClasses}
use Rattle.state_charges.specs.declared.miss.Miss.{Miss}
use Rattle.state_charges.specs.Charges.{IsOfNode}

-- each node has vectors of numbers of at most 10^18
pub record AreVectors (u : Unfolded) (vectors : List (List Vector)) : Type 0 where
  pub long : length vectors ≡ length u.nodes
  pub small : (node : ℕ) (v : Vector) → IsOfNode vectors node v → AreWithin (10 ^ 18) v.slots

-- an unfolding on a machine, with the classes of its events and vectors for its nodes
pub record IsSubject (u : Unfolded) (m : Machine) (classes : Classes) (vectors : List (List Vector)) : Type 0 where
  pub machine : IsMachine m
  pub unfolded : IsUnfoldedOn m u
  pub classed : AreClasses u m classes
  pub listed : AreVectors u vectors

-- an event is a first miss of a group among so many
pub record IsFirstMiss (kinds : List Class) (count : ℕ) (x : Miss) : Type 0 where
  pub scope : Scope
  pub class : slice_get kinds x.event ≡ Some (FirstMiss scope)
  pub group : x.group < count

-- the node has this block, whose events have these classes, and events of it that are first misses of so many groups
pub record IsDeparture (u : Unfolded) (node : ℕ) (block : Block) (kinds : List Class) (misses : List Miss) (count : ℕ) : Type 0 where
  pub is : IsBlockOf u node block
  pub few : length kinds ≤ 12
  pub first : (k : ℕ) (x : Miss) → slice_get misses k ≡ Some x → IsFirstMiss kinds count x
