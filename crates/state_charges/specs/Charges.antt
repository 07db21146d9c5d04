-- What a miss of a group's line is charged: the greatest rise of a cost by such a miss. This project's own.
use Rattle.std.specs.Prelude.{◌≡◌, ◌⊎◌, ℕ, ◌-◌, ◌≤◌, true, false, List, map, slice_get, Some}
use Rattle.wx_base.specs.declared.machine.Machine.{Machine}
use Rattle.wx_base.specs.Blocks.{exit_from}
use Rattle.xdd_table.specs.Diagram.{Combination, with_event}
use Rattle.pipe_time.specs.declared.vector.Vector.{Vector}
use Rattle.pipe_block.specs.Events.{entries_of}
use Rattle.flow_block.specs.declared.block.Block.{Block}
use Rattle.flow_ctx.specs.declared.unfolded.Edge.{Edge}
use Rattle.flow_ctx.specs.declared.unfolded.Unfolded.{Unfolded}
use Rattle.cache_class.specs.declared.class.Class.{Class}
use Rattle.cache_class.specs.declared.class.Classes.{Classes}
use Rattle.cache_class.specs.declared.group.Group.{Group}
use Rattle.cache_class.specs.Allowed.{IsAllowed}
use Rattle.cache_class.specs.Groups.{AreGroups, IsOfGroup}
use Rattle.cert_text.specs.declared.certificate.Charge.{Charge}
use Rattle.cert_rules.specs.Rules.{IsClassed, group_of}

-- the vector is one of a node's
pub record IsOfNode (vectors : List (List Vector)) (node : ℕ) (v : Vector) : Type 0 where
  pub family : List Vector
  pub place : ℕ
  pub stands : slice_get vectors node ≡ Some family
  pub listed : slice_get family place ≡ Some v

-- A rise of a cost by a miss of the group, along the edge with a number: of the edge's cost from a vector of the node that it leaves, where an
-- event of the group misses and not hits and all other events are as an allowed combination says.
pub record IsRiseAlong (u : Unfolded) (m : Machine) (classes : Classes) (vectors : List (List Vector)) (group : Group) (number rise : ℕ) : Type 0 where
  pub edge : Edge
  pub block : Block
  pub kinds : List Class
  pub v : Vector
  pub event : ℕ
  pub f : Combination
  pub stands : slice_get u.edges number ≡ Some edge
  pub classed : IsClassed u classes edge.from block kinds
  pub listed : IsOfNode vectors edge.from v
  pub of : IsOfGroup u classes group.line group.scope edge.from event
  pub allowed : IsAllowed kinds f
  pub is : rise
      ≡ (exit_from m v.slots (entries_of block (with_event f event true)) edge.taken).cost
      - (exit_from m v.slots (entries_of block (with_event f event false)) edge.taken).cost

-- the charge of a group: the greatest rise by a miss of it, along whatever edge, and 0 where there is none
pub record IsCharge (u : Unfolded) (m : Machine) (classes : Classes) (vectors : List (List Vector)) (charge : Charge) : Type 0 where
  pub greatest : (number rise : ℕ) → IsRiseAlong u m classes vectors (group_of charge) number rise → rise ≤ charge.amount
  pub reached : (charge.amount ≡ 0) ⊎ ((number : ℕ) × IsRiseAlong u m classes vectors (group_of charge) number charge.amount)

-- the charges of all groups, in their order
pub record AreCharges (u : Unfolded) (m : Machine) (classes : Classes) (vectors : List (List Vector)) (charges : List Charge) : Type 0 where
  pub groups : AreGroups u classes (map group_of charges)
  pub each : (i : ℕ) (charge : Charge) → slice_get charges i ≡ Some charge → IsCharge u m classes vectors charge
