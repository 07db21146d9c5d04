-- Lines with the scopes in which some fetch of them is a first miss. This project's own.
use Rattle.std.specs.Prelude.{◌≡◌, ◌<◌, ◌⊎◌, ◌↔◌, ℕ, List, AllPairs, Contains, slice_get, Some}
use Rattle.flow_block.specs.declared.block.Slot.{Slot}
use Rattle.flow_block.specs.declared.block.SlotKind.TheVariants.{Fetch}
use Rattle.flow_ctx.specs.declared.scope.Scope.{Scope}
use Rattle.flow_ctx.specs.declared.scope.Scope.TheVariants.{Run, Loop}
use Rattle.flow_ctx.specs.declared.unfolded.UNode.{UNode}
use Rattle.flow_ctx.specs.declared.unfolded.Unfolded.{Unfolded}
use Rattle.cache_class.specs.declared.class.Class.{Class}
use Rattle.cache_class.specs.declared.class.Class.TheVariants.{FirstMiss}
use Rattle.cache_class.specs.declared.class.Classes.{Classes}
use Rattle.cache_class.specs.declared.group.Group.{Group}
use Rattle.cache_class.specs.Accesses.{slots_of}

-- an event of a node, both by number, belongs to a line and a scope: it fetches the line and is a first miss in the scope
pub record IsOfGroup (u : Unfolded) (table : Classes) (line : ℕ) (scope : Scope) (number place : ℕ) : Type 0 where
  pub node : UNode
  pub slot : Slot
  pub classes : List Class
  pub stands : slice_get u.nodes number ≡ Some node
  pub event : slice_get (slots_of u.program node) place ≡ Some slot
  pub fetches : slot.kind ≡ Fetch line
  pub listed : slice_get table.slots number ≡ Some classes
  pub class : slice_get classes place ≡ Some (FirstMiss scope)

-- some event belongs to the group
pub record IsGroup (u : Unfolded) (table : Classes) (group : Group) : Type 0 where
  pub number : ℕ
  pub place : ℕ
  pub is : IsOfGroup u table group.line group.scope number place

-- the run is before the loops, and these stand by number
abbrev pub IsScopeBefore : Scope → Scope → Type 0
IsScopeBefore Run Run = ⊥
IsScopeBefore Run (Loop number) = Unit {0}
IsScopeBefore (Loop number) Run = ⊥
IsScopeBefore (Loop number) (Loop other) = number < other

-- groups stand by line, those of one line by scope
abbrev pub IsGroupBefore : Group → Group → Type 0
IsGroupBefore g h = (g.line < h.line) ⊎ ((g.line ≡ h.line) × IsScopeBefore g.scope h.scope)

-- all groups, each once, in this order
pub record AreGroups (u : Unfolded) (table : Classes) (groups : List Group) : Type 0 where
  pub ascending : AllPairs IsGroupBefore groups
  pub exact : (group : Group) → Contains groups group ↔ IsGroup u table group
