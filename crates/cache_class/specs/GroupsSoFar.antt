-- How groups are gathered. This project's own.
use Rattle.std.specs.Prelude.{◌≡◌, ◌<◌, ◌⊎◌, ◌↔◌, ℕ, List, Contains, Option, Some, None}
use Rattle.std.specs.Option.{option_and_then, option_cmp}
use Rattle.std.specs.Ordering.{nat_cmp, ordering_then}
use Rattle.std.specs.declared.cmp.Ordering.{Ordering}
use Rattle.flow_block.specs.declared.block.SlotKind.{SlotKind}
use Rattle.flow_ctx.specs.declared.scope.Scope.{Scope}
use Rattle.flow_ctx.specs.declared.scope.Scope.TheVariants.{Run, Loop}
use Rattle.flow_ctx.specs.declared.unfolded.Unfolded.{Unfolded}
use Rattle.cache_class.specs.declared.class.Class.{Class}
use Rattle.cache_class.specs.declared.class.Class.TheVariants.{AlwaysHit, AlwaysMiss, FirstMiss, Open}
use Rattle.cache_class.specs.declared.class.Classes.{Classes}
use Rattle.cache_class.specs.declared.group.Group.{Group}
use Rattle.cache_class.specs.Accesses.{fetched_by}
use Rattle.cache_class.specs.Groups.{IsOfGroup}

-- a loop by its number, or the run, which has none
abbrev pub scope_at : Option ℕ → Scope
scope_at None = Run
scope_at (Some number) = Loop number

-- a group is kept as its line and its scope's number
abbrev pub group_at : ℕ × Option ℕ → Group
group_at key = record { line = key.0; scope = scope_at key.1 }

-- by line, those of one line by number, none before each number
abbrev pub key_cmp : ℕ × Option ℕ → ℕ × Option ℕ → Ordering
key_cmp x y = ordering_then (nat_cmp x.0 y.0) (option_cmp nat_cmp x.1 y.1)

-- the group of a fetch of the line with a class
abbrev pub missed_first : Class → ℕ → Option Group
missed_first AlwaysHit line = None
missed_first AlwaysMiss line = None
missed_first (FirstMiss scope) line = Some (record { line = line; scope = scope })
missed_first Open line = None

-- the group that an event belongs to
abbrev pub group_of : SlotKind → Class → Option Group
group_of kind class = option_and_then (missed_first class) (fetched_by kind)

-- an event of one of the first nodes, or of the first events of the next node, belongs to the group
pub record IsGroupTo (u : Unfolded) (table : Classes) (nodes events : ℕ) (group : Group) : Type 0 where
  pub number : ℕ
  pub place : ℕ
  pub is : IsOfGroup u table group.line group.scope number place
  pub early : (number < nodes) ⊎ ((number ≡ nodes) × (place < events))

-- the groups of these events
pub record AreGroupsTo (u : Unfolded) (table : Classes) (nodes events : ℕ) (groups : List Group) : Type 0 where
  pub exact : (group : Group) → Contains groups group ↔ IsGroupTo u table nodes events group
