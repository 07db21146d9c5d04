-- The events of a block that are first misses, with the positions of their groups. This project's own.
use Rattle.std.specs.Prelude.{◌≡◌, ℕ, Bool, nat_eq, ◌&&◌, List, map, slice_get, slice_index, Option, Some, None, true, false}
use Rattle.std.specs.Map.{lookup}
use Rattle.flow_block.specs.declared.block.Slot.{Slot}
use Rattle.flow_block.specs.declared.block.SlotKind.{SlotKind}
use Rattle.flow_block.specs.declared.block.SlotKind.TheVariants.{Fetch, Multiply, Data}
use Rattle.flow_ctx.specs.declared.scope.Scope.{Scope}
use Rattle.flow_ctx.specs.declared.scope.Scope.TheVariants.{Run, Loop}
use Rattle.cache_class.specs.declared.class.Class.{Class}
use Rattle.cache_class.specs.declared.class.Class.TheVariants.{AlwaysHit, AlwaysMiss, FirstMiss, Open}
use Rattle.cache_class.specs.declared.group.Group.{Group}
use Rattle.cert_text.specs.declared.certificate.Charge.{Charge}
use Rattle.cert_rules.specs.Rules.{group_of}
use Rattle.state_charges.specs.declared.miss.Miss.{Miss}

-- the number of a scope's loop, if it is one
abbrev pub number_of : Scope → Option ℕ
number_of Run = None
number_of (Loop number) = Some number

-- two numbers of loops are one, or there is none twice
abbrev pub same_number : Option ℕ → Option ℕ → Bool
same_number None None = true
same_number None (Some n) = false
same_number (Some n) None = false
same_number (Some n) (Some m) = nat_eq n m

-- two keys are one
abbrev pub same_key : ℕ × Option ℕ → ℕ × Option ℕ → Bool
same_key a b = nat_eq a.0 b.0 && same_number a.1 b.1

-- the key of a group
abbrev pub key_of : Group → ℕ × Option ℕ
key_of group = (group.line, number_of group.scope)

-- the position that is kept for a group
abbrev pub place_in : List ((ℕ × Option ℕ) × ℕ) → Group → Option ℕ
place_in entries group = lookup (same_key (key_of group)) entries

-- the positions of groups in their list
pub record ArePlaces (groups : List Group) (entries : List ((ℕ × Option ℕ) × ℕ)) : Type 0 where
  pub sound : (group : Group) (place : ℕ) → place_in entries group ≡ Some place → slice_get groups place ≡ Some group
  pub whole : (group : Group) (place : ℕ) → slice_get groups place ≡ Some group → place_in entries group ≡ Some place

-- the position for a fetch of the line with a class
abbrev pub fetch_place : List ((ℕ × Option ℕ) × ℕ) → Class → ℕ → Option ℕ
fetch_place entries AlwaysHit line = None
fetch_place entries AlwaysMiss line = None
fetch_place entries (FirstMiss scope) line = place_in entries (record { line = line; scope = scope })
fetch_place entries Open line = None

-- the position of the group that an event belongs to, if it belongs to one
abbrev pub event_place : List ((ℕ × Option ℕ) × ℕ) → SlotKind → Class → Option ℕ
event_place entries (Fetch line) class = fetch_place entries class line
event_place entries Multiply class = None
event_place entries Data class = None

-- the event with a number belongs to the group at a position
pub record IsMiss (groups : List Group) (slots : List Slot) (classes : List Class) (event place : ℕ) : Type 0 where
  pub slot : Slot
  pub group : Group
  pub event_stands : slice_get slots event ≡ Some slot
  pub fetches : slot.kind ≡ Fetch group.line
  pub class : slice_get classes event ≡ Some (FirstMiss group.scope)
  pub listed : slice_get groups place ≡ Some group

-- these are all events of a block that belong to groups
pub record AreMisses (groups : List Group) (slots : List Slot) (classes : List Class) (misses : List Miss) : Type 0 where
  pub sound : (k : ℕ) (x : Miss) → slice_get misses k ≡ Some x → IsMiss groups slots classes x.event x.group
  pub whole : (event place : ℕ) → IsMiss groups slots classes event place
      → (k : ℕ) × (slice_get misses k ≡ Some (record { event = event; group = place }))

-- the groups have these amounts as their charges
pub record HaveAmounts (groups : List Group) (amounts : List ℕ) (charges : List Charge) : Type 0 where
  pub are : map group_of charges ≡ groups
  pub each : (i : ℕ) (charge : Charge) → slice_get charges i ≡ Some charge → charge.amount ≡ slice_index amounts i
