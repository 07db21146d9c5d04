-- Charges by line and scope. This project's own.
use Rattle.std.specs.Prelude.{◌≡◌, ℕ, Bool, nat_eq, ◌&&◌, List, length, AllPairs, slice_get, slice_index, Option, Some, None, unwrap_or, true, false}
use Rattle.std.specs.Map.{lookup}
use Rattle.flow_block.specs.declared.block.Slot.{Slot}
use Rattle.flow_block.specs.declared.block.SlotKind.{SlotKind}
use Rattle.flow_block.specs.declared.block.SlotKind.TheVariants.{Fetch, Multiply, Data}
use Rattle.flow_ctx.specs.declared.scope.Scope.{Scope}
use Rattle.flow_ctx.specs.declared.scope.Scope.TheVariants.{Run, Loop}
use Rattle.cache_class.specs.declared.class.Class.{Class}
use Rattle.cache_class.specs.declared.class.Class.TheVariants.{AlwaysHit, AlwaysMiss, FirstMiss, Open}
use Rattle.cert_text.specs.declared.certificate.Charge.{Charge}

-- the number of a scope's loop, if it is one
abbrev pub number_of : Scope → Option ℕ
number_of Run = None
number_of (Loop number) = Some number

-- two numbers of loops are one, or there is none twice
abbrev pub same_number : Option ℕ → Option ℕ → Bool
same_number None None = true
same_number None (Some n) = false
same_number (Some n) None = false
same_number (Some n) (Some m) = nat_eq n m

-- two keys are one
abbrev pub same_key : ℕ × Option ℕ → ℕ × Option ℕ → Bool
same_key a b = nat_eq a.0 b.0 && same_number a.1 b.1

-- the charge that is listed for a line and a scope, 0 if none is
abbrev pub charge_in : List ((ℕ × Option ℕ) × ℕ) → ℕ → Scope → ℕ
charge_in entries line scope = unwrap_or (lookup (same_key (line, number_of scope)) entries) 0

-- no two charges have one line and one scope
abbrev pub AreApart : List Charge → Type 0
AreApart charges = AllPairs (λ a b. (a.line ≡ b.line) → (a.scope ≡ b.scope) → ⊥) charges

-- what a miss of a fetch of a line is charged, where `charge` gives the charge of a line and a scope
abbrev pub fetch_charge : (ℕ → Scope → ℕ) → ℕ → Class → ℕ
fetch_charge charge line AlwaysHit = 0
fetch_charge charge line AlwaysMiss = 0
fetch_charge charge line (FirstMiss scope) = charge line scope
fetch_charge charge line Open = 0

-- what a miss of an event is charged
abbrev pub event_charge : (ℕ → Scope → ℕ) → SlotKind → Class → ℕ
event_charge charge (Fetch line) class = fetch_charge charge line class
event_charge charge Multiply class = 0
event_charge charge Data class = 0

-- what a miss of each event of a block is charged
pub record AreEventCharges (charge : ℕ → Scope → ℕ) (events : List Slot) (classes : List Class) (charges : List ℕ) : Type 0 where
  pub long : length charges ≡ length events
  pub each : (number : ℕ) (event : Slot) (class : Class) → slice_get events number ≡ Some event → slice_get classes number ≡ Some class
      → slice_index charges number ≡ event_charge charge event.kind class
