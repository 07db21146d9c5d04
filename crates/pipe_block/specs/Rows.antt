-- Rows of times, and the plan that leads each combination to its row. This project's own.
use Rattle.std.specs.Prelude.{◌≡◌, ℕ, ◌<◌, ◌⊎◌, Bool, List, ◌∷◌, length, map, slice_get, slice_index, Option, Some, All}
use Rattle.xdd_table.specs.declared.node.Dd.{Dd}
use Rattle.xdd_table.specs.declared.node.Node.{Node}
use Rattle.xdd_table.specs.Diagram.{Combination, time, BeginsAfter, EventsLess}
use Rattle.pipe_block.specs.declared.row.Row.{Row}
use Rattle.pipe_block.specs.declared.row.Bundle.{Bundle}
use Rattle.wx_base.specs.Vector.{slot_count}
use Rattle.pipe_block.specs.Times.{times_at, IsDiagram, AreDiagrams}

-- the row that diagrams give at a combination
abbrev pub row_at : List Node → Bundle → Combination → Row
row_at nodes bundle f = record { number = time nodes f bundle.number.place; slots = times_at nodes f bundle.slots }

-- A diagram of a plan leads each combination to the position of its row. It begins after the events in `After`, and reads none from a
-- number in `Below` on.
pub record Leads (plan : List Node) (rows : List Row) (row_of : Combination → Row) (After Below : ℕ → Type 0) (p : ℕ) : Type 0 where
  pub within : p < length plan
  pub each : (f : Combination) → slice_get rows (time plan f p) ≡ Some (row_of f)
  pub after : (e : ℕ) → After e → BeginsAfter plan e p
  pub events : (bound : ℕ) → Below bound → EventsLess plan p bound

-- earlier positions keep their rows
pub record Extends (old new : List Row) : Type 0 where
  pub kept : (i : ℕ) (r : Row) → slice_get old i ≡ Some r → slice_get new i ≡ Some r

-- the diagram in a table that has the time of the position to which the plan leads, where there is one
pub record IsColumn (plan nodes : List Node) (times : List ℕ) (p : ℕ) (d : Dd) : Type 0 where
  pub within : d.place < length nodes
  pub each : (f : Combination) (t : ℕ) → slice_get times (time plan f p) ≡ Some t → time nodes f d.place ≡ t
  pub events : (bound : ℕ) → EventsLess plan p bound → EventsLess nodes d.place bound

-- such a diagram that begins where that of the plan does
pub record IsBuilt (plan nodes : List Node) (times : List ℕ) (p : ℕ) (d : Dd) : Type 0 where
  pub column : IsColumn plan nodes times p d
  pub after : (e : ℕ) → BeginsAfter plan e p → BeginsAfter nodes e d.place

-- such diagrams for the first places of a plan
pub record AreBuilt (plan nodes : List Node) (times : List ℕ) (built : List Dd) : Type 0 where
  pub each : (p : ℕ) (d : Dd) → slice_get built p ≡ Some d → IsBuilt plan nodes times p d

-- the diagrams of a bundle
abbrev pub parts : Bundle → List Dd
parts bundle = bundle.number ∷ bundle.slots

-- the diagrams give the row to which the plan leads, and read no event that it does not read
pub record GivesRows (plan nodes : List Node) (rows : List Row) (p : ℕ) (bundle : Bundle) : Type 0 where
  pub each : (f : Combination) (r : Row) → slice_get rows (time plan f p) ≡ Some r → length r.slots ≡ slot_count → row_at nodes bundle f ≡ r
  pub diagrams : (bound : ℕ) → EventsLess plan p bound → AreDiagrams nodes bound (parts bundle)

-- slot k of each row
abbrev pub column_of : ℕ → List Row → List ℕ
column_of k rows = map (λ r. slice_index r.slots k) rows

-- the diagrams of all 35 columns
pub record AreColumns (plan nodes : List Node) (rows : List Row) (p : ℕ) (slots : List Dd) : Type 0 where
  pub long : length slots ≡ slot_count
  pub each : (k : ℕ) (d : Dd) → slice_get slots k ≡ Some d → IsColumn plan nodes (column_of k rows) p d

-- all diagrams of a list begin after the event
abbrev pub AllAfter : List Node → ℕ → List Dd → Type 0
AllAfter nodes e diagrams = All (λ d. BeginsAfter nodes e d.place) diagrams

-- they begin after each event before the level
pub record AreFrom (nodes : List Node) (level : ℕ) (diagrams : List Dd) : Type 0 where
  pub each : (e : ℕ) → e < level → AllAfter nodes e diagrams

-- the event at the root of a diagram, where it is one before 12
pub record IsFirst (nodes : List Node) (event : ℕ) (d : Dd) : Type 0 where
  pub from : (e : ℕ) → e < event → BeginsAfter nodes e d.place
  pub first : (e : ℕ) → BeginsAfter nodes e d.place → event < 12 → e < event
  pub below : (bound : ℕ) → IsDiagram nodes bound d → event < 12 → event < bound

-- the second diagram is the first with the event given, where the first reads none before it
pub record IsCofactor (nodes : List Node) (event : ℕ) (misses : Bool) (d r : Dd) : Type 0 where
  pub within : r.place < length nodes
  pub times : (f : Combination) → f event ≡ misses → time nodes f r.place ≡ time nodes f d.place
  pub after : BeginsAfter nodes event r.place
  pub events : (bound : ℕ) → EventsLess nodes d.place bound → EventsLess nodes r.place bound

-- the diagrams of a bundle with the event given
pub record AreCofactors (nodes : List Node) (event : ℕ) (misses : Bool) (bundle result : Bundle) : Type 0 where
  pub times : (f : Combination) → f event ≡ misses → row_at nodes result f ≡ row_at nodes bundle f
  pub after : AllAfter nodes event (parts result)
  pub events : (bound : ℕ) → AreDiagrams nodes bound (parts bundle) → AreDiagrams nodes bound (parts result)

-- the plan's diagram leads to the rows of the bundle
abbrev pub LeadsTo : List Node → List Row → List Node → Bundle → ℕ → Type 0
LeadsTo plan rows nodes bundle p =
    Leads plan rows (row_at nodes bundle) (λ e. AllAfter nodes e (parts bundle)) (λ bound. AreDiagrams nodes bound (parts bundle)) p

-- each kept answer is the diagram that leads to the rows of its bundle
pub record AreGathered (plan : List Node) (rows : List Row) (nodes : List Node) (kept : Bundle → Option Dd) : Type 0 where
  pub each : (bundle : Bundle) (d : Dd) → kept bundle ≡ Some d → LeadsTo plan rows nodes bundle d.place

-- whatever the events before the level do, some combination that does the same gives the row
pub record IsGiven (row_of : Combination → Row) (level : ℕ) (r : Row) : Type 0 where
  pub by : (g : Combination) → (f : Combination) × (r ≡ row_of f) × ((x : ℕ) → x < level → f x ≡ g x)

-- each row that was added is given
pub record AddsGiven (old new : List Row) (row_of : Combination → Row) (level : ℕ) : Type 0 where
  pub added : (i : ℕ) (r : Row) → slice_get new i ≡ Some r → (slice_get old i ≡ Some r) ⊎ IsGiven row_of level r

-- Different rows, and for each of some rows its position among them; each of the different rows is one of those.
pub record AreMerged (rows different : List Row) (places : List ℕ) : Type 0 where
  pub long : length places ≡ length rows
  pub each : (i : ℕ) (r : Row) → slice_get rows i ≡ Some r → (p : ℕ) × (slice_get places i ≡ Some p) × (slice_get different p ≡ Some r)
  pub given : (p : ℕ) (r : Row) → slice_get different p ≡ Some r → (i : ℕ) × (slice_get rows i ≡ Some r)
