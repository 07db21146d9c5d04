-- What is known of each line where a node accesses it. This project's own.
use Rattle.std.specs.Prelude.{◌≡◌, ℕ, ◌<◌, Bool, true, false, List, length, take, slice_get, Some}
use Rattle.wx_base.specs.declared.machine.Shape.{Shape}
use Rattle.wx_base.specs.CacheStates.{must_hold, may_hold}
use Rattle.cache_ages.specs.Bounds.{Bounds, must_ages, may_ages}
use Rattle.cache_flow.specs.declared.flow.Flow.{Flow}
use Rattle.cache_flow.specs.Flows.{accesses_of}
use Rattle.cache_flow.specs.Solutions.{must_along, may_along}
use Rattle.cache_flow.specs.Shown.{IsHeld, IsBarred}
use Rattle.cache_sets.specs.declared.verdict.Verdict.{Verdict}
use Rattle.cache_sets.specs.declared.verdict.Verdict.TheVariants.{Held, Barred, Unsure}

-- the verdict where a line is held for sure or not, and may be there or not
abbrev pub verdict_of : Bool → Bool → Verdict
verdict_of true may = Held
verdict_of false true = Unsure
verdict_of false false = Barred

-- the verdicts that states of a node tell of its accesses
pub record AreVerdictsOf (must may : Bounds) (accesses : List ℕ) (verdicts : List Verdict) : Type 0 where
  pub long : length verdicts ≡ length accesses
  pub each : (place line : ℕ) → slice_get accesses place ≡ Some line
      → slice_get verdicts place ≡ Some (verdict_of
      (must_hold must.shape (must_along must.shape (must_ages must) (take place accesses)) line)
      (may_hold may.shape (may_along may.shape (may_ages may) (take place accesses)) line))

-- what a verdict on a line says
pub data IsVerdict (shape : Shape) (flow : Flow) (node place line : ℕ) : Verdict → Type 0 where
  held : IsHeld shape flow node place line → IsVerdict shape flow node place line Held
  barred : (IsHeld shape flow node place line → ⊥) → IsBarred shape flow node place line → IsVerdict shape flow node place line Barred
  unsure : (IsHeld shape flow node place line → ⊥) → (IsBarred shape flow node place line → ⊥) → IsVerdict shape flow node place line Unsure

-- a right verdict for each access of a node
pub record AreNodeVerdicts (shape : Shape) (flow : Flow) (node : ℕ) (verdicts : List Verdict) : Type 0 where
  pub long : length verdicts ≡ length (accesses_of flow node)
  pub each : (place line : ℕ) (verdict : Verdict) → slice_get (accesses_of flow node) place ≡ Some line → slice_get verdicts place ≡ Some verdict
      → IsVerdict shape flow node place line verdict

-- and for those of all nodes
pub record AreVerdicts (shape : Shape) (flow : Flow) (verdicts : List (List Verdict)) : Type 0 where
  pub long : length verdicts ≡ length flow.nodes
  pub each : (node : ℕ) (told : List Verdict) → slice_get verdicts node ≡ Some told → AreNodeVerdicts shape flow node told
