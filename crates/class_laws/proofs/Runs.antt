-- What each instruction of a run comes to: it misses if its line is not in the cache, and nothing is slow but what may be.
use Rattle.std.proofs.Common.{◌≡◌, ℕ, zero, suc, ◌+◌, ◌*◌, ◌^◌, ◌<◌, true, not, List, [], ◌∷◌, refl, ap, arith}
use Rattle.std.specs.Prelude.{Option, Some, None, Result, Ok, Err}
use Rattle.std.proofs.lemmas.Bool.{false≢true}
use Rattle.wx_base.specs.declared.fact_kind.FactKind.{FactKind}
use Rattle.wx_base.specs.declared.image.Image.{Image}
use Rattle.wx_base.specs.declared.machine.Machine.{Machine}
use Rattle.wx_base.specs.declared.machine.Shape.{Shape}
use Rattle.wx_base.specs.Cache.{Lines, line_of, holds_line, accessed}
use Rattle.wx_base.specs.Monitor.{Rules, Watch}
use Rattle.wx_base.specs.Run.{End, Executed, IsStart, Run, Start, advanced, after_judgement, after_outcome, run_of, watch_at}
use Rattle.wx_base.specs.State.{Outcome, State, Next, Ended, Stopped, pc}
use Rattle.wx_base.specs.Step.{current_word, step}
use Rattle.run_laws.specs.Ranges.{IsInRange, StepsStayInRange}
use Rattle.run_laws.specs.Stepping.{MayBeSlow, SlowStepsMayBeSlow}

-- the cache behind what was executed, from one before it
abbrev pub cache_behind : Shape → Lines → List Executed → Lines
cache_behind shape cache [] = cache
cache_behind shape cache (i ∷ executed) = accessed shape (cache_behind shape cache executed) (line_of shape i.address)

-- what an instruction came to, with the cache before it
pub record IsMet (machine : Machine) (cache : Lines) (i : Executed) : Type 0 where
  pub miss : i.done.entry.miss ≡ not (holds_line machine.shape cache (line_of machine.shape i.address))
  pub slow : i.done.entry.slow ≡ true → MayBeSlow machine i.done.entry.word
  pub small : i.done.entry.word < 2 ^ 32

-- so of all that was executed
abbrev pub AreMet : Machine → Lines → List Executed → Type 0
AreMet machine cache [] = Unit {0}
AreMet machine cache (i ∷ executed) = IsMet machine (cache_behind machine.shape cache executed) i × AreMet machine cache executed

small_word : (a b c d : ℕ) → a < 256 → b < 256 → c < 256 → d < 256 → a + 256 * b + 65536 * c + 16777216 * d < 2 ^ 32
small_word a b c d p q r s = omega arith

module _ (slow : SlowStepsMayBeSlow) (ranges : StepsStayInRange) (machine : Machine) (image : Image) (rules : Rules) (entry : ℕ) (start : Start) where
  -- what holds along a run
  record Holds (run : Run) : Type 0 where
    cache : run.cache ≡ cache_behind machine.shape start.cache run.executed
    met : AreMet machine start.cache run.executed
    range : IsInRange run.state

  current_is_small : (state : State) → IsInRange state → current_word state < 2 ^ 32
  current_is_small state range = small_word _ _ _ _ (range.bytes _) (range.bytes _) (range.bytes _) (range.bytes _)

  by_outcome : (run : Run) (watch : Watch) (outcome : Outcome) → step machine image run.state ≡ outcome → Holds run → Holds (after_outcome machine run watch outcome)
  by_outcome run watch (Next went) e h = record {
    cache = ap (λ (c : Lines). accessed machine.shape c (line_of machine.shape (run.state.registers pc))) h.cache;
    met = (
      record {
        miss = ap (λ (c : Lines). not (holds_line machine.shape c (line_of machine.shape (run.state.registers pc)))) h.cache;
        slow = slow machine image run.state went e;
        small = current_is_small run.state h.range;
      },
      h.met,
    );
    range = ranges machine image run.state went h.range e;
  }
  by_outcome run watch Ended e h = record {
    cache = ap (λ (c : Lines). accessed machine.shape c (line_of machine.shape (run.state.registers pc))) h.cache;
    met = (
      record {
        miss = ap (λ (c : Lines). not (holds_line machine.shape c (line_of machine.shape (run.state.registers pc)))) h.cache;
        slow = λ s. absurd (false≢true s);
        small = current_is_small run.state h.range;
      },
      h.met,
    );
    range = h.range;
  }
  by_outcome run watch (Stopped why) e h = record { cache = h.cache; met = h.met; range = h.range }

  by_judgement : (run : Run) (judgement : Result Watch FactKind) → Holds run → Holds (after_judgement machine image run judgement)
  by_judgement run (Err _) h = record { cache = h.cache; met = h.met; range = h.range }
  by_judgement run (Ok watch) h = by_outcome run watch (step machine image run.state) refl h

  once_more : (run : Run) (end : Option End) → Holds run → Holds (advanced machine image rules run end)
  once_more run (Some e) h = h
  once_more run None h = by_judgement run (watch_at rules run) h

  holds_along : (n : ℕ) → IsStart machine image entry start → Holds (run_of machine image rules entry start n)
  unfolding run_of
  holds_along zero s = record { cache = refl; met = tt; range = record { words = s.words; bytes = s.bytes } }
  holds_along (suc n) s = let run = run_of machine image rules entry start n in once_more run run.end (holds_along n s)

  pub runs_are_met : (n : ℕ) → IsStart machine image entry start → AreMet machine start.cache (run_of machine image rules entry start n).executed
  runs_are_met n s = (holds_along n s).met
