-- Along a run memory holds the image's code, and what is executed is the image's.
use Rattle.std.proofs.Common.{◌≡◌, ℕ, ◌+◌, ◌%◌, ◌^◌, ◌<◌, Bool, true, false, cond, eqb, ◌==◌, ◌&&◌, List, [], ◌∷◌, refl, sym, ap, ◌∙◌, inl, inr, arith}
use Rattle.std.specs.Prelude.{◌⊎◌, Option, Some, None, All, find, option_map}
use Rattle.std.proofs.lemmas.Bool.{false≢true, and_parts, or_cases}
use Rattle.std.proofs.lemmas.Bool.Decides.{nat_tests}
use Rattle.std.proofs.lemmas.List.Elements.{All-cons, All-nil}
use Rattle.std.specs.List.{list_any}
use Rattle.wx_base.specs.declared.machine.Machine.{Machine}
use Rattle.wx_base.specs.declared.image.Image.{Image}
use Rattle.wx_base.specs.declared.image.Segment.{Segment}
use Rattle.wx_base.specs.declared.step.Why.TheVariants.{Fetch}
use Rattle.wx_base.specs.Bits.{add_words}
use Rattle.wx_base.specs.Functions.{code_at}
use Rattle.wx_base.specs.Image.{byte_of, byte_in, has_code, is_code_word, spans, word_from, word_of}
use Rattle.wx_base.specs.Instruction.{kind_of}
use Rattle.wx_base.specs.Monitor.{Rules}
use Rattle.wx_base.specs.Run.{IsStart, Start, Run, Executed, run_of}
use Rattle.wx_base.specs.State.{State, Went, Next, Ended, Stopped, pc}
use Rattle.wx_base.specs.Step.{current_word, executed, step}
use Rattle.run_laws.specs.CodeBytes.{code_has_byte}
use Rattle.run_laws.specs.Ranges.{IsInRange, HasCode, RunsStayInRange, RunsKeepCode, CodeIsTheImages, ExecutedWordsAreTheImages}
use Rattle.run_laws.proofs.CodeLemmas.{steps_keep_code}
use Rattle.run_laws.proofs.KeptLemmas.{steps_stay_in_range}
use Rattle.run_laws.proofs.RunLemmas.{IsKept, each_run}
use Rattle.run_laws.proofs.StepLemmas.{goes}

-- ---- the word at pc

is_zero : (n : ℕ) → eqb n 0 ≡ true → n ≡ 0
is_zero n e = grind (arith, nat_tests)

pub code_is_the_images : CodeIsTheImages
unfolding word_of
code_is_the_images image state range has code =
    let a = state.registers pc in
    let a3 = and_parts ((a % 4 == 0) && has_code image a && has_code image (a + 1) && has_code image (a + 2)) (has_code image (a + 3)) code in
    let a2 = and_parts ((a % 4 == 0) && has_code image a && has_code image (a + 1)) (has_code image (a + 2)) a3.0 in
    let a1 = and_parts ((a % 4 == 0) && has_code image a) (has_code image (a + 1)) a2.0 in
    let a0 = and_parts (a % 4 == 0) (has_code image a) a1.0 in
    let small : a < 2 ^ 32 = range.words pc in
    let whole : a % 4 ≡ 0 = is_zero (a % 4) a0.0 in
    ap (λ b. cond b (word_of image a) None) code
    ∙ (λ i. word_from (at a small a0.1 i) (next 1 a small whole (omega arith) a1.1 i) (next 2 a small whole (omega arith) a2.1 i) (next 3 a small whole (omega arith) a3.1 i))
  where
    at : (b : ℕ) → b < 2 ^ 32 → has_code image b ≡ true → byte_of image b ≡ Some (state.memory b)
    at b small h = let byte = code_has_byte image b h in byte.is ∙ ap (λ n. Some n) (sym (has.code b byte.byte small h byte.is))

    next : (k b : ℕ) → b < 2 ^ 32 → b % 4 ≡ 0 → k < 4 → has_code image (b + k) ≡ true → byte_of image (add_words b k) ≡ Some (state.memory (add_words b k))
    next k b small whole few h =
        let e : add_words b k ≡ b + k = omega arith in
        at (add_words b k) (omega arith) (ap (has_code image) e ∙ h)

-- ---- along a run

-- what a start has
pub record Holds (image : Image) (state : State) : Type 0 where
  pub range : IsInRange state
  pub code : HasCode image state

module _ (machine : Machine) (image : Image) where
  pub start_holds : (entry : ℕ) (start : Start) → IsStart machine image entry start → Holds image start.state
  start_holds entry start s = record {
    range = record { words = s.words; bytes = s.bytes };
    code = record { code = λ address byte small code is. s.loaded address byte is };
  }

  pub step_holds : (state : State) (went : Went) → Holds image state → step machine image state ≡ Next went → Holds image went.state
  step_holds state went h e = record {
    range = steps_stay_in_range machine image state went h.range e;
    code = record { code = λ address byte small code is. steps_keep_code machine image state went h.range e address small code ∙ h.code.code address byte small code is };
  }

  -- an instruction that ends a run is one of code
  pub ends_at_code : (state : State) → step machine image state ≡ Ended → is_code_word image (state.registers pc) ≡ true
  unfolding step
  ends_at_code state e = at (is_code_word image (state.registers pc)) refl e
    where
      at : (b : Bool) → is_code_word image (state.registers pc) ≡ b → cond b (executed machine image state (current_word state) (kind_of (current_word state))) (Stopped Fetch) ≡ Ended → is_code_word image (state.registers pc) ≡ true
      at true is f = is
      at false is f = cc

  module _ (rules : Rules) (entry : ℕ) (start : Start) (s : IsStart machine image entry start) where
    -- a run whose memory has the image's code, and whose instructions were the image's
    pub record IsOfImage (run : Run) : Type 0 where
      pub holds : Holds image run.state
      pub words : All (λ i. code_at image i.address ≡ Some i.done.entry.word) run.executed

    one_more_word : (run : Run) (i : Executed) → All (λ i. code_at image i.address ≡ Some i.done.entry.word) run.executed → code_at image i.address ≡ Some i.done.entry.word
        → All (λ i. code_at image i.address ≡ Some i.done.entry.word) (i ∷ run.executed)
    one_more_word run i all one = All-cons (λ i. code_at image i.address ≡ Some i.done.entry.word) i run.executed one all

    pub image_kept : IsKept machine image rules entry start IsOfImage
    image_kept = record {
      begins_so = record { holds = start_holds entry start s; words = All-nil (λ i. code_at image i.address ≡ Some i.done.entry.word) };
      goes_on_so = λ run watch went p going allowed is. record {
        holds = step_holds run.state went p.holds is;
        words = one_more_word run _ p.words (code_is_the_images image run.state p.holds.range p.holds.code (goes machine image run.state went is).code);
      };
      ends_so = λ run watch p going allowed is. record {
        holds = p.holds;
        words = one_more_word run _ p.words (code_is_the_images image run.state p.holds.range p.holds.code (ends_at_code run.state is));
      };
      stops_so = λ run watch why p going allowed is. record { holds = p.holds; words = p.words };
      breaks_so = λ run breach p. record { holds = p.holds; words = p.words };
    }

    pub of_image : (n : ℕ) → IsOfImage (run_of machine image rules entry start n)
    of_image n = each_run machine image rules entry start IsOfImage image_kept n

pub runs_stay_in_range : RunsStayInRange
runs_stay_in_range machine image rules entry start n s = (of_image machine image rules entry start s n).holds.range

pub runs_keep_code : RunsKeepCode
runs_keep_code machine image rules entry start n s = (of_image machine image rules entry start s n).holds.code

pub executed_words_are_the_images : ExecutedWordsAreTheImages
executed_words_are_the_images machine image rules entry start n s = (of_image machine image rules entry start s n).words
