-- A run does not stop for want of an instruction where all that it can come to are instructions.
use Rattle.std.proofs.Common.{◌≡◌, ℕ, Bool, true, false, cond, not, ◌%◌, ◌==◌, refl, sym, ap, subst, ◌∙◌}
use Rattle.std.specs.Prelude.{Option, Some, None}
use Rattle.wx_base.specs.declared.facts.Facts.{Facts}
use Rattle.wx_base.specs.declared.image.Image.{Image}
use Rattle.wx_base.specs.declared.machine.Machine.{Machine}
use Rattle.wx_base.specs.declared.step.Transfer.{Transfer}
use Rattle.wx_base.specs.declared.step.BlockTransfer.{BlockTransfer}
use Rattle.wx_base.specs.declared.step.Why.{Why}
use Rattle.wx_base.specs.declared.step.Why.TheVariants.{Fetch, Word, Align, Store}
use Rattle.wx_base.specs.Arithmetic.{passes}
use Rattle.wx_base.specs.Image.{is_code_word}
use Rattle.wx_base.specs.Instruction.{Kind, AluImmediate, AluShift, AluByRegister, Mul, MulLong, SingleImmediate, SingleRegister, HalfImmediate, HalfRegister, Block, Branch, Exchange, Svc, MovPcLr, condition, kind_of}
use Rattle.wx_base.specs.Monitor.{Rules}
use Rattle.wx_base.specs.Run.{IsStart, Start, Run, End, Finished, Halted, run_of}
use Rattle.wx_base.specs.State.{State, Stopped, goes_on, pc}
use Rattle.wx_base.specs.Step.{alu_effect, mul_effect, mul_long_effect, current_word, effect, executed, single_by, half_by, block_by, step}
use Rattle.wx_base.specs.Transfer.{address_of, size_of, meets_code, load_effect, store_effect, transfer_effect, block_first, block_size, block_load_effect, block_store_effect, block_effect}
use Rattle.run_laws.specs.Reached.{LeadsToInstructions, TakesTargets, RunsFindInstructions}
use Rattle.run_laws.proofs.ImageLemmas.{code_is_the_images}
use Rattle.run_laws.proofs.RunLemmas.{IsKept, each_run}
use Rattle.run_laws.proofs.StayLemmas.{IsInside, inside_kept, looks_inside}

-- the machine has found an instruction where it stops
pub record IsPastFetch (why : Why) : Type 0 where
  pub fetch : why ≡ Fetch → ⊥
  pub word : why ≡ Word → ⊥

at_align : IsPastFetch Align
at_align = record { fetch = λ e. cc; word = λ e. cc }

at_store : IsPastFetch Store
at_store = record { fetch = λ e. cc; word = λ e. cc }

same_why : (a b : Why) → Stopped a ≡ Stopped b → a ≡ b
same_why a b e = cc

stopped_so : (a b : Why) → IsPastFetch a → Stopped a ≡ Stopped b → IsPastFetch b
stopped_so a b p e = subst (λ (w : Why). IsPastFetch w) (same_why a b e) p

module _ (machine : Machine) (image : Image) (state : State) (why : Why) where
  transfer_stops : (t : Transfer) → transfer_effect machine image state t ≡ Stopped why → IsPastFetch why
  unfolding transfer_effect
  transfer_stops t e = aligned (not (address_of state.registers t % size_of t.datum == 0)) t.load (meets_code image (address_of state.registers t) (size_of t.datum)) e
    where
      aligned : (off load meets : Bool)
          → cond off (Stopped Align) (cond load (load_effect machine state t (address_of state.registers t)) (cond meets (Stopped Store) (store_effect machine state t (address_of state.registers t)))) ≡ Stopped why
          → IsPastFetch why
      aligned true load meets f = stopped_so Align why at_align f
      aligned false true meets f = absurd (cc)
      aligned false false true f = stopped_so Store why at_store f
      aligned false false false f = absurd (cc)

  block_stops : (t : BlockTransfer) → block_effect machine image state t ≡ Stopped why → IsPastFetch why
  unfolding block_effect
  block_stops t e = aligned (not (state.registers t.base % 4 == 0)) t.load (meets_code image (block_first state.registers t) (block_size t)) e
    where
      aligned : (off load meets : Bool)
          → cond off (Stopped Align) (cond load (block_load_effect machine state t (block_first state.registers t)) (cond meets (Stopped Store) (block_store_effect machine state t (block_first state.registers t)))) ≡ Stopped why
          → IsPastFetch why
      aligned true load meets f = stopped_so Align why at_align f
      aligned false true meets f = absurd (cc)
      aligned false false true f = stopped_so Store why at_store f
      aligned false false false f = absurd (cc)

  effect_stops : (word : ℕ) (kind : Kind) → effect machine image state word kind ≡ Stopped why → IsPastFetch why
  unfolding alu_effect mul_effect mul_long_effect
  effect_stops word AluImmediate e = absurd (cc)
  effect_stops word AluShift e = absurd (cc)
  effect_stops word AluByRegister e = absurd (cc)
  effect_stops word Mul e = absurd (cc)
  effect_stops word MulLong e = absurd (cc)
  effect_stops word SingleImmediate e = transfer_stops (single_by word _) e
  effect_stops word SingleRegister e = transfer_stops (single_by word _) e
  effect_stops word HalfImmediate e = transfer_stops (half_by word _) e
  effect_stops word HalfRegister e = transfer_stops (half_by word _) e
  effect_stops word Block e = block_stops (block_by word) e
  effect_stops word Branch e = absurd (cc)
  effect_stops word Exchange e = absurd (cc)
  effect_stops word Svc e = absurd (cc)
  effect_stops word MovPcLr e = absurd (cc)

  by_test : (word : ℕ) (kind : Kind) (b : Bool) → cond b (effect machine image state word kind) (goes_on state state.registers state.flags false) ≡ Stopped why → IsPastFetch why
  by_test word kind true e = effect_stops word kind e
  by_test word kind false e = absurd (cc)

  by_row : (word : ℕ) (kind : Option Kind) → (kind ≡ None → ⊥) → executed machine image state word kind ≡ Stopped why → IsPastFetch why
  by_row word None some e = absurd (some refl)
  by_row word (Some kind) some e = by_test word kind (passes (condition word) state.flags) e

  stops_past : is_code_word image (state.registers pc) ≡ true → (kind_of (current_word state) ≡ None → ⊥) → step machine image state ≡ Stopped why → IsPastFetch why
  unfolding step
  stops_past code some e =
      by_row (current_word state) (kind_of (current_word state)) some
      (sym (ap (λ b. cond b (executed machine image state (current_word state) (kind_of (current_word state))) (Stopped Fetch)) code) ∙ e)

-- ---- along a run

-- no end tells that there was no instruction
pub record EndsPast (end : Option End) : Type 0 where
  pub fetch : end ≡ Some (Halted Fetch) → ⊥
  pub word : end ≡ Some (Halted Word) → ⊥

ends_none : EndsPast None
ends_none = record { fetch = λ e. cc; word = λ e. cc }

ends_finished : EndsPast (Some Finished)
ends_finished = record { fetch = λ e. cc; word = λ e. cc }

ends_after : (b : Bool) → EndsPast (cond b (Some Finished) None)
ends_after true = ends_finished
ends_after false = ends_none

ends_halted : (why : Why) → IsPastFetch why → EndsPast (Some (Halted why))
ends_halted why p = record { fetch = λ e. p.fetch (same why Fetch e); word = λ e. p.word (same why Word e) }
  where
    same : (a b : Why) → Some (Halted a) ≡ Some (Halted b) → a ≡ b
    same a b e = cc

module _ (machine : Machine) (image : Image) (facts : Facts) (rules : Rules) (entry : ℕ) (start : Start) (started : IsStart machine image entry start) (targets : TakesTargets facts rules)
    (found : LeadsToInstructions image facts entry) where
  record IsPast (run : Run) : Type 0 where
    inside : IsInside machine image facts rules entry start started targets run
    past : EndsPast run.end

  past_kept : IsKept machine image rules entry start IsPast
  past_kept =
      let kept = inside_kept machine image facts rules entry start started targets in
      record {
        begins_so = record { inside = kept.begins_so; past = ends_none };
        goes_on_so = λ run watch went so going allowed is. record { inside = kept.goes_on_so run watch went so.inside going allowed is; past = ends_after _ };
        ends_so = λ run watch so going allowed is. record { inside = kept.ends_so run watch so.inside going allowed is; past = ends_finished };
        stops_so = λ run watch why so going allowed is.
            let looked = looks_inside machine image facts rules entry start started targets run so.inside going watch allowed in
            let code = found.code (run.state.registers pc) looked.led in
            let holds = so.inside.of_image.holds in
            let word = code_is_the_images image run.state holds.range holds.code code in
            record {
              inside = kept.stops_so run watch why so.inside going allowed is;
              past = ends_halted why (stops_past machine image run.state why code (found.insn (run.state.registers pc) (current_word run.state) looked.led word) is);
            };
        breaks_so = λ run breach so. record { inside = kept.breaks_so run breach so.inside; past = record { fetch = λ e. cc; word = λ e. cc } };
      }

  past_run : (n : ℕ) → IsPast (run_of machine image rules entry start n)
  past_run n = each_run machine image rules entry start IsPast past_kept n

pub runs_find_instructions : RunsFindInstructions
runs_find_instructions machine image facts rules entry start n started targets found =
    let p = past_run machine image facts rules entry start started targets found n in (p.past.fetch, p.past.word)
