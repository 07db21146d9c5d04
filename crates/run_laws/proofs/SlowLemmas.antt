-- Which steps are slow.
use Rattle.std.proofs.Common.{◌≡◌, ℕ, true, false, ◌&&◌, List, [], ◌∷◌, refl, sym, ap, ◌∙◌, inl, inr}
use Rattle.std.specs.Prelude.{Some, Any}
use Rattle.std.specs.List.{list_any, range_with_len}
use Rattle.std.specs.Option.{option_map_or}
use Rattle.std.proofs.lemmas.Bool.{false≢true, and_parts, or_cases}
use Rattle.std.proofs.lemmas.List.Folds.{Any-from_list_any}
use Rattle.wx_base.specs.declared.image.Image.{Image}
use Rattle.wx_base.specs.declared.machine.Machine.{Machine}
use Rattle.wx_base.specs.declared.machine.Region.{Region}
use Rattle.wx_base.specs.declared.machine.UnitKind.TheVariants as unit_kind
use Rattle.wx_base.specs.declared.step.Transfer.{Transfer}
use Rattle.wx_base.specs.declared.step.BlockTransfer.{BlockTransfer}
use Rattle.wx_base.specs.Bits.{add_words}
use Rattle.wx_base.specs.Instruction.{Kind, AluImmediate, AluShift, AluByRegister, Mul, MulLong, SingleImmediate, SingleRegister, HalfImmediate, HalfRegister, Block, Branch, Exchange, Svc, MovPcLr, kind_of, unit_by, unit_of}
use Rattle.wx_base.specs.State.{State, Went, Next}
use Rattle.wx_base.specs.Step.{alu_effect, mul_effect, mul_long_effect, current_word, effect, single_by, half_by, block_by}
use Rattle.wx_base.specs.Transfer.{block_effect, is_slow_access, lies_in, transfer_effect}
use Rattle.run_laws.specs.Stepping.{MayBeSlow, SlowStepsMayBeSlow}
use Rattle.run_laws.specs.Stepping.MayBeSlow.{multiplies}
use Rattle.run_laws.specs.Stepping.MayBeSlow.{transfers as moves_slowly}
use Rattle.run_laws.proofs.StepLemmas.{of_next, goes, GoesBy, transfers, Transfers, moves, Moves}
use Rattle.run_laws.proofs.StepLemmas.GoesBy.{passed_over, done}
use Rattle.run_laws.proofs.StepLemmas.Transfers.{loads, stores}
use Rattle.run_laws.proofs.StepLemmas.Moves.{block_loads, block_stores}

-- ---- a slow access lies in a slow region

slow_alone : (regions : List Region) (address : ℕ) → list_any (λ region. region.slow && lies_in region address) regions ≡ true → Any (λ (region : Region). region.slow ≡ true) regions
slow_alone regions address e =
    let (i, region, within, is, both) = Any-from_list_any (λ (region : Region). region.slow && lies_in region address) regions e in
    (i, region, within, is, (and_parts region.slow (lies_in region address) both).0)

of_some_byte : (regions : List Region) (first : ℕ) (offsets : List ℕ)
    → list_any (λ k. list_any (λ region. region.slow && lies_in region (add_words first k)) regions) offsets ≡ true → Any (λ (region : Region). region.slow ≡ true) regions
of_some_byte regions first [] e = absurd (false≢true e)
of_some_byte regions first (k ∷ offsets) e =
    elim (or_cases (list_any (λ region. region.slow && lies_in region (add_words first k)) regions)
    (list_any (λ k. list_any (λ region. region.slow && lies_in region (add_words first k)) regions) offsets) e) [
      | inl here ↦ slow_alone regions (add_words first k) here
      | inr further ↦ of_some_byte regions first offsets further
    ]

slow_region : (machine : Machine) (first count : ℕ) → is_slow_access machine first count ≡ true → Any (λ (region : Region). region.slow ≡ true) machine.regions
unfolding is_slow_access
slow_region machine first count e = of_some_byte machine.regions first (range_with_len 0 count) e

-- ---- by the rows

unit_is : (word : ℕ) (kind : Kind) → kind_of word ≡ Some kind → unit_of word ≡ unit_by word kind
unfolding unit_of
unit_is word kind is = ap (λ k. option_map_or (unit_by word) k unit_kind.Alu) is

module _ (machine : Machine) (image : Image) (state : State) (went : Went) (slow : went.slow ≡ true) where
  -- the outcome is slow if the step is
  so_slow : (a : Went) → Next a ≡ Next went → a.slow ≡ true
  so_slow a e = ap (λ (w : Went). w.slow) (of_next a went e) ∙ slow

  never : {A : Type 0} (a : Went) → Next a ≡ Next went → a.slow ≡ false → A
  never a e quick = absurd (false≢true (sym quick ∙ so_slow a e))

  transfer_region : (t : Transfer) → Transfers machine image state t went → Any (λ (region : Region). region.slow ≡ true) machine.regions
  transfer_region t (loads load f) = slow_region machine _ _ (so_slow _ f)
  transfer_region t (stores keeps apart f) = slow_region machine _ _ (so_slow _ f)

  block_region : (t : BlockTransfer) → Moves machine image state t went → Any (λ (region : Region). region.slow ≡ true) machine.regions
  block_region t (block_loads load f) = slow_region machine _ _ (so_slow _ f)
  block_region t (block_stores keeps apart f) = slow_region machine _ _ (so_slow _ f)

  single : (t : Transfer) → transfer_effect machine image state t ≡ Next went → Any (λ (region : Region). region.slow ≡ true) machine.regions
  single t e = transfer_region t (transfers machine image state t went e)

  block : (t : BlockTransfer) → block_effect machine image state t ≡ Next went → Any (λ (region : Region). region.slow ≡ true) machine.regions
  block t e = block_region t (moves machine image state t went e)

  of_row : (word : ℕ) (kind : Kind) → kind_of word ≡ Some kind → effect machine image state word kind ≡ Next went → MayBeSlow machine word
  unfolding alu_effect mul_effect mul_long_effect
  of_row word AluImmediate is e = never _ e refl
  of_row word AluShift is e = never _ e refl
  of_row word AluByRegister is e = never _ e refl
  of_row word Mul is e = multiplies (unit_is word Mul is)
  of_row word MulLong is e = multiplies (unit_is word MulLong is)
  of_row word SingleImmediate is e = moves_slowly (unit_is word SingleImmediate is) (single (single_by word _) e)
  of_row word SingleRegister is e = moves_slowly (unit_is word SingleRegister is) (single (single_by word _) e)
  of_row word HalfImmediate is e = moves_slowly (unit_is word HalfImmediate is) (single (half_by word _) e)
  of_row word HalfRegister is e = moves_slowly (unit_is word HalfRegister is) (single (half_by word _) e)
  of_row word Block is e = moves_slowly (unit_is word Block is) (block (block_by word) e)
  of_row word Branch is e = never _ e refl
  of_row word Exchange is e = never _ e refl
  of_row word Svc is e = cc
  of_row word MovPcLr is e = never _ e refl

  of_step : (word : ℕ) → GoesBy machine image state word went → MayBeSlow machine word
  of_step word (passed_over kind is fails e) = never _ e refl
  of_step word (done kind is e) = of_row word kind is e

pub slow_steps_may_be_slow : SlowStepsMayBeSlow
slow_steps_may_be_slow machine image state went e slow = of_step machine image state went slow (current_word state) (goes machine image state went e).by
