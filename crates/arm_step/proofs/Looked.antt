-- What a step does with the word that it looks at.
use Rattle.std.proofs.Common.{◌≡◌, ℕ, ◌+◌, ◌*◌, ◌<◌, ◌^◌, Bool, true, false, cond, ◌==◌, subst, Option, Some, None, refl, sym, ap, ◌∙◌, arith}
use Rattle.std.proofs.lemmas.Bool.{cond-true, cond-false}
use Rattle.std.specs.Option.{option_map}
use Rattle.wx_base.specs.declared.machine.Machine.{Machine}
use Rattle.wx_base.specs.declared.image.Image.{Image}
use Rattle.wx_base.specs.declared.step.Why.TheVariants.{Fetch, Word}
use Rattle.wx_base.specs.declared.step.Datum.{Datum}
use Rattle.wx_base.specs.declared.step.Datum.TheVariants as datum
use Rattle.wx_base.specs.Image.{is_code_word}
use Rattle.wx_base.specs.Instruction.{Kind, AluImmediate, AluShift, AluByRegister, Mul, MulLong, SingleImmediate, SingleRegister, HalfImmediate, HalfRegister, Block, Branch, Exchange, Svc, MovPcLr, kind_of, is_load, is_before, writes_back, is_up, is_byte, rn, rd, rm, half_sort, offset, offset_high, offset_low, shift_kind, shift_amount, links, branch_offset, changes_base}
use Rattle.wx_base.specs.Flow.{branch_target}
use Rattle.wx_base.specs.Arithmetic.{passes}
use Rattle.wx_base.specs.State.{State, Stopped, pc, goes_on, jumps}
use Rattle.wx_base.specs.Transfer.{transfer_effect}
use Rattle.wx_base.specs.Step.{current_word, executed, effect, step, shift_operand}
use Rattle.arm_code.specs.declared.insn.Insn.{Insn}
use Rattle.arm_code.specs.declared.insn.HalfKind.TheVariants.{Ldrh, Strh, Ldrsb, Ldrsh}
use Rattle.arm_code.specs.Encoding.{decoded, insn_by, op_by, index_by, signed_offset}
use Rattle.arm_code.specs.Columns.{half_loads, index_changes}
use Rattle.arm_code.specs.Flows.{offset_target, adds_before}
use Rattle.arm_step.specs.Effects.{op_effect, transfer_of, single_datum, half_datum_of, OpFits}

before_is : (before back : Bool) → adds_before (index_by before back) ≡ before
before_is true true = refl
before_is true false = refl
before_is false true = refl
before_is false false = refl

changes_is : (before back : Bool) → index_changes (index_by before back) ≡ changes_base before back
changes_is true true = refl
changes_is true false = refl
changes_is false true = refl
changes_is false false = refl

loads_is : (half load signed : Bool) → half_loads (cond half (cond load Ldrh Strh) (cond signed Ldrsb Ldrsh)) ≡ cond half load true
loads_is true true signed = refl
loads_is true false signed = refl
loads_is false load true = refl
loads_is false load false = refl

datum_is : (half load signed : Bool) → half_datum_of (cond half (cond load Ldrh Strh) (cond signed Ldrsb Ldrsh)) ≡ cond half datum.Half (cond signed datum.SignedByte datum.SignedHalf)
datum_is true true signed = refl
datum_is true false signed = refl
datum_is false load true = refl
datum_is false load false = refl

-- a transfer as the word says it
moves_by : (machine : Machine) (image : Image) (state : State) (load load' : Bool) (what what' : Datum) (to base : ℕ) (before back up : Bool) (by : ℕ) → load ≡ load' → what ≡ what'
    → transfer_effect machine image state (transfer_of load what to base (index_by before back) up by)
    ≡ transfer_effect machine image state (record { load = load'; datum = what'; register = to; base = base; offset = by; up = up; before = before; changes = changes_base before back })
moves_by machine image state load load' what what' to base before back up by l w =
    λ i. transfer_effect machine image state (record { load = l i; datum = w i; register = to; base = base; offset = by; up = up; before = before_is before back i; changes = changes_is before back i })

abbrev Targets : Type 0
Targets = (address words : ℕ) → words < 2 ^ 24 → offset_target address (signed_offset words) ≡ branch_target address words

effect_as : Targets → (machine : Machine) (image : Image) (state : State) (word : ℕ) (kind : Kind) → op_effect machine image state (op_by word kind) ≡ effect machine image state word kind
effect_as targets machine image state word AluImmediate = refl
effect_as targets machine image state word AluShift = refl
effect_as targets machine image state word AluByRegister = refl
effect_as targets machine image state word Mul = refl
effect_as targets machine image state word MulLong = refl
effect_as targets machine image state word SingleImmediate =
    moves_by machine image state (is_load word) (is_load word) (single_datum (is_byte word)) (single_datum (is_byte word)) (rd word) (rn word) (is_before word) (writes_back word) (is_up word) (offset word) refl refl
effect_as targets machine image state word SingleRegister =
    moves_by machine image state (is_load word) (is_load word) (single_datum (is_byte word)) (single_datum (is_byte word)) (rd word) (rn word) (is_before word) (writes_back word) (is_up word)
    (shift_operand state (rm word) (shift_kind word) (shift_amount word)).value refl refl
effect_as targets machine image state word HalfImmediate =
    moves_by machine image state _ _ _ _ (rd word) (rn word) (is_before word) (writes_back word) (is_up word) (offset_high word * 2 ^ 4 + offset_low word)
    (loads_is (half_sort word == 1) (is_load word) (half_sort word == 2)) (datum_is (half_sort word == 1) (is_load word) (half_sort word == 2))
effect_as targets machine image state word HalfRegister =
    moves_by machine image state _ _ _ _ (rd word) (rn word) (is_before word) (writes_back word) (is_up word) (state.registers (rm word))
    (loads_is (half_sort word == 1) (is_load word) (half_sort word == 2)) (datum_is (half_sort word == 1) (is_load word) (half_sort word == 2))
effect_as targets machine image state word Block = refl
effect_as targets machine image state word Branch =
    ap (jumps state (links word)) (targets (state.registers pc) (branch_offset word) (omega arith))
effect_as targets machine image state word Exchange = refl
effect_as targets machine image state word Svc = refl
effect_as targets machine image state word MovPcLr = refl

-- the row that an instruction was read by
record Row (word : ℕ) (insn : Insn) : Type 0 where
  kind : Kind
  kind_is : kind_of word ≡ Some kind
  insn_is : insn ≡ insn_by word kind

row_in : (word : ℕ) (insn : Insn) (k : Option Kind) → kind_of word ≡ k → option_map (insn_by word) k ≡ Some insn → Row word insn
row_in word insn None e d = absurd (cc)
row_in word insn (Some kind) e d = record { kind = kind; kind_is = e; insn_is = cc }

row_of : (word : ℕ) (insn : Insn) → decoded word ≡ Some insn → Row word insn
unfolding decoded
row_of word insn d = row_in word insn (kind_of word) refl d

fits_by : (word : ℕ) (kind : Kind) → OpFits (op_by word kind)
fits_by word AluImmediate = (omega arith, omega arith)
fits_by word AluShift = (omega arith, tt)
fits_by word AluByRegister = (omega arith, tt)
fits_by word Mul = omega arith
fits_by word MulLong = (omega arith, omega arith)
fits_by word SingleImmediate = (omega arith, omega arith)
fits_by word SingleRegister = (omega arith, omega arith)
fits_by word HalfImmediate = (omega arith, omega arith)
fits_by word HalfRegister = (omega arith, omega arith)
fits_by word Block = omega arith
fits_by word Branch = tt
fits_by word Exchange = tt
fits_by word Svc = tt
fits_by word MovPcLr = tt

pub fits : (word : ℕ) (insn : Insn) → decoded word ≡ Some insn → OpFits insn.op
fits word insn d = let r = row_of word insn d in subst (λ (i : Insn). OpFits i.op) (sym r.insn_is) (fits_by word r.kind)

pub stops_fetch : (machine : Machine) (image : Image) (state : State) → is_code_word image (state.registers pc) ≡ false → Stopped Fetch ≡ step machine image state
unfolding step
stops_fetch machine image state e = sym (cond-false _ (executed machine image state (current_word state) (kind_of (current_word state))) (Stopped Fetch) e)

looks : (machine : Machine) (image : Image) (state : State) (word : ℕ) → is_code_word image (state.registers pc) ≡ true → word ≡ current_word state → step machine image state ≡ executed machine image state word (kind_of word)
unfolding step
looks machine image state word e w =
    cond-true _ (executed machine image state (current_word state) (kind_of (current_word state))) (Stopped Fetch) e
    ∙ sym (ap (λ x. executed machine image state x (kind_of x)) w)

none_in : (word : ℕ) (k : Option Kind) → kind_of word ≡ k → option_map (insn_by word) k ≡ None → kind_of word ≡ None
none_in word None e d = e
none_in word (Some kind) e d = absurd (cc)

no_row : (word : ℕ) → decoded word ≡ None → kind_of word ≡ None
unfolding decoded
no_row word d = none_in word (kind_of word) refl d

pub stops_word : (machine : Machine) (image : Image) (state : State) (word : ℕ) → is_code_word image (state.registers pc) ≡ true → word ≡ current_word state → decoded word ≡ None → Stopped Word ≡ step machine image state
stops_word machine image state word e w d = sym (looks machine image state word e w ∙ ap (executed machine image state word) (no_row word d))

pub passes_by : (machine : Machine) (image : Image) (state : State) (word : ℕ) (insn : Insn) → is_code_word image (state.registers pc) ≡ true → word ≡ current_word state → decoded word ≡ Some insn
    → passes insn.cond state.flags ≡ false → goes_on state state.registers state.flags false ≡ step machine image state
passes_by machine image state word insn e w d p =
    let r = row_of word insn d in
    sym (looks machine image state word e w ∙ ap (executed machine image state word) r.kind_is
    ∙ cond-false _ (effect machine image state word r.kind) (goes_on state state.registers state.flags false) (sym (ap (λ (i : Insn). passes i.cond state.flags) r.insn_is) ∙ p))

pub executes : Targets → (machine : Machine) (image : Image) (state : State) (word : ℕ) (insn : Insn) → is_code_word image (state.registers pc) ≡ true → word ≡ current_word state → decoded word ≡ Some insn
    → passes insn.cond state.flags ≡ true → op_effect machine image state insn.op ≡ step machine image state
executes targets machine image state word insn e w d p =
    let r = row_of word insn d in
    ap (λ (i : Insn). op_effect machine image state i.op) r.insn_is ∙ effect_as targets machine image state word r.kind
    ∙ sym (looks machine image state word e w ∙ ap (executed machine image state word) r.kind_is
    ∙ cond-true _ (effect machine image state word r.kind) (goes_on state state.registers state.flags false) (sym (ap (λ (i : Insn). passes i.cond state.flags) r.insn_is) ∙ p))
