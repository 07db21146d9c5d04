-- Which rows are left once some bits are known, and what a word decodes to.
use Rattle.std.proofs.Common.{◌≡◌, ℕ, Bool, true, false, ◌&&◌, eqb, [], ◌∷◌, Option, Some, None, refl, ap, sym, ◌∙◌}
use Rattle.std.specs.Option.{option_map}
use Rattle.std.specs.List.{find}
use Rattle.wx_base.specs.Bits.{bits}
use Rattle.wx_base.specs.Instruction.{Kind, AluShift, AluByRegister, Mul, MulLong, HalfImmediate, HalfRegister, Exchange, Svc, MovPcLr, kinds, row_of, meets, matches, kind_of, condition}
use Rattle.arm_code.specs.declared.insn.Insn.{Insn}
use Rattle.arm_code.specs.declared.insn.Op.{Op}
use Rattle.arm_code.specs.Encoding.{insn_by, op_by, read_among, decoded}

and_false : (x : Bool) → (x && false) ≡ false
and_false true = refl
and_false false = refl

pub shift_or_return : (word : ℕ) → bits 27 25 word ≡ 0 → bits 4 4 word ≡ 0 → read_among word (AluShift ∷ MovPcLr ∷ []) ≡ read_among word kinds
shift_or_return word row four = rw (row, four) refl

pub by_register_or_exchange : (word : ℕ) → bits 27 25 word ≡ 0 → bits 4 4 word ≡ 1 → bits 7 7 word ≡ 0 → read_among word (AluByRegister ∷ Exchange ∷ []) ≡ read_among word kinds
by_register_or_exchange word row four seven = rw (row, four, seven) refl

pub multiplication : (word : ℕ) → bits 27 25 word ≡ 0 → bits 4 4 word ≡ 1 → bits 7 7 word ≡ 1 → bits 6 5 word ≡ 0 → read_among word (Mul ∷ MulLong ∷ []) ≡ read_among word kinds
multiplication word row four seven sort = rw (row, four, seven, sort) (simp and_false)

pub half : (word : ℕ) → bits 27 25 word ≡ 0 → bits 4 4 word ≡ 1 → bits 7 7 word ≡ 1 → eqb (bits 6 5 word) 0 ≡ false → read_among word (HalfImmediate ∷ HalfRegister ∷ []) ≡ read_among word kinds
half word row four seven sort = rw (row, four, seven, sort) refl

pub supervisor : (word : ℕ) → bits 27 25 word ≡ 7 → read_among word (Svc ∷ []) ≡ read_among word kinds
supervisor word row = rw row refl

-- an operation under a condition
abbrev pub under : ℕ → Op → Insn
under cond op = record { cond = cond; op = op }

-- no word of condition 15 is an instruction
pub no_instruction : (word : ℕ) → condition word ≡ 15 → decoded word ≡ None
unfolding decoded kind_of
no_instruction word e = rw e refl

of_kind : (word : ℕ) (found : Option Kind) → option_map (insn_by word) found ≡ option_map (under (condition word)) (option_map (op_by word) found)
of_kind word None = refl
of_kind word (Some kind) = refl

-- any other word is what its rows read in it
pub decoded_by_rows : (word : ℕ) → eqb (condition word) 15 ≡ false → decoded word ≡ option_map (under (condition word)) (read_among word kinds)
unfolding decoded kind_of
decoded_by_rows word e =
    let same : find (λ kind. matches kind word) kinds ≡ find (λ kind. meets word (row_of kind)) kinds = rw e refl in
    ap (option_map (insn_by word)) same ∙ of_kind word (find (λ kind. meets word (row_of kind)) kinds)

pub decodes_to : (word cond : ℕ) (op : Op) → cond ≡ condition word → eqb (condition word) 15 ≡ false → read_among word kinds ≡ Some op → decoded word ≡ Some (under cond op)
decodes_to word cond op c e r =
    decoded_by_rows word e ∙ ap (option_map (under (condition word))) r ∙ ap (λ (n : ℕ). Some (under n op)) (sym c)

pub decodes_to_none : (word : ℕ) → eqb (condition word) 15 ≡ false → read_among word kinds ≡ None → decoded word ≡ None
decodes_to_none word e r = decoded_by_rows word e ∙ ap (option_map (under (condition word))) r
