-- What a number stands for as an instruction lies in its lowest 32 bits, so an instruction that is read of any number is valid.
use Rattle.std.proofs.Common.{◌≡◌, ℕ, ◌%◌, ◌^◌, Bool, List, [], ◌∷◌, Option, None, Some, All, length, map, ap, ◌∙◌, arith}
use Rattle.std.proofs.Math.Path.{fun_ext}
use Rattle.std.proofs.lemmas.Option.{none-some}
use Rattle.std.proofs.lemmas.List.Elements.{All-nil, All-cons}
use Rattle.std.specs.Option.{option_map, option_and_then}
use Rattle.std.specs.List.{find}
use Rattle.wx_base.specs.Bits.{bits}
use Rattle.wx_base.specs.Instruction.{Kind, AluImmediate, AluShift, AluByRegister, Mul, MulLong, SingleImmediate, SingleRegister, HalfImmediate, HalfRegister, Block, Branch, Exchange, Svc, MovPcLr, kinds, matches, kind_of}
use Rattle.wx_base.specs.declared.image.Image.{Image}
use Rattle.wx_base.specs.Functions.{code_at}
use Rattle.arm_code.specs.declared.insn.Insn.{Insn}
use Rattle.arm_code.specs.Encoding.{IsValid, insn_by, decoded}
use Rattle.flow_block.specs.Sites.{insn_at}

-- the lowest 32 bits
abbrev low : ℕ → ℕ
low word = word % 2 ^ 32

bits_31_28 : (w : ℕ) → bits 31 28 (low w) ≡ bits 31 28 w
bits_31_28 w = omega arith

bits_24_21 : (w : ℕ) → bits 24 21 (low w) ≡ bits 24 21 w
bits_24_21 w = omega arith

bits_19_16 : (w : ℕ) → bits 19 16 (low w) ≡ bits 19 16 w
bits_19_16 w = omega arith

bits_15_12 : (w : ℕ) → bits 15 12 (low w) ≡ bits 15 12 w
bits_15_12 w = omega arith

bits_11_8 : (w : ℕ) → bits 11 8 (low w) ≡ bits 11 8 w
bits_11_8 w = omega arith

bits_3_0 : (w : ℕ) → bits 3 0 (low w) ≡ bits 3 0 w
bits_3_0 w = omega arith

bits_7_0 : (w : ℕ) → bits 7 0 (low w) ≡ bits 7 0 w
bits_7_0 w = omega arith

bits_11_7 : (w : ℕ) → bits 11 7 (low w) ≡ bits 11 7 w
bits_11_7 w = omega arith

bits_6_5 : (w : ℕ) → bits 6 5 (low w) ≡ bits 6 5 w
bits_6_5 w = omega arith

bits_24_24 : (w : ℕ) → bits 24 24 (low w) ≡ bits 24 24 w
bits_24_24 w = omega arith

bits_23_23 : (w : ℕ) → bits 23 23 (low w) ≡ bits 23 23 w
bits_23_23 w = omega arith

bits_22_22 : (w : ℕ) → bits 22 22 (low w) ≡ bits 22 22 w
bits_22_22 w = omega arith

bits_21_21 : (w : ℕ) → bits 21 21 (low w) ≡ bits 21 21 w
bits_21_21 w = omega arith

bits_20_20 : (w : ℕ) → bits 20 20 (low w) ≡ bits 20 20 w
bits_20_20 w = omega arith

bits_11_0 : (w : ℕ) → bits 11 0 (low w) ≡ bits 11 0 w
bits_11_0 w = omega arith

bits_15_0 : (w : ℕ) → bits 15 0 (low w) ≡ bits 15 0 w
bits_15_0 w = omega arith

bits_23_0 : (w : ℕ) → bits 23 0 (low w) ≡ bits 23 0 w
bits_23_0 w = omega arith

bits_5_5 : (w : ℕ) → bits 5 5 (low w) ≡ bits 5 5 w
bits_5_5 w = omega arith

bits_27_25 : (w : ℕ) → bits 27 25 (low w) ≡ bits 27 25 w
bits_27_25 w = omega arith

bits_4_4 : (w : ℕ) → bits 4 4 (low w) ≡ bits 4 4 w
bits_4_4 w = omega arith

bits_7_7 : (w : ℕ) → bits 7 7 (low w) ≡ bits 7 7 w
bits_7_7 w = omega arith

bits_24_23 : (w : ℕ) → bits 24 23 (low w) ≡ bits 24 23 w
bits_24_23 w = omega arith

bits_24_16 : (w : ℕ) → bits 24 16 (low w) ≡ bits 24 16 w
bits_24_16 w = omega arith

bits_19_8 : (w : ℕ) → bits 19 8 (low w) ≡ bits 19 8 w
bits_19_8 w = omega arith

bits_6_6 : (w : ℕ) → bits 6 6 (low w) ≡ bits 6 6 w
bits_6_6 w = omega arith

ruleset fields = (bits_31_28, bits_24_21, bits_19_16, bits_15_12, bits_11_8, bits_3_0, bits_7_0, bits_11_7, bits_6_5, bits_24_24, bits_23_23, bits_22_22, bits_21_21, bits_20_20, bits_11_0, bits_15_0, bits_23_0, bits_5_5, bits_27_25, bits_4_4, bits_7_7, bits_24_23, bits_24_16, bits_19_8, bits_6_6)

same_match : (w : ℕ) (kind : Kind) → matches kind (low w) ≡ matches kind w
same_match w AluImmediate = simp fields
same_match w AluShift = simp fields
same_match w AluByRegister = simp fields
same_match w Mul = simp fields
same_match w MulLong = simp fields
same_match w SingleImmediate = simp fields
same_match w SingleRegister = simp fields
same_match w HalfImmediate = simp fields
same_match w HalfRegister = simp fields
same_match w Block = simp fields
same_match w Branch = simp fields
same_match w Exchange = simp fields
same_match w Svc = simp fields
same_match w MovPcLr = simp fields

same_insn : (w : ℕ) (kind : Kind) → insn_by (low w) kind ≡ insn_by w kind
same_insn w AluImmediate = simp fields
same_insn w AluShift = simp fields
same_insn w AluByRegister = simp fields
same_insn w Mul = simp fields
same_insn w MulLong = simp fields
same_insn w SingleImmediate = simp fields
same_insn w SingleRegister = simp fields
same_insn w HalfImmediate = simp fields
same_insn w HalfRegister = simp fields
same_insn w Block = simp fields
same_insn w Branch = simp fields
same_insn w Exchange = simp fields
same_insn w Svc = simp fields
same_insn w MovPcLr = simp fields

same_decoded : (w : ℕ) → decoded (low w) ≡ decoded w
unfolding decoded kind_of
same_decoded w =
    ap (λ (test : Kind → Bool). option_map (insn_by (low w)) (find test kinds)) (fun_ext λ kind. same_match w kind)
    ∙ ap (λ (read : Kind → Insn). option_map read (find (λ kind. matches kind w) kinds)) (fun_ext λ kind. same_insn w kind)

valid : (word : ℕ) (insn : Insn) → decoded word ≡ Some insn → IsValid insn
valid word insn d = record { word = low word; fits = omega arith; means = same_decoded word ∙ d }

valid_of : (word : Option ℕ) (insn : Insn) → option_and_then decoded word ≡ Some insn → IsValid insn
valid_of None insn e = absurd (none-some insn e)
valid_of (Some word) insn e = valid word insn e

-- the first of some answers, and those behind it
abbrev first_of : List (Option Insn) → Option Insn
first_of [] = None
first_of (x ∷ xs) = x

abbrev rest_of : List (Option Insn) → List (Option Insn)
rest_of [] = []
rest_of (x ∷ xs) = xs

-- instructions that stand at addresses of an image are valid
pub all_valid : (image : Image) (addresses : List ℕ) (insns : List Insn) → map (λ a. insn_at image a) addresses ≡ map (λ i. Some i) insns → All IsValid insns
all_valid image addresses [] e = All-nil IsValid
all_valid image [] (insn ∷ insns) e = absurd (no_more e)
  where
    no_more : [] ≡ map (λ i. Some i) (insn ∷ insns) → ⊥
    no_more e = omega (arith, ap length e)
all_valid image (a ∷ addresses) (insn ∷ insns) e =
    All-cons IsValid insn insns (valid_of (code_at image a) insn (ap first_of e)) (all_valid image addresses insns (ap rest_of e))
