-- Operands by their parts: the first ones, and what stands behind them.
use Rattle.std.proofs.Common.{◌≡◌, ℕ, ◌<◌, Bool, true, false, cond, List, [], ◌∷◌, ◌++◌, codes, refl, sym, ◌∙◌, ap, subst, arith}
use Rattle.std.proofs.lemmas.List.{append-nil, append_assoc, append_cancel_right}
use Rattle.std.specs.Option.{option_map}
use Rattle.std.proofs.Common.{Option, Some, drop}
use Rattle.arm_code.specs.declared.insn.Op.{Op}
use Rattle.arm_code.specs.declared.insn.Op.TheVariants as op
use Rattle.arm_code.specs.declared.insn.Operand.{Operand}
use Rattle.arm_code.specs.declared.insn.Offset.{Offset}
use Rattle.arm_code.specs.declared.insn.HalfOffset.{HalfOffset}
use Rattle.arm_code.specs.declared.insn.HalfKind.{HalfKind}
use Rattle.arm_code.specs.declared.insn.Index.{Index}
use Rattle.wx_base.specs.Instruction.{is_compare, is_move}
use Rattle.arm_text.specs.Names.{register_name, where_set}
use Rattle.arm_text.specs.Text.{further, alu_registers, list_text}
use Rattle.arm_text.specs.Operands.{mul_operands, mul_long_operands, marked_base}
use Rattle.arm_text.specs.Mnemonics.{is_without}
use Rattle.arm_text.proofs.Distinct.{register_without, register_no_mark, marked_without, one_register_of}
use Rattle.arm_text.proofs.Shapes.{parted, one_tail}

pub pair_is : (first second : ℕ) (tail text : List ℕ) → text ≡ register_name first ++ further (register_name second) ++ further tail → text ≡ register_name first ++ further (register_name second ++ further tail)
pair_is first second tail text same = same ∙ append_assoc (register_name first) (further (register_name second)) (further tail)

-- what stands behind the first factor of a product
abbrev pub mul_rest : Bool → ℕ → ℕ → List ℕ
mul_rest accumulate added second = register_name second ++ where_set accumulate (further (register_name added))

pub mul_is : (accumulate : Bool) (to added second first : ℕ) (text : List ℕ) → text ≡ mul_operands accumulate to added second first → text ≡ register_name to ++ further (register_name first) ++ further (mul_rest accumulate added second)
mul_is accumulate to added second first text same =
    same ∙ append_assoc (register_name to ++ further (register_name first)) (further (register_name second)) (where_set accumulate (further (register_name added)))

pub mul_added : (accumulate : Bool) (added second : ℕ) (rest : List ℕ) → accumulate ≡ true → rest ≡ mul_rest accumulate added second → rest ≡ register_name second ++ further (register_name added)
mul_added accumulate added second rest is same = same ∙ ap (λ b. mul_rest b added second) is

pub mul_alone : (accumulate : Bool) (added second : ℕ) (rest : List ℕ) → accumulate ≡ false → rest ≡ mul_rest accumulate added second → rest ≡ register_name second
mul_alone accumulate added second rest is same = same ∙ ap (λ b. mul_rest b added second) is ∙ append-nil (register_name second)

pub mul_long_is : (high low second first : ℕ) (text : List ℕ) → text ≡ mul_long_operands high low second first → text ≡ register_name low ++ further (register_name high) ++ further (register_name first ++ further (register_name second))
mul_long_is high low second first text same =
    same ∙ append_assoc (register_name low ++ further (register_name high)) (further (register_name first)) (further (register_name second))

-- the registers of data processing by its opcode
abbrev pub registers_by : Bool → Bool → ℕ → ℕ → List ℕ
registers_by compare move first to =
    cond compare (register_name first) (cond move (register_name to) (register_name to ++ further (register_name first)))

pub alu_by : (compare move : Bool) (code first to : ℕ) (tail text : List ℕ) → is_compare code ≡ compare → is_move code ≡ move → text ≡ alu_registers code first to ++ further tail → text ≡ registers_by compare move first to ++ further tail
alu_by compare move code first to tail text compares moves same =
    same ∙ ap (λ b. registers_by b (is_move code) first to ++ further tail) compares
    ∙ ap (λ b. registers_by compare b first to ++ further tail) moves

pub alu_compare : (code first to : ℕ) (tail text : List ℕ) → is_compare code ≡ true → text ≡ alu_registers code first to ++ further tail → text ≡ register_name first ++ further tail
alu_compare code first to tail text compares same = same ∙ ap (λ b. registers_by b (is_move code) first to ++ further tail) compares

-- a base with its mark
pub base_without : (wback : Bool) (base : ℕ) → base < 16 → is_without 44 (marked_base wback base) ≡ true
base_without true base below = marked_without base below
base_without false base below = subst (λ t. is_without 44 t ≡ true) (sym (append-nil (register_name base))) (register_without base below)

pub block_is : (wback : Bool) (base list : ℕ) (text : List ℕ) → text ≡ marked_base wback base ++ codes ", {" ++ list_text list ++ codes "}" → text ≡ marked_base wback base ++ further (123 ∷ (list_text list ++ codes "}"))
block_is wback base list text same =
    same ∙ append_assoc (marked_base wback base ++ codes ", {") (list_text list) (codes "}")
    ∙ append_assoc (marked_base wback base) (codes ", {") (list_text list ++ codes "}")

pub unmarked_base : (base : ℕ) (text other mark : List ℕ) → base < 16 → text ≡ marked_base false base → mark ≡ codes "!" → text ≡ other ++ mark → ⊥
unmarked_base base text other mark below same is found =
    parted 33 (register_name base) other [] (register_no_mark base below)
    (sym (append-nil (register_name base)) ∙ sym same ∙ found ∙ ap (λ m. other ++ m) is)

-- what stands before the first separator is one text
one_head : (a b s t : List ℕ) → is_without 44 a ≡ true → is_without 44 b ≡ true → a ++ 44 ∷ s ≡ b ++ 44 ∷ t → a ≡ b
one_head a b s t none other same =
    let tails : s ≡ t = one_tail 44 a b s t none other same in
    append_cancel_right a b (44 ∷ t) (ap (λ x. a ++ 44 ∷ x) (sym tails) ∙ same)

pub not_a_return : (first to : ℕ) (tail text : List ℕ) → to < 16 → text ≡ alu_registers 13 first to ++ further tail → text ≡ codes "pc, lr" → to ≡ 15
not_a_return first to tail text below same is =
    let name : register_name to ≡ register_name 15 =
    one_head (register_name to) (register_name 15) (32 ∷ tail) (32 ∷ register_name 14) (register_without to below) refl (sym same ∙ is) in
    one_register_of to 15 below (omega arith) name

-- answers by their parts
pub alu_answer : (code : ℕ) (flags : Bool) (rn first rd to : ℕ) (read second : Operand) → rn ≡ first → rd ≡ to → Some read ≡ Some second → ◌≡◌ {A = Option Op} (Some (op.Alu code flags rn rd read)) (Some (op.Alu code flags first to second))
alu_answer code flags rn first rd to read second first_is to_is second_is =
    let by_first : ℕ → Option Op = λ k. Some (op.Alu code flags k rd read) in
    let by_to : ℕ → Option Op = λ k. Some (op.Alu code flags first k read) in
    let by_second : Operand → Op = λ o. op.Alu code flags first to o in
    ap by_first first_is ∙ ap by_to to_is ∙ ap (option_map by_second) second_is

pub mul_answer : (accumulate flags : Bool) (rd to rn added rs second rm first : ℕ) → rd ≡ to → rn ≡ added → rs ≡ second → rm ≡ first → ◌≡◌ {A = Option Op} (Some (op.Mul accumulate flags rd rn rs rm)) (Some (op.Mul accumulate flags to added second first))
mul_answer accumulate flags rd to rn added rs second rm first to_is added_is second_is first_is =
    let by_to : ℕ → Option Op = λ k. Some (op.Mul accumulate flags k rn rs rm) in
    let by_added : ℕ → Option Op = λ k. Some (op.Mul accumulate flags to k rs rm) in
    let by_second : ℕ → Option Op = λ k. Some (op.Mul accumulate flags to added k rm) in
    let by_first : ℕ → Option Op = λ k. Some (op.Mul accumulate flags to added second k) in
    ap by_to to_is ∙ ap by_added added_is ∙ ap by_second second_is ∙ ap by_first first_is

pub mul_long_answer : (signed accumulate flags : Bool) (hi high lo low rs second rm first : ℕ) → hi ≡ high → lo ≡ low → rs ≡ second → rm ≡ first → ◌≡◌ {A = Option Op} (Some (op.MulLong signed accumulate flags hi lo rs rm)) (Some (op.MulLong signed accumulate flags high low second first))
mul_long_answer signed accumulate flags hi high lo low rs second rm first high_is low_is second_is first_is =
    let by_high : ℕ → Option Op = λ k. Some (op.MulLong signed accumulate flags k lo rs rm) in
    let by_low : ℕ → Option Op = λ k. Some (op.MulLong signed accumulate flags high k rs rm) in
    let by_second : ℕ → Option Op = λ k. Some (op.MulLong signed accumulate flags high low k rm) in
    let by_first : ℕ → Option Op = λ k. Some (op.MulLong signed accumulate flags high low second k) in
    ap by_high high_is ∙ ap by_low low_is ∙ ap by_second second_is ∙ ap by_first first_is

pub single_answer : (load byte : Bool) (rd to rn base : ℕ) (i index : Index) (p : Bool × Offset) (up : Bool) (by : Offset) → rd ≡ to → rn ≡ base → i ≡ index → ◌≡◌ {A = Option (Bool × Offset)} (Some (p.0, p.1)) (Some (up, by)) → ◌≡◌ {A = Option Op} (Some (op.Single load byte rd rn i p.0 p.1)) (Some (op.Single load byte to base index up by))
single_answer load byte rd to rn base i index p up by to_is base_is index_is by_is =
    let by_to : ℕ → Option Op = λ k. Some (op.Single load byte k rn i p.0 p.1) in
    let by_base : ℕ → Option Op = λ k. Some (op.Single load byte to k i p.0 p.1) in
    let by_index : Index → Option Op = λ k. Some (op.Single load byte to base k p.0 p.1) in
    let by_offset : Bool × Offset → Op = λ q. op.Single load byte to base index q.0 q.1 in
    ap by_to to_is ∙ ap by_base base_is ∙ ap by_index index_is ∙ ap (option_map by_offset) by_is

pub half_answer : (kind : HalfKind) (rd to rn base : ℕ) (i index : Index) (p : Bool × HalfOffset) (up : Bool) (by : HalfOffset) → rd ≡ to → rn ≡ base → i ≡ index → ◌≡◌ {A = Option (Bool × HalfOffset)} (Some (p.0, p.1)) (Some (up, by)) → ◌≡◌ {A = Option Op} (Some (op.Half kind rd rn i p.0 p.1)) (Some (op.Half kind to base index up by))
half_answer kind rd to rn base i index p up by to_is base_is index_is by_is =
    let by_to : ℕ → Option Op = λ k. Some (op.Half kind k rn i p.0 p.1) in
    let by_base : ℕ → Option Op = λ k. Some (op.Half kind to k i p.0 p.1) in
    let by_index : Index → Option Op = λ k. Some (op.Half kind to base k p.0 p.1) in
    let by_offset : Bool × HalfOffset → Op = λ q. op.Half kind to base index q.0 q.1 in
    ap by_to to_is ∙ ap by_base base_is ∙ ap by_index index_is ∙ ap (option_map by_offset) by_is

pub block_answer : (load before up : Bool) (p : Bool × ℕ) (wback : Bool) (base l list : ℕ) → ◌≡◌ {A = Option (Bool × ℕ)} (Some (p.0, p.1)) (Some (wback, base)) → Some l ≡ Some list → ◌≡◌ {A = Option Op} (Some (op.Block load before up p.0 p.1 l)) (Some (op.Block load before up wback base list))
block_answer load before up p wback base l list base_is list_is =
    let by_base : Bool × ℕ → Op = λ q. op.Block load before up q.0 q.1 l in
    let by_list : ℕ → Op = λ k. op.Block load before up wback base k in
    ap (option_map by_base) base_is ∙ ap (option_map by_list) list_is

pub behind_brace : (rest brace inner tail : List ℕ) → brace ≡ codes "{" → rest ≡ brace ++ inner → rest ≡ 123 ∷ tail → inner ≡ tail
behind_brace rest brace inner tail is found same = ap (drop 1) (sym (found ∙ ap (λ b. b ++ inner) is) ∙ same)
