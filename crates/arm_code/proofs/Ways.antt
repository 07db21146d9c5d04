-- What an instruction is to the flow is what its word is.
use Rattle.std.proofs.Common.{◌≡◌, ℕ, ◌+◌, ◌-◌, ◌*◌, ◌%◌, ◌<◌, ◌^◌, Bool, true, false, cond, ltb, Option, refl, sym, ap, ◌∙◌, arith}
use Rattle.std.proofs.lemmas.Bool.{ltb-false}
use Rattle.std.proofs.lemmas.Int.{ints}
use Rattle.std.specs.Int.{cast_unsigned, w32}
use Rattle.std.specs.Prelude.{pos, ◌-ℤ◌}
use Rattle.std.specs.Option.{option_map_or}
use Rattle.wx_base.specs.Instruction.{Kind, AluImmediate, AluShift, AluByRegister, Mul, MulLong, SingleImmediate, SingleRegister, HalfImmediate, HalfRegister, Block, Branch, Exchange, Svc, MovPcLr, condition, is_load, is_up, is_before, writes_back, rn, rd, offset, links, branch_offset}
use Rattle.wx_base.specs.Flow.{flow_by, flow_of, no_flow, branch_target, branch_flow, load_flow, pops}
use Rattle.arm_code.specs.declared.insn.Insn.{Insn}
use Rattle.arm_code.specs.Encoding.{op_by, index_by, signed_offset, word_of, IsValid}
use Rattle.arm_code.specs.Flows.{op_flow, adds_before, offset_target}
use Rattle.arm_code.proofs.Timing.{row_of_valid}

before_is : (before back : Bool) → adds_before (index_by before back) ≡ before
before_is true true = refl
before_is true false = refl
before_is false true = refl
before_is false false = refl

target_by : (address words : ℕ) (b : Bool) → ltb words (2 ^ 23) ≡ b → words < 2 ^ 24 → (address + 8 + 4 * cast_unsigned w32 (cond b (pos words) (pos words -ℤ pos (2 ^ 24)))) % 2 ^ 32 ≡ (address + 8 + 4 * words + cond b 0 (2 ^ 32 - 2 ^ 26)) % 2 ^ 32
target_by address words true e small = omega arith
target_by address words false e small = let h = ltb-false words (2 ^ 23) e in omega (arith, ints)

pub target_is : (address words : ℕ) → words < 2 ^ 24 → offset_target address (signed_offset words) ≡ branch_target address words
target_is address words small = target_by address words (ltb words (2 ^ 23)) refl small

flow_as : (word address : ℕ) (kind : Kind) → op_flow (condition word) address (op_by word kind) ≡ flow_by word address kind
flow_as word address AluImmediate = refl
flow_as word address AluShift = refl
flow_as word address AluByRegister = refl
flow_as word address Mul = refl
flow_as word address MulLong = refl
flow_as word address SingleImmediate =
    ap (λ (b : Bool). load_flow (condition word) (is_load word) (rd word) (pops (rn word) b (is_up word) (offset word)))
    (before_is (is_before word) (writes_back word))
flow_as word address SingleRegister = refl
flow_as word address HalfImmediate = refl
flow_as word address HalfRegister = refl
flow_as word address Block = refl
flow_as word address Branch =
    ap (branch_flow (condition word) (links word)) (target_is address (branch_offset word) (omega arith))
flow_as word address Exchange = refl
flow_as word address Svc = refl
flow_as word address MovPcLr = refl

pub flow_is : (insn : Insn) (address : ℕ) → IsValid insn → op_flow insn.cond address insn.op ≡ flow_of (word_of insn) address
unfolding flow_of
flow_is insn address v =
    let r = row_of_valid insn v in
    let word = word_of insn in
    ap (λ (i : Insn). op_flow i.cond address i.op) (sym r.insn_is)
    ∙ flow_as word address r.kind
    ∙ sym (ap (λ (k : Option Kind). option_map_or (flow_by word address) k no_flow) r.kind_is)
