-- Where instructions may go on, said of their fields. ARM Architecture Reference Manual.
use Rattle.std.specs.Prelude.{ℕ, ℤ, ◌+◌, ◌*◌, ◌%◌, ◌^◌, Bool, true, false}
use Rattle.std.specs.Int.{cast_unsigned, w32}
use Rattle.wx_base.specs.declared.flow.FlowKind.{FlowKind}
use Rattle.wx_base.specs.Flow.{may_pass, no_flow, goes_on, branch_flow, jump_flow, exchange_flow, block_flow, load_flow, pops}
use Rattle.arm_code.specs.declared.insn.Op.{Op}
use Rattle.arm_code.specs.declared.insn.Op.TheVariants as op
use Rattle.arm_code.specs.declared.insn.Offset.{Offset}
use Rattle.arm_code.specs.declared.insn.Offset.TheVariants as offset_of
use Rattle.arm_code.specs.declared.insn.Index.{Index}
use Rattle.arm_code.specs.declared.insn.Index.TheVariants.{Plain, Pre, Post}

-- the target of a branch at an address by so many words
abbrev pub offset_target : ℕ → ℤ → ℕ
offset_target address words = (address + 8 + 4 * cast_unsigned w32 words) % 2 ^ 32

-- whether the offset is added before the transfer
abbrev pub adds_before : Index → Bool
adds_before Plain = true
adds_before Pre = true
adds_before Post = false

-- whether a transfer takes one word from the stack
abbrev pub takes_word : ℕ → Index → Bool → Offset → Bool
takes_word base index up (offset_of.Imm value) = pops base (adds_before index) up value
takes_word base index up (offset_of.Reg register kind amount) = false

-- what an operation under a condition is to the flow at an address
abbrev pub op_flow : ℕ → ℕ → Op → FlowKind
op_flow cond address (op.Alu code s first to second) = goes_on
op_flow cond address (op.Mul accumulate s result added a b) = goes_on
op_flow cond address (op.MulLong signed accumulate s hi lo a b) = goes_on
op_flow cond address (op.Single load byte to base index up by) = load_flow cond load to (takes_word base index up by)
op_flow cond address (op.Half kind to base index up by) = goes_on
op_flow cond address (op.Block load before up wback base list) = block_flow cond load base list
op_flow cond address (op.Branch link by) = branch_flow cond link (offset_target address by)
op_flow cond address (op.Exchange link register) = exchange_flow cond link register
op_flow cond address (op.Svc number) = record no_flow { next = may_pass cond; stop = true }
op_flow cond address op.MovPcLr = jump_flow cond true
