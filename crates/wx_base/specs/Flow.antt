-- Where an instruction may go on: the next address, a direct jump or call, a call by register, a return, an indirect
-- jump, or the end of the run. ARM Architecture Reference Manual; which forms are returns is this project's own.
use Rattle.std.specs.Prelude.{ℕ, ◌+◌, ◌-◌, ◌*◌, ◌%◌, ◌^◌, Bool, true, false, ◌==◌, nat_lt, ◌&&◌, not, if◌then◌else◌, Some, None}
use Rattle.std.specs.Option.{option_map_or}
use Rattle.wx_base.specs.declared.flow.FlowKind.{FlowKind}
use Rattle.wx_base.specs.Bits.{is_in}
use Rattle.wx_base.specs.Instruction.{Kind, AluImmediate, AluShift, AluByRegister, Mul, MulLong, SingleImmediate, SingleRegister, HalfImmediate, HalfRegister, Block, Branch, Exchange, Svc, MovPcLr, kind_of, condition, always, rn, rd, rm, is_before, is_up, is_load, offset, block_list, links, branch_offset, exchange_links}

-- whether an instruction of this condition may not be executed, and go on
abbrev pub may_pass : ℕ → Bool
may_pass cond = not (cond == always)

-- nothing goes on
abbrev pub no_flow : FlowKind
no_flow =
    record { next = false; jump = None; call = None; call_any = false; ret = false; indirect = false; stop = false }

-- it goes on at the next address
abbrev pub goes_on : FlowKind
goes_on = record no_flow { next = true }

-- The target of a branch: the address of the instruction after the next, and as many words as the offset says, which
-- counts from 2^23 on as less by 2^24. Modulo 2^32.
abbrev pub branch_target : ℕ → ℕ → ℕ
branch_target address words =
    (address + 8 + 4 * words + (if nat_lt words (2 ^ 23) then 0 else 2 ^ 32 - 2 ^ 26)) % 2 ^ 32

-- a branch jumps, or calls if it links; behind a call it goes on
abbrev pub branch_flow : ℕ → Bool → ℕ → FlowKind
branch_flow cond linked target =
    if linked then record goes_on { call = Some target } else record no_flow { next = may_pass cond; jump = Some target }

-- a jump to an address that is read is a return or an indirect jump
abbrev pub jump_flow : ℕ → Bool → FlowKind
jump_flow cond returns = record no_flow { next = may_pass cond; ret = returns; indirect = not returns }

-- an exchange that links is a call by register; to the link register it returns
abbrev pub exchange_flow : ℕ → Bool → ℕ → FlowKind
exchange_flow cond linked register =
    if linked then record goes_on { call_any = true } else jump_flow cond (register == 14)

-- a block transfer that loads pc jumps: from the stack it returns
abbrev pub block_flow : ℕ → Bool → ℕ → ℕ → FlowKind
block_flow cond load base list = if load && is_in list 15 then jump_flow cond (base == 13) else goes_on

-- a load of pc jumps
abbrev pub load_flow : ℕ → Bool → ℕ → Bool → FlowKind
load_flow cond load to returns = if load && (to == 15) then jump_flow cond returns else goes_on

-- whether a load takes one word from the stack, with its base, whether the offset is added before, whether it is added
-- and not subtracted, and the offset
abbrev pub pops : ℕ → Bool → Bool → ℕ → Bool
pops base before up by = (base == 13) && not before && up && (by == 4)

-- what an instruction at an address is to the flow, by its row
abbrev pub flow_by : ℕ → ℕ → Kind → FlowKind
flow_by word address AluImmediate = goes_on
flow_by word address AluShift = goes_on
flow_by word address AluByRegister = goes_on
flow_by word address Mul = goes_on
flow_by word address MulLong = goes_on
flow_by word address SingleImmediate =
    load_flow (condition word) (is_load word) (rd word) (pops (rn word) (is_before word) (is_up word) (offset word))
flow_by word address SingleRegister = load_flow (condition word) (is_load word) (rd word) false
flow_by word address HalfImmediate = goes_on
flow_by word address HalfRegister = goes_on
flow_by word address Block = block_flow (condition word) (is_load word) (rn word) (block_list word)
flow_by word address Branch = branch_flow (condition word) (links word) (branch_target address (branch_offset word))
flow_by word address Exchange = exchange_flow (condition word) (exchange_links word) (rm word)
flow_by word address Svc = record no_flow { next = may_pass (condition word); stop = true }
flow_by word address MovPcLr = jump_flow (condition word) true

-- the same for a word; from a word that is no instruction nothing goes on
unfoldable pub flow_of : ℕ → ℕ → FlowKind
flow_of word address = option_map_or (flow_by word address) (kind_of word) no_flow
