-- What stands at an address of an image, to the flow of a function. This project's own.
use Rattle.std.specs.Prelude.{ℕ, ◌+◌, ◌*◌, ◌%◌, ◌^◌, ◌++◌, Bool, false, not, ◌==◌, ◌&&◌, ◌||◌, List, [], if◌then◌else◌, Option, option_to_list, is_some}
use Rattle.std.specs.Option.{option_map_or, option_and_then}
use Rattle.wx_base.specs.declared.facts.Facts.{Facts}
use Rattle.wx_base.specs.declared.flow.FlowKind.{FlowKind}
use Rattle.wx_base.specs.declared.image.Image.{Image}
use Rattle.wx_base.specs.Facts.{targets_of}
use Rattle.wx_base.specs.Flow.{flow_of, no_flow}
use Rattle.wx_base.specs.Functions.{code_at}
use Rattle.wx_base.specs.Instruction.{condition, always}
use Rattle.wx_base.specs.Monitor.{is_call}
use Rattle.arm_code.specs.declared.insn.Insn.{Insn}
use Rattle.arm_code.specs.Encoding.{decoded}

-- the address of the instruction so many places behind the one at an address, modulo 2^32
abbrev pub behind : ℕ → ℕ → ℕ
behind address count = (address + 4 * count) % 2 ^ 32

-- the instruction at an address; none where no word of code stands or the word is none
abbrev pub insn_at : Image → ℕ → Option Insn
insn_at image address = option_and_then decoded (code_at image address)

-- what the instruction at an address is to the flow
abbrev pub flow_at : Image → ℕ → FlowKind
flow_at image address = option_map_or (λ word. flow_of word address) (code_at image address) no_flow

-- where an instruction may jump to: the target of a direct jump, and those that the facts list for an indirect one
abbrev pub jumps_by : Facts → ℕ → FlowKind → List ℕ
jumps_by facts address flow =
    option_to_list flow.jump ++ (if flow.indirect then targets_of facts.branches address else [])

-- where the instruction at an address may jump to
abbrev pub jumps_at : Image → Facts → ℕ → List ℕ
jumps_at image facts address = jumps_by facts address (flow_at image address)

-- whether an instruction may jump, call, return or end the run
abbrev pub is_end : FlowKind → Bool
is_end flow = is_some flow.jump || is_call flow || flow.ret || flow.indirect || flow.stop

-- Whether the run may go on at the next address without a call between: the instruction does not surely jump, call, return or
-- end the run.
abbrev pub goes_past : ℕ → ℕ → Bool
goes_past word address = (flow_of word address).next && not (is_call (flow_of word address) && (condition word == always))

-- the same for the instruction at an address
abbrev pub goes_past_at : Image → ℕ → Bool
goes_past_at image address = option_map_or (λ word. goes_past word address) (code_at image address) false
