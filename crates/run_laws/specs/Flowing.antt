-- Where a step leads, by what its instruction is to the flow. This project's own.
use Rattle.std.specs.Prelude.{◌≡◌, ℕ, true, false, Some}
use Rattle.wx_base.specs.declared.flow.FlowKind.{FlowKind}
use Rattle.wx_base.specs.declared.image.Image.{Image}
use Rattle.wx_base.specs.declared.machine.Machine.{Machine}
use Rattle.wx_base.specs.Bits.{add_words}
use Rattle.wx_base.specs.Flow.{flow_of, may_pass}
use Rattle.wx_base.specs.Instruction.{condition}
use Rattle.wx_base.specs.Monitor.{is_call}
use Rattle.wx_base.specs.State.{State, Went, Next, pc}
use Rattle.wx_base.specs.Step.{current_word, step}

-- where an instruction that is taken leads: to the target of a direct jump or of a direct call, and anywhere if it calls by
-- register, returns or jumps indirectly
pub data IsTakenTo (flow : FlowKind) (to : ℕ) : Type 0 where
  jump : flow.jump ≡ Some to → IsTakenTo flow to
  call : flow.call ≡ Some to → IsTakenTo flow to
  call_any : flow.call_any ≡ true → IsTakenTo flow to
  ret : flow.ret ≡ true → IsTakenTo flow to
  indirect : flow.indirect ≡ true → IsTakenTo flow to

-- One that is not taken may go on, and leads to the address behind it. Behind a call a function always goes on, once the
-- callee has returned; so of a call that is not taken more is said: its condition may fail.
pub record GoesBehind (flow : FlowKind) (word address to : ℕ) : Type 0 where
  pub may : flow.next ≡ true
  pub call : is_call flow ≡ true → may_pass (condition word) ≡ true
  pub behind : to ≡ add_words address 4

-- a step goes the way of its instruction
pub record FollowsFlow (flow : FlowKind) (word address : ℕ) (went : Went) : Type 0 where
  pub on : went.taken ≡ false → GoesBehind flow word address (went.state.registers pc)
  pub taken : went.taken ≡ true → IsTakenTo flow (went.state.registers pc)

abbrev pub StepsFollowFlow : Type 0
StepsFollowFlow = (machine : Machine) (image : Image) (state : State) (went : Went) → step machine image state ≡ Next went
    → FollowsFlow (flow_of (current_word state) (state.registers pc)) (current_word state) (state.registers pc) went
