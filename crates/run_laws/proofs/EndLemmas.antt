-- Which steps end a run.
use Rattle.std.proofs.Common.{◌≡◌, ℕ, ◌%◌, Bool, true, false, cond, not, ◌==◌, refl, sym, ap, ◌∙◌}
use Rattle.std.specs.Prelude.{Option, Some, None}
use Rattle.std.specs.Option.{option_map_or}
use Rattle.std.proofs.lemmas.Bool.{false≢true}
use Rattle.wx_base.specs.declared.flow.FlowKind.{FlowKind}
use Rattle.wx_base.specs.declared.image.Image.{Image}
use Rattle.wx_base.specs.declared.machine.Machine.{Machine}
use Rattle.wx_base.specs.declared.step.Transfer.{Transfer}
use Rattle.wx_base.specs.declared.step.BlockTransfer.{BlockTransfer}
use Rattle.wx_base.specs.declared.step.Why.TheVariants.{Fetch, Align, Store}
use Rattle.wx_base.specs.Arithmetic.{passes}
use Rattle.wx_base.specs.Flow.{flow_of, flow_by, no_flow, jump_flow, branch_flow, exchange_flow}
use Rattle.wx_base.specs.Flow.{goes_on as goes_behind}
use Rattle.wx_base.specs.Image.{is_code_word}
use Rattle.wx_base.specs.Instruction.{Kind, AluImmediate, AluShift, AluByRegister, Mul, MulLong, SingleImmediate, SingleRegister, HalfImmediate, HalfRegister, Block, Branch, Exchange, Svc, MovPcLr, kind_of, condition, exchange_links, links, rm}
use Rattle.wx_base.specs.State.{State, Went, Next, Ended, Stopped, goes_on, pc}
use Rattle.wx_base.specs.Step.{alu_effect, mul_effect, mul_long_effect, current_word, effect, executed, single_by, half_by, block_by, step}
use Rattle.wx_base.specs.Transfer.{address_of, size_of, meets_code, load_effect, store_effect, transfer_effect, block_first, block_size, block_load_effect, block_store_effect, block_effect}
use Rattle.run_laws.specs.Stepping.{EndsAreStops, IsPassedOver, StopsGoOnPassedOver}
use Rattle.run_laws.proofs.StepLemmas.{of_next, goes, GoesBy}
use Rattle.run_laws.proofs.StepLemmas.GoesBy.{passed_over, done}

flow_is : (word address : ℕ) (kind : Kind) → kind_of word ≡ Some kind → flow_of word address ≡ flow_by word address kind
unfolding flow_of
flow_is word address kind is = ap (λ k. option_map_or (flow_by word address) k no_flow) is

-- ---- what ends a run stops it

module _ (machine : Machine) (image : Image) (state : State) where
  transfer_ends : (t : Transfer) → transfer_effect machine image state t ≡ Ended → ⊥
  unfolding transfer_effect
  transfer_ends t e = aligned (not (address_of state.registers t % size_of t.datum == 0)) t.load (meets_code image (address_of state.registers t) (size_of t.datum)) e
    where
      aligned : (off load meets : Bool)
          → cond off (Stopped Align) (cond load (load_effect machine state t (address_of state.registers t)) (cond meets (Stopped Store) (store_effect machine state t (address_of state.registers t)))) ≡ Ended
          → ⊥
      aligned true load meets f = cc
      aligned false true meets f = cc
      aligned false false true f = cc
      aligned false false false f = cc

  block_ends : (t : BlockTransfer) → block_effect machine image state t ≡ Ended → ⊥
  unfolding block_effect
  block_ends t e = aligned (not (state.registers t.base % 4 == 0)) t.load (meets_code image (block_first state.registers t) (block_size t)) e
    where
      aligned : (off load meets : Bool)
          → cond off (Stopped Align) (cond load (block_load_effect machine state t (block_first state.registers t)) (cond meets (Stopped Store) (block_store_effect machine state t (block_first state.registers t)))) ≡ Ended
          → ⊥
      aligned true load meets f = cc
      aligned false true meets f = cc
      aligned false false true f = cc
      aligned false false false f = cc

  row_ends : (word address : ℕ) (kind : Kind) → effect machine image state word kind ≡ Ended → (flow_by word address kind).stop ≡ true
  unfolding alu_effect mul_effect mul_long_effect
  row_ends word address AluImmediate e = absurd (cc)
  row_ends word address AluShift e = absurd (cc)
  row_ends word address AluByRegister e = absurd (cc)
  row_ends word address Mul e = absurd (cc)
  row_ends word address MulLong e = absurd (cc)
  row_ends word address SingleImmediate e = absurd (transfer_ends (single_by word _) e)
  row_ends word address SingleRegister e = absurd (transfer_ends (single_by word _) e)
  row_ends word address HalfImmediate e = absurd (transfer_ends (half_by word _) e)
  row_ends word address HalfRegister e = absurd (transfer_ends (half_by word _) e)
  row_ends word address Block e = absurd (block_ends (block_by word) e)
  row_ends word address Branch e = absurd (cc)
  row_ends word address Exchange e = absurd (cc)
  row_ends word address Svc e = refl
  row_ends word address MovPcLr e = absurd (cc)

  by_test : (word address : ℕ) (kind : Kind) (b : Bool) → cond b (effect machine image state word kind) (goes_on state state.registers state.flags false) ≡ Ended
      → (flow_by word address kind).stop ≡ true
  by_test word address kind true e = row_ends word address kind e
  by_test word address kind false e = absurd (cc)

  by_row : (word address : ℕ) (kind : Option Kind) → kind_of word ≡ kind → executed machine image state word kind ≡ Ended → (flow_of word address).stop ≡ true
  by_row word address None is e = absurd (cc)
  by_row word address (Some kind) is e = ap (λ (f : FlowKind). f.stop) (flow_is word address kind is) ∙ by_test word address kind (passes (condition word) state.flags) e

  by_code : (address : ℕ) (b : Bool) → cond b (executed machine image state (current_word state) (kind_of (current_word state))) (Stopped Fetch) ≡ Ended
      → (flow_of (current_word state) address).stop ≡ true
  by_code address true e = by_row (current_word state) address (kind_of (current_word state)) refl e
  by_code address false e = absurd (cc)

pub ends_are_stops : EndsAreStops
unfolding step
ends_are_stops machine image state e = by_code machine image state (state.registers pc) (is_code_word image (state.registers pc)) e

-- ---- what stops a run goes on only if it is passed over

load_stops : (takes returns : Bool) (code : ℕ) → (cond takes (jump_flow code returns) goes_behind).stop ≡ false
load_stops true returns code = refl
load_stops false returns code = refl

branch_stops : (linked : Bool) (code target : ℕ) → (branch_flow code linked target).stop ≡ false
branch_stops true code target = refl
branch_stops false code target = refl

exchange_stops : (linked : Bool) (code register : ℕ) → (exchange_flow code linked register).stop ≡ false
exchange_stops true code register = refl
exchange_stops false code register = refl

module _ (machine : Machine) (image : Image) (state : State) (went : Went) where
  -- no row that goes on by its effect stops the run
  done_goes : (word address : ℕ) (kind : Kind) → effect machine image state word kind ≡ Next went → (flow_by word address kind).stop ≡ false
  done_goes word address AluImmediate e = refl
  done_goes word address AluShift e = refl
  done_goes word address AluByRegister e = refl
  done_goes word address Mul e = refl
  done_goes word address MulLong e = refl
  done_goes word address SingleImmediate e = load_stops _ _ (condition word)
  done_goes word address SingleRegister e = load_stops _ _ (condition word)
  done_goes word address HalfImmediate e = refl
  done_goes word address HalfRegister e = refl
  done_goes word address Block e = load_stops _ _ (condition word)
  done_goes word address Branch e = branch_stops (links word) (condition word) _
  done_goes word address Exchange e = exchange_stops (exchange_links word) (condition word) (rm word)
  done_goes word address Svc e = absurd (cc)
  done_goes word address MovPcLr e = refl

  passed : GoesBy machine image state (current_word state) went → (flow_of (current_word state) (state.registers pc)).stop ≡ true → IsPassedOver state went
  passed (passed_over kind is fails e) stops = record { fails = fails; untaken = sym (ap (λ (w : Went). w.taken) (of_next _ went e)) }
  passed (done kind is e) stops =
      let word = current_word state in
      let address = state.registers pc in
      absurd (false≢true (sym (done_goes word address kind e) ∙ sym (ap (λ (f : FlowKind). f.stop) (flow_is word address kind is)) ∙ stops))

pub stops_go_on_passed_over : StopsGoOnPassedOver
stops_go_on_passed_over machine image state went e stops = passed machine image state went (goes machine image state went e).by stops
