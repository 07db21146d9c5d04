-- Where a step leads.
use Rattle.std.proofs.Common.{◌≡◌, ℕ, ◌*◌, length, Bool, true, false, cond, not, ◌&&◌, ◌||◌, ◌==◌, eqb, refl, sym, ap, subst, ◌∙◌, inl, inr}
use Rattle.std.specs.Prelude.{Some}
use Rattle.std.specs.List.{list_all, list_any}
use Rattle.std.specs.Option.{option_map_or}
use Rattle.std.proofs.lemmas.Bool.{cases_eq, ne_eqb, eq-eqb, false≢true, and_parts}
use Rattle.wx_base.specs.declared.flow.FlowKind.{FlowKind}
use Rattle.wx_base.specs.declared.machine.Machine.{Machine}
use Rattle.wx_base.specs.declared.image.Image.{Image}
use Rattle.wx_base.specs.declared.step.Flags.{Flags}
use Rattle.wx_base.specs.declared.step.Transfer.{Transfer}
use Rattle.wx_base.specs.declared.step.BlockTransfer.{BlockTransfer}
use Rattle.wx_base.specs.Bits.{add_words, is_in}
use Rattle.wx_base.specs.Flow.{goes_on as goes_behind}
use Rattle.wx_base.specs.Flow.{flow_of, flow_by, may_pass, no_flow, jump_flow, branch_flow, exchange_flow, branch_target}
use Rattle.wx_base.specs.Instruction.{Kind, AluImmediate, AluShift, AluByRegister, Mul, MulLong, SingleImmediate, SingleRegister, HalfImmediate, HalfRegister, Block, Branch, Exchange, Svc, MovPcLr, kind_of, condition, rd, rm, rn, links, branch_offset, exchange_links, is_load, block_list, half_also, half_sort, is_base_setting, is_index_setting, is_before, writes_back, row_of, has, no_condition}
use Rattle.wx_base.specs.Arithmetic.{passes}
use Rattle.wx_base.specs.Monitor.{is_call}
use Rattle.wx_base.specs.State.{State, Went, Next, pc, word_in}
use Rattle.wx_base.specs.Step.{alu_effect, mul_effect, mul_long_effect, current_word, effect, single_by, half_by, block_by}
use Rattle.wx_base.specs.Transfer.{transfer_effect, block_effect, registers_behind_block, block_loaded, block_first, address_of, listed_below, loaded}
use Rattle.run_laws.specs.Flowing.{IsTakenTo, FollowsFlow, StepsFollowFlow}
use Rattle.run_laws.specs.Flowing.IsTakenTo.{jump, call, call_any, ret, indirect}
use Rattle.run_laws.proofs.StepLemmas.{of_next, goes, GoesBy, row_matches, transfers, Transfers, moves, Moves}
use Rattle.run_laws.proofs.StepLemmas.GoesBy.{passed_over, done}
use Rattle.run_laws.proofs.StepLemmas.Transfers.{loads, stores}
use Rattle.run_laws.proofs.StepLemmas.Moves.{block_loads, block_stores}

-- ---- the outcome of an instruction, as the flow sees it

-- it is not taken
pub on_behind : (flow : FlowKind) (word address : ℕ) (a b : Went) → Next a ≡ Next b → a.taken ≡ false → a.state.registers pc ≡ add_words address 4 → flow.next ≡ true
    → (is_call flow ≡ true → may_pass (condition word) ≡ true) → FollowsFlow flow word address b
on_behind flow word address a b e untaken behind may call_may =
    subst (λ (w : Went). FollowsFlow flow word address w) (of_next a b e) (record {
      on = λ u. record { may = may; call = call_may; behind = behind };
      taken = λ t. absurd (false≢true (sym untaken ∙ t));
    })

-- it is taken
pub on_away : (flow : FlowKind) (word address : ℕ) (a b : Went) → Next a ≡ Next b → a.taken ≡ true → IsTakenTo flow (a.state.registers pc) → FollowsFlow flow word address b
on_away flow word address a b e taken to =
    subst (λ (w : Went). FollowsFlow flow word address w) (of_next a b e) (record { on = λ u. absurd (false≢true (sym u ∙ taken)); taken = λ t. to })

-- what is no call owes nothing of calls
none_called : (flow : FlowKind) (word : ℕ) → is_call flow ≡ false → is_call flow ≡ true → may_pass (condition word) ≡ true
none_called flow word no_call calls = absurd (false≢true (sym no_call ∙ calls))

-- a jump through a register or a load returns or is indirect
any_jump : (cond : ℕ) (returns : Bool) (to : ℕ) → IsTakenTo (jump_flow cond returns) to
any_jump cond true to = ret refl
any_jump cond false to = indirect refl

-- ---- an instruction that is passed over

always_passes : (flags : Flags) → passes 14 flags ≡ true
unfolding passes
always_passes flags = refl

fails_may : (code : ℕ) (flags : Flags) → passes code flags ≡ false → may_pass code ≡ true
fails_may code flags e = elim (cases_eq code 14) [
  | inl is ↦ absurd (false≢true (sym e ∙ ap (λ k. passes k flags) is ∙ always_passes flags))
  | inr apart ↦ ap not (ne_eqb code 14 apart)
]

load_next : (b returns : Bool) (code : ℕ) → may_pass code ≡ true → (cond b (jump_flow code returns) goes_behind).next ≡ true
load_next true returns code may = may
load_next false returns code may = refl

branch_next : (linked : Bool) (code target : ℕ) → may_pass code ≡ true → (branch_flow code linked target).next ≡ true
branch_next true code target may = refl
branch_next false code target may = may

exchange_next : (linked : Bool) (code register : ℕ) → may_pass code ≡ true → (exchange_flow code linked register).next ≡ true
exchange_next true code register may = refl
exchange_next false code register may = may

passed_next : (word address : ℕ) (kind : Kind) → may_pass (condition word) ≡ true → (flow_by word address kind).next ≡ true
passed_next word address AluImmediate may = refl
passed_next word address AluShift may = refl
passed_next word address AluByRegister may = refl
passed_next word address Mul may = refl
passed_next word address MulLong may = refl
passed_next word address SingleImmediate may = load_next _ _ (condition word) may
passed_next word address SingleRegister may = load_next _ _ (condition word) may
passed_next word address HalfImmediate may = refl
passed_next word address HalfRegister may = refl
passed_next word address Block may = load_next _ _ (condition word) may
passed_next word address Branch may = branch_next (links word) (condition word) _ may
passed_next word address Exchange may = exchange_next (exchange_links word) (condition word) (rm word) may
passed_next word address Svc may = may
passed_next word address MovPcLr may = may

-- ---- the effects

-- what loads pc is a return or indirect; what does not goes on; neither is a call
record TakesPc (flow : FlowKind) (takes : Bool) : Type 0 where
  away : takes ≡ true → (to : ℕ) → IsTakenTo flow to
  on : takes ≡ false → flow.next ≡ true
  no_call : is_call flow ≡ false

load_takes : (takes returns : Bool) (code : ℕ) → TakesPc (cond takes (jump_flow code returns) goes_behind) takes
load_takes true returns code = record { away = λ t to. any_jump code returns to; on = λ u. absurd (false≢true (sym u)); no_call = refl }
load_takes false returns code = record { away = λ t to. absurd (false≢true t); on = λ u. refl; no_call = refl }

-- nothing takes pc where the instruction goes on
never_takes : (takes : Bool) → takes ≡ false → TakesPc goes_behind takes
never_takes takes none = record { away = λ t to. absurd (false≢true (sym none ∙ t)); on = λ u. refl; no_call = refl }

eqb_turned : (a b : ℕ) (v : Bool) → eqb a b ≡ v → eqb b a ≡ v
eqb_turned a b true e = elim (cases_eq b a) [ inl f ↦ eq-eqb b a f | inr n ↦ absurd (false≢true (sym (ne_eqb a b (λ f. n (sym f))) ∙ e)) ]
eqb_turned a b false e = elim (cases_eq b a) [ inl f ↦ absurd (false≢true (sym e ∙ eq-eqb a b (sym f))) | inr n ↦ ne_eqb b a n ]

both : (b c : Bool) → b ≡ true → (b && c) ≡ c
both b c e = ap (λ x. x && c) e

neither : (b c : Bool) → b ≡ false → (b && c) ≡ false
neither b c e = ap (λ x. x && c) e

module _ (machine : Machine) (image : Image) (state : State) (went : Went) where
  abbrev at : ℕ
  at = state.registers pc

  transfer_follows : (flow : FlowKind) (word : ℕ) (t : Transfer) → TakesPc flow (t.load && (t.register == pc)) → transfer_effect machine image state t ≡ Next went → FollowsFlow flow word at went
  transfer_follows flow word t takes e = cases (transfers machine image state t went e)
    where
      loaded_pc : (b : Bool) → (t.register == pc) ≡ b → t.load ≡ true → Transfers machine image state t went → FollowsFlow flow word at went
      loaded_pc b is load (stores keeps apart f) = absurd (false≢true (sym keeps ∙ load))
      loaded_pc true is load (loads l f) =
          on_away flow word at _ went f is (takes.away (both t.load (t.register == pc) load ∙ is) _)
      loaded_pc false is load (loads l f) =
          on_behind flow word at _ went f is (ap (λ b. cond b (loaded t.datum state.memory (address_of state.registers t)) (add_words at 4)) (eqb_turned t.register pc false is)) (takes.on (both t.load (t.register == pc) load ∙ is)) (none_called flow word takes.no_call)

      cases : Transfers machine image state t went → FollowsFlow flow word at went
      cases (loads load f) = loaded_pc (t.register == pc) refl load (loads load f)
      cases (stores keeps apart f) = on_behind flow word at _ went f refl refl (takes.on (neither t.load (t.register == pc) keeps)) (none_called flow word takes.no_call)

  behind_block : (t : BlockTransfer) → registers_behind_block state.registers t pc ≡ add_words at 4
  unfolding registers_behind_block
  behind_block t = refl

  unloaded : (registers memory : ℕ → ℕ) (list first : ℕ) → is_in list pc ≡ false → block_loaded registers memory list first pc ≡ registers pc
  unfolding block_loaded
  unloaded registers memory list first e = ap (λ b. cond b (word_in memory (add_words first (4 * length (listed_below pc list)))) (registers pc)) e

  block_follows : (flow : FlowKind) (word : ℕ) (t : BlockTransfer) → TakesPc flow (t.load && is_in t.list pc) → block_effect machine image state t ≡ Next went → FollowsFlow flow word at went
  block_follows flow word t takes e = cases (moves machine image state t went e)
    where
      loaded_pc : (b : Bool) → is_in t.list pc ≡ b → t.load ≡ true → Moves machine image state t went → FollowsFlow flow word at went
      loaded_pc b is load (block_stores keeps apart f) = absurd (false≢true (sym keeps ∙ load))
      loaded_pc true is load (block_loads l f) = on_away flow word at _ went f is (takes.away (both t.load (is_in t.list pc) load ∙ is) _)
      loaded_pc false is load (block_loads l f) =
          on_behind flow word at _ went f is (unloaded (registers_behind_block state.registers t) state.memory t.list (block_first state.registers t) is ∙ behind_block t) (takes.on (both t.load (is_in t.list pc) load ∙ is)) (none_called flow word takes.no_call)

      cases : Moves machine image state t went → FollowsFlow flow word at went
      cases (block_loads load f) = loaded_pc (is_in t.list pc) refl load (block_loads load f)
      cases (block_stores keeps apart f) = on_behind flow word at _ went f refl (behind_block t) (takes.on (neither t.load (is_in t.list pc) keeps)) (none_called flow word takes.no_call)

  -- ---- by the rows

  branch_taken : (linked : Bool) (code target : ℕ) → IsTakenTo (branch_flow code linked target) target
  branch_taken true code target = call refl
  branch_taken false code target = jump refl

  exchange_taken : (linked : Bool) (code register to : ℕ) → IsTakenTo (exchange_flow code linked register) to
  exchange_taken true code register to = call_any refl
  exchange_taken false code register to = any_jump code (register == 14) to

  -- no half word is loaded into pc
  not_pc : (word : ℕ) → not (rd word == 15) ≡ true → (rd word == pc) ≡ false
  not_pc word e = turn (rd word == 15) e
    where
      turn : (b : Bool) → not b ≡ true → b ≡ false
      turn true f = absurd (false≢true f)
      turn false f = refl

  half_rest : (word : ℕ) → half_also word ≡ true → (rd word == pc) ≡ false
  half_rest word e =
      let base = (is_load word || (half_sort word == 1)) && is_base_setting (is_before word) (writes_back word) (rn word) (rd word) in
      not_pc word (and_parts base (not (rd word == 15)) e).1

  -- what a row asks besides its fixed settings stands behind all else that a match asks
  also_holds : (word : ℕ) (kind : Kind) → kind_of word ≡ Some kind → (row_of kind).also word ≡ true
  also_holds word kind is =
      let row = row_of kind in
      let free = not (list_any (λ settings. list_all (has word) settings) row.barred) in
      let rest = free && row.also word in
      let fixed = list_all (has word) row.fixed in
      let m = and_parts (not (condition word == no_condition)) (fixed && rest) (row_matches word kind is) in
      (and_parts free (row.also word) (and_parts fixed rest m.1).1).1

  half_immediate : (word : ℕ) → kind_of word ≡ Some HalfImmediate → (rd word == pc) ≡ false
  half_immediate word is = half_rest word (also_holds word HalfImmediate is)

  half_register : (word : ℕ) → kind_of word ≡ Some HalfRegister → (rd word == pc) ≡ false
  half_register word is =
      half_rest word (and_parts (half_also word) (is_index_setting (is_before word) (writes_back word) (rn word) (rm word)) (also_holds word HalfRegister is)).0

  half_takes : (load pc_loaded : Bool) → pc_loaded ≡ false → TakesPc goes_behind (load && pc_loaded)
  half_takes load taken e = never_takes (load && taken) (none load)
    where
      none : (l : Bool) → (l && taken) ≡ false
      none true = e
      none false = refl

  effect_follows : (word : ℕ) (kind : Kind) → kind_of word ≡ Some kind → effect machine image state word kind ≡ Next went → FollowsFlow (flow_by word at kind) word at went
  unfolding alu_effect mul_effect mul_long_effect
  effect_follows word AluImmediate is e = on_behind _ word at _ went e refl refl refl (none_called goes_behind word refl)
  effect_follows word AluShift is e = on_behind _ word at _ went e refl refl refl (none_called goes_behind word refl)
  effect_follows word AluByRegister is e = on_behind _ word at _ went e refl refl refl (none_called goes_behind word refl)
  effect_follows word Mul is e = on_behind _ word at _ went e refl refl refl (none_called goes_behind word refl)
  effect_follows word MulLong is e = on_behind _ word at _ went e refl refl refl (none_called goes_behind word refl)
  effect_follows word SingleImmediate is e = transfer_follows _ word (single_by word _) (load_takes (is_load word && (rd word == pc)) _ (condition word)) e
  effect_follows word SingleRegister is e = transfer_follows _ word (single_by word _) (load_takes (is_load word && (rd word == pc)) false (condition word)) e
  effect_follows word HalfImmediate is e = transfer_follows _ word (half_by word _) (half_takes _ _ (half_immediate word is)) e
  effect_follows word HalfRegister is e = transfer_follows _ word (half_by word _) (half_takes _ _ (half_register word is)) e
  effect_follows word Block is e = block_follows _ word (block_by word) (load_takes (is_load word && is_in (block_list word) pc) _ (condition word)) e
  effect_follows word Branch is e = on_away _ word at _ went e refl (branch_taken (links word) (condition word) (branch_target at (branch_offset word)))
  effect_follows word Exchange is e = on_away _ word at _ went e refl (exchange_taken (exchange_links word) (condition word) (rm word) _)
  effect_follows word Svc is e = cc
  effect_follows word MovPcLr is e = on_away _ word at _ went e refl (ret refl)

  flow_is : (word : ℕ) (kind : Kind) → kind_of word ≡ Some kind → flow_of word at ≡ flow_by word at kind
  unfolding flow_of
  flow_is word kind is = ap (λ k. option_map_or (flow_by word at) k no_flow) is

  follows : (word : ℕ) → GoesBy machine image state word went → FollowsFlow (flow_of word at) word at went
  follows word (passed_over kind is fails e) =
      subst (λ (f : FlowKind). FollowsFlow f word at went) (sym (flow_is word kind is))
      (let may = fails_may (condition word) state.flags fails in
      on_behind (flow_by word at kind) word at _ went e refl refl (passed_next word at kind may) (λ calls. may))
  follows word (done kind is e) = subst (λ (f : FlowKind). FollowsFlow f word at went) (sym (flow_is word kind is)) (effect_follows word kind is e)

pub steps_follow_flow : StepsFollowFlow
steps_follow_flow machine image state went e = follows machine image state went (current_word state) (goes machine image state went e).by
