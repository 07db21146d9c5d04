-- An instruction that may not jump, call, return or end the run goes on at the next address.
use Rattle.std.proofs.Common.{◌≡◌, ℕ, Bool, true, false, Option, Some, None, refl, sym, ap, cond, ◌&&◌, ◌==◌}
use Rattle.std.specs.Option.{option_map_or, option_map}
use Rattle.std.proofs.lemmas.Bool.{true≢false, both_ways}
use Rattle.wx_base.specs.declared.flow.FlowKind.{FlowKind}
use Rattle.wx_base.specs.Flow.{flow_of, flow_by, no_flow, goes_on, branch_flow, branch_target, jump_flow, exchange_flow, pops}
use Rattle.wx_base.specs.Instruction.{Kind, AluImmediate, AluShift, AluByRegister, Mul, MulLong, SingleImmediate, SingleRegister, HalfImmediate, HalfRegister, Block, Branch, Exchange, Svc, MovPcLr, kind_of, condition, rn, rd, rm, is_before, is_up, is_load, offset, block_list, links, branch_offset, exchange_links}
use Rattle.wx_base.specs.Bits.{is_in}
use Rattle.arm_code.specs.declared.insn.Insn.{Insn}
use Rattle.arm_code.specs.Encoding.{decoded, insn_by}
use Rattle.flow_block.specs.Sites.{is_end}

GoesOn : FlowKind → Type 0
GoesOn flow = is_end flow ≡ false → flow.next ≡ true

jump_ends : (cond : ℕ) (returns : Bool) → is_end (jump_flow cond returns) ≡ true
jump_ends c true = refl
jump_ends c false = refl

either : (b : Bool) (c : ℕ) (returns : Bool) → GoesOn (cond b (jump_flow c returns) goes_on)
unfolding GoesOn
either true c returns h = absurd (both_ways _ h (jump_ends c returns))
either false c returns h = refl

branches : (linked : Bool) (c to : ℕ) → GoesOn (branch_flow c linked to)
unfolding GoesOn
branches true c to h = absurd (true≢false h)
branches false c to h = absurd (true≢false h)

exchanges : (linked : Bool) (c register : ℕ) → GoesOn (exchange_flow c linked register)
unfolding GoesOn
exchanges true c register h = absurd (true≢false h)
exchanges false c register h = absurd (both_ways _ h (jump_ends c (register == 14)))

goes_by : (word a : ℕ) (kind : Kind) → GoesOn (flow_by word a kind)
unfolding GoesOn
goes_by word a AluImmediate h = refl
goes_by word a AluShift h = refl
goes_by word a AluByRegister h = refl
goes_by word a Mul h = refl
goes_by word a MulLong h = refl
goes_by word a SingleImmediate h = either (is_load word && (rd word == 15)) (condition word) (pops (rn word) (is_before word) (is_up word) (offset word)) h
goes_by word a SingleRegister h = either (is_load word && (rd word == 15)) (condition word) false h
goes_by word a HalfImmediate h = refl
goes_by word a HalfRegister h = refl
goes_by word a Block h = either (is_load word && is_in (block_list word) 15) (condition word) (rn word == 13) h
goes_by word a Branch h = branches (links word) (condition word) (branch_target a (branch_offset word)) h
goes_by word a Exchange h = exchanges (exchange_links word) (condition word) (rm word) h
goes_by word a Svc h = absurd (true≢false h)
goes_by word a MovPcLr h = absurd (both_ways _ h (jump_ends (condition word) true))

goes_from : (word a : ℕ) (insn : Insn) (o : Option Kind) → option_map (insn_by word) o ≡ Some insn → GoesOn (option_map_or (flow_by word a) o no_flow)
goes_from word a insn None e = absurd (cc)
goes_from word a insn (Some kind) e = goes_by word a kind

-- it goes on
pub goes_unended : (word a : ℕ) (insn : Insn) → decoded word ≡ Some insn → is_end (flow_of word a) ≡ false → (flow_of word a).next ≡ true
unfolding decoded flow_of GoesOn
goes_unended word a insn e h = goes_from word a insn (kind_of word) e h

condition_from : (word : ℕ) (insn : Insn) (o : Option Kind) → option_map (insn_by word) o ≡ Some insn → insn.cond ≡ condition word
condition_from word insn None e = absurd (cc)
condition_from word insn (Some kind) e = let same : insn_by word kind ≡ insn = cc in ap (λ i. i.cond) (sym same)

-- the condition is that of the word
pub condition_is : (word : ℕ) (insn : Insn) → decoded word ≡ Some insn → insn.cond ≡ condition word
unfolding decoded
condition_is word insn e = condition_from word insn (kind_of word) e
