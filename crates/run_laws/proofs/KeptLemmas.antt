-- Steps keep words, bytes and code.
use Rattle.std.proofs.Common.{◌≡◌, ℕ, ◌*◌, ◌/◌, ◌%◌, ◌^◌, ◌<◌, Bool, false, cond, take, length, subst, arith}
use Rattle.wx_base.specs.declared.machine.Machine.{Machine}
use Rattle.wx_base.specs.declared.image.Image.{Image}
use Rattle.wx_base.specs.declared.step.Shifted.{Shifted}
use Rattle.wx_base.specs.declared.step.Flags.{Flags}
use Rattle.wx_base.specs.declared.step.Transfer.{Transfer}
use Rattle.wx_base.specs.declared.step.BlockTransfer.{BlockTransfer}
use Rattle.wx_base.specs.Arithmetic.{computed}
use Rattle.wx_base.specs.Bits.{add_words, sub_words, is_in, bytes_of_word}
use Rattle.wx_base.specs.Flow.{branch_target}
use Rattle.wx_base.specs.Instruction.{Kind, AluImmediate, AluShift, AluByRegister, Mul, MulLong, SingleImmediate, SingleRegister, HalfImmediate, HalfRegister, Block, Branch, Exchange, Svc, MovPcLr, is_compare, opcode, sets_flags, rd, rn, rs, rm, immediate, shift_kind, shift_amount, accumulates, product, addend, is_signed, links, branch_offset, exchange_links}
use Rattle.wx_base.specs.State.{State, Went, Next, pc, lr, replaced, next_address, value_of, goes_on, jumps}
use Rattle.wx_base.specs.Step.{alu_effect, alu_registers, mul_effect, mul_long_effect, long_registers, long_product_in, product_in, effect, single_by, half_by, block_by, current_word}
use Rattle.wx_base.specs.Transfer.{address_of, moved, moved_base, registers_behind, size_of, block_bytes, block_first, block_loaded, block_size, listed_below, moved_block_base, registers_behind_block, transfer_effect, block_effect}
use Rattle.run_laws.specs.Ranges.{IsInRange, StepsStayInRange}
use Rattle.run_laws.proofs.RangeLemmas.{HoldWords, HoldBytes, either, replaced_words, sum_is_word, difference_is_word, value_is_word, shifted_is_word, shifted_number_is_word, computed_is_word, low_is_word, high_is_word, long_is_small, loaded_is_word, word_in_is_word, word_has_bytes, bytes_taken, block_has_bytes, overwritten_bytes}
use Rattle.run_laws.proofs.StepLemmas.{of_next, goes, GoesBy, transfers, Transfers, moves, Moves}
use Rattle.run_laws.proofs.StepLemmas.GoesBy.{passed_over, done}
use Rattle.run_laws.proofs.StepLemmas.Transfers.{loads, stores}
use Rattle.run_laws.proofs.StepLemmas.Moves.{block_loads, block_stores}

-- a state that an outcome has
in_range : (a b : Went) → Next a ≡ Next b → HoldWords a.state.registers → HoldBytes a.state.memory → IsInRange b.state
in_range a b e w m = subst (λ (x : Went). IsInRange x.state) (of_next a b e) (record { words = w.each; bytes = m.each })

branch_is_word : (address words : ℕ) → branch_target address words < 2 ^ 32
branch_is_word address words = low_is_word _

small_immediate : (word : ℕ) → immediate word < 2 ^ 32
small_immediate word = small (word / 2 ^ 0)
  where
    small : (n : ℕ) → n % 2 ^ 8 < 2 ^ 32
    small n = omega arith

module _ (machine : Machine) (image : Image) (state : State) (went : Went) (words : HoldWords state.registers) (bytes : HoldBytes state.memory) where
  on_in_range : (registers : ℕ → ℕ) (flags : Flags) (slow : Bool) → HoldWords registers → goes_on state registers flags slow ≡ Next went → IsInRange went.state
  on_in_range registers flags slow w e = in_range _ went e (replaced_words registers pc (next_address state.registers) w (sum_is_word (state.registers pc) 4)) bytes

  jump_in_range : (linked : Bool) (target : ℕ) → target < 2 ^ 32 → jumps state linked target ≡ Next went → IsInRange went.state
  jump_in_range linked target small e =
      let behind = cond linked (replaced state.registers lr (next_address state.registers)) state.registers in
      in_range _ went e (replaced_words behind pc target
      (either HoldWords linked (replaced state.registers lr (next_address state.registers)) state.registers (replaced_words state.registers lr (next_address state.registers) words (sum_is_word (state.registers pc) 4)) words)
      small) bytes

  -- ---- data processing

  alu_in_range : (code : ℕ) (sets : Bool) (first to : ℕ) (second : Shifted) → second.value < 2 ^ 32 → alu_effect state code sets first to second ≡ Next went → IsInRange went.state
  unfolding alu_effect
  alu_in_range code sets first to second small e =
      let result = computed code (value_of state.registers first) second state.flags in
      let w : result.value < 2 ^ 32 = computed_is_word code (value_of state.registers first) second state.flags (value_is_word state.registers first words) small in
      on_in_range (alu_registers state.registers code to result.value) _ false
      (either HoldWords (is_compare code) state.registers (replaced state.registers to result.value) words (replaced_words state.registers to result.value words w)) e

  mul_in_range : (accumulate sets : Bool) (to added factor multiplier : ℕ) → mul_effect state accumulate sets to added factor multiplier ≡ Next went → IsInRange went.state
  unfolding mul_effect
  mul_in_range accumulate sets to added factor multiplier e =
      let value = product_in state.registers accumulate added factor multiplier in
      on_in_range (replaced state.registers to value) _ _ (replaced_words state.registers to value words (low_is_word _)) e

  long_in_range : (signed accumulate sets : Bool) (hi lo factor multiplier : ℕ) → mul_long_effect state signed accumulate sets hi lo factor multiplier ≡ Next went → IsInRange went.state
  unfolding mul_long_effect
  long_in_range signed accumulate sets hi lo factor multiplier e =
      let value = long_product_in state.registers signed accumulate hi lo factor multiplier in
      let small : value < 2 ^ 64 = long_is_small signed (state.registers factor) (state.registers multiplier) _ in
      on_in_range (long_registers state.registers hi lo value) _ _
      (replaced_words (replaced state.registers lo (value % 2 ^ 32)) hi (value / 2 ^ 32) (replaced_words state.registers lo (value % 2 ^ 32) words (low_is_word value)) (high_is_word value small)) e

  -- ---- transfers

  moved_is_word : (up : Bool) (base by : ℕ) → moved up base by < 2 ^ 32
  moved_is_word up base by = either (λ n. n < 2 ^ 32) up (add_words base by) (sub_words base by) (sum_is_word base by) (difference_is_word base by)

  behind_words : (t : Transfer) → HoldWords (registers_behind state.registers t)
  behind_words t =
      replaced_words (cond t.changes (replaced state.registers t.base (moved_base state.registers t)) state.registers) pc (next_address state.registers)
      (either HoldWords t.changes (replaced state.registers t.base (moved_base state.registers t)) state.registers
      (replaced_words state.registers t.base (moved_base state.registers t) words (moved_is_word t.up (value_of state.registers t.base) t.offset)) words)
      (sum_is_word (state.registers pc) 4)

  transfer_in_range : (t : Transfer) → transfer_effect machine image state t ≡ Next went → IsInRange went.state
  transfer_in_range t e = cases (transfers machine image state t went e)
    where
      cases : Transfers machine image state t went → IsInRange went.state
      cases (loads l f) = in_range _ went f (replaced_words (registers_behind state.registers t) t.register _ (behind_words t) (loaded_is_word t.datum state.memory (address_of state.registers t) bytes)) bytes
      cases (stores l apart f) = in_range _ went f (behind_words t)
          (overwritten_bytes state.memory (address_of state.registers t) (take (size_of t.datum) (bytes_of_word (value_of state.registers t.register))) bytes
          (bytes_taken (size_of t.datum) (bytes_of_word (value_of state.registers t.register)) (word_has_bytes (value_of state.registers t.register))))

  block_behind_words : (t : BlockTransfer) → HoldWords (registers_behind_block state.registers t)
  unfolding registers_behind_block
  block_behind_words t =
      replaced_words (cond t.changes (replaced state.registers t.base (moved_block_base state.registers t)) state.registers) pc (next_address state.registers)
      (either HoldWords t.changes (replaced state.registers t.base (moved_block_base state.registers t)) state.registers
      (replaced_words state.registers t.base (moved_block_base state.registers t) words (moved_is_word t.up (state.registers t.base) (block_size t))) words)
      (sum_is_word (state.registers pc) 4)

  block_loaded_words : (registers : ℕ → ℕ) (list first : ℕ) → HoldWords registers → HoldWords (block_loaded registers state.memory list first)
  unfolding block_loaded
  block_loaded_words registers list first w = record {
    each = λ r. either (λ n. n < 2 ^ 32) (is_in list r) _ (registers r) (word_in_is_word state.memory (add_words first (4 * length (listed_below r list))) bytes) (w.each r);
  }

  block_in_range : (t : BlockTransfer) → block_effect machine image state t ≡ Next went → IsInRange went.state
  block_in_range t e = cases (moves machine image state t went e)
    where
      cases : Moves machine image state t went → IsInRange went.state
      cases (block_loads l f) = in_range _ went f (block_loaded_words (registers_behind_block state.registers t) t.list (block_first state.registers t) (block_behind_words t)) bytes
      cases (block_stores l apart f) = in_range _ went f (block_behind_words t)
          (overwritten_bytes state.memory (block_first state.registers t) (block_bytes state.registers t.list) bytes (block_has_bytes state.registers t.list))

  -- ---- by the rows

  effect_in_range : (word : ℕ) (kind : Kind) → effect machine image state word kind ≡ Next went → IsInRange went.state
  effect_in_range word AluImmediate e = alu_in_range (opcode word) (sets_flags word) (rn word) (rd word) _ (shifted_is_word _ (immediate word) _ state.flags.c (small_immediate word)) e
  effect_in_range word AluShift e = alu_in_range (opcode word) (sets_flags word) (rn word) (rd word) _ (shifted_number_is_word (shift_kind word) (value_of state.registers (rm word)) (shift_amount word) state.flags.c (value_is_word state.registers (rm word) words)) e
  effect_in_range word AluByRegister e = alu_in_range (opcode word) (sets_flags word) (rn word) (rd word) _ (shifted_is_word (shift_kind word) (state.registers (rm word)) _ state.flags.c (words.each (rm word))) e
  effect_in_range word Mul e = mul_in_range (accumulates word) (sets_flags word) (product word) (addend word) (rm word) (rs word) e
  effect_in_range word MulLong e = long_in_range (is_signed word) (accumulates word) (sets_flags word) (product word) (addend word) (rm word) (rs word) e
  effect_in_range word SingleImmediate e = transfer_in_range (single_by word _) e
  effect_in_range word SingleRegister e = transfer_in_range (single_by word _) e
  effect_in_range word HalfImmediate e = transfer_in_range (half_by word _) e
  effect_in_range word HalfRegister e = transfer_in_range (half_by word _) e
  effect_in_range word Block e = block_in_range (block_by word) e
  effect_in_range word Branch e = jump_in_range (links word) _ (branch_is_word (state.registers pc) (branch_offset word)) e
  effect_in_range word Exchange e = jump_in_range (exchange_links word) _ (words.each (rm word)) e
  effect_in_range word Svc e = cc
  effect_in_range word MovPcLr e = jump_in_range false _ (words.each lr) e

  goes_in_range : (word : ℕ) → GoesBy machine image state word went → IsInRange went.state
  goes_in_range word (passed_over kind is fails e) = on_in_range state.registers state.flags false words e
  goes_in_range word (done kind is e) = effect_in_range word kind e

pub steps_stay_in_range : StepsStayInRange
steps_stay_in_range machine image state went range e =
    goes_in_range machine image state went (record { each = range.words }) (record { each = range.bytes }) (current_word state) (goes machine image state went e).by
