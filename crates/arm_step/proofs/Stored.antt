-- What the machine is after a store.
use Rattle.std.proofs.Common.{◌≡◌, ℕ, Bool, false, not, ◌%◌, ◌==◌, take, sym, ap, ◌∙◌}
use Rattle.std.proofs.lemmas.Bool.{cond-false}
use Rattle.wx_base.specs.declared.machine.Machine.{Machine}
use Rattle.wx_base.specs.declared.image.Image.{Image}
use Rattle.wx_base.specs.declared.step.Why.TheVariants.{Align, Store}
use Rattle.wx_base.specs.declared.step.Transfer.{Transfer}
use Rattle.wx_base.specs.declared.step.BlockTransfer.{BlockTransfer}
use Rattle.wx_base.specs.Bits.{bytes_of_word}
use Rattle.wx_base.specs.State.{State, Next, Stopped, value_of, overwritten}
use Rattle.wx_base.specs.Transfer.{address_of, size_of, is_slow_access, meets_code, registers_behind, load_effect, store_effect, transfer_effect, block_first, block_size, registers_behind_block, block_bytes, block_load_effect, block_store_effect, block_effect}
use Rattle.arm_step.specs.declared.cpu.Cpu.{Cpu}
use Rattle.arm_step.specs.Cpu.{held, registers_of, flags_in, state_of}

-- a transfer that is aligned, does not load and meets no code stores
pub stores : (machine : Machine) (image : Image) (state : State) (t : Transfer)
    → not (address_of state.registers t % size_of t.datum == 0) ≡ false → t.load ≡ false → meets_code image (address_of state.registers t) (size_of t.datum) ≡ false
    → transfer_effect machine image state t ≡ store_effect machine state t (address_of state.registers t)
unfolding transfer_effect
stores machine image state t aligned stored apart =
    cond-false _ (Stopped Align) _ aligned
    ∙ cond-false _ (load_effect machine state t (address_of state.registers t)) _ stored
    ∙ cond-false _ (Stopped Store) _ apart

-- the state after a store, from what was done
pub stored : (machine : Machine) (image : Image) (old new : Cpu) (t : Transfer) (addr size : ℕ) (slow : Bool)
    → addr ≡ address_of (registers_of old.regs) t → size ≡ size_of t.datum → addr % size ≡ 0 → t.load ≡ false
    → meets_code image addr size ≡ false → slow ≡ is_slow_access machine addr size
    → registers_of new.regs ≡ registers_behind (registers_of old.regs) t → flags_in new ≡ flags_in old
    → held image new.memory ≡ overwritten (held image old.memory) addr (take (size_of t.datum) (bytes_of_word (value_of (registers_of old.regs) t.register)))
    → Next (record { state = state_of image new; taken = false; slow = slow }) ≡ transfer_effect machine image (state_of image old) t
stored machine image old new t addr size slow at sized aligned stores_it apart slows registers flags memory =
    (λ i. Next (record {
      state = record { registers = registers i; flags = flags i; memory = placed i };
      taken = false;
      slow = (slows ∙ (λ j. is_slow_access machine (at j) (sized j))) i;
    }))
    ∙ sym (stores machine image (state_of image old) t
    (ap (λ n. not (n == 0)) (sym (λ i. at i % sized i) ∙ aligned)) stores_it (sym (λ i. meets_code image (at i) (sized i)) ∙ apart))
  where
    placed : held image new.memory ≡ overwritten (held image old.memory) (address_of (registers_of old.regs) t) (take (size_of t.datum) (bytes_of_word (value_of (registers_of old.regs) t.register)))
    placed = memory ∙ ap (λ a. overwritten (held image old.memory) a (take (size_of t.datum) (bytes_of_word (value_of (registers_of old.regs) t.register)))) at

-- the same of a block
block_stores : (machine : Machine) (image : Image) (state : State) (t : BlockTransfer)
    → not (state.registers t.base % 4 == 0) ≡ false → t.load ≡ false → meets_code image (block_first state.registers t) (block_size t) ≡ false
    → block_effect machine image state t ≡ block_store_effect machine state t (block_first state.registers t)
unfolding block_effect
block_stores machine image state t aligned stored apart =
    cond-false _ (Stopped Align) _ aligned
    ∙ cond-false _ (block_load_effect machine state t (block_first state.registers t)) _ stored
    ∙ cond-false _ (Stopped Store) _ apart

pub block_stored : (machine : Machine) (image : Image) (old new : Cpu) (t : BlockTransfer) (base first size : ℕ) (slow : Bool)
    → base ≡ registers_of old.regs t.base → first ≡ block_first (registers_of old.regs) t → size ≡ block_size t → base % 4 ≡ 0 → t.load ≡ false
    → meets_code image first size ≡ false → slow ≡ is_slow_access machine first size
    → registers_of new.regs ≡ registers_behind_block (registers_of old.regs) t → flags_in new ≡ flags_in old
    → held image new.memory ≡ overwritten (held image old.memory) first (block_bytes (registers_of old.regs) t.list)
    → Next (record { state = state_of image new; taken = false; slow = slow }) ≡ block_effect machine image (state_of image old) t
block_stored machine image old new t base first size slow based at sized aligned stores_it apart slows registers flags memory =
    (λ i. Next (record {
      state = record { registers = registers i; flags = flags i; memory = placed i };
      taken = false;
      slow = (slows ∙ (λ j. is_slow_access machine (at j) (sized j))) i;
    }))
    ∙ sym (block_stores machine image (state_of image old) t
    (ap (λ n. not (n == 0)) (sym (ap (λ n. n % 4) based) ∙ aligned)) stores_it (sym (λ i. meets_code image (at i) (sized i)) ∙ apart))
  where
    placed : held image new.memory ≡ overwritten (held image old.memory) (block_first (registers_of old.regs) t) (block_bytes (registers_of old.regs) t.list)
    placed = memory ∙ ap (λ a. overwritten (held image old.memory) a (block_bytes (registers_of old.regs) t.list)) at
