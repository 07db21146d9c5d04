-- Lines say one start.
use Rattle.std.proofs.Common.{◌≡◌, ℕ, cond, List, length, sym, ap, ◌∙◌, subst, arith, ⊎_elim}
use Rattle.std.proofs.Math.Path.{fun_ext}
use Rattle.std.specs.Prelude.{slice_index}
use Rattle.std.specs.Option.{unwrap_or}
use Rattle.std.proofs.lemmas.Bool.{cases_lt}
use Rattle.std.proofs.lemmas.List.{get_or_past}
use Rattle.wx_base.specs.declared.image.Image.{Image}
use Rattle.wx_base.specs.declared.machine.Shape.{Shape}
use Rattle.wx_base.specs.Image.{byte_of}
use Rattle.wx_mem.specs.Memory.{Bytes, byte_at, is_written}
use Rattle.arm_step.specs.Cpu.{flags_in, held, registers_of}
use Rattle.start_file.specs.declared.start_item.Item.{Item}
use Rattle.start_file.specs.declared.start_state.Start.{Start}
use Rattle.start_file.specs.StartSaid.{IsMemory, of_byte, said}
use Rattle.start_file.specs.StartState.{start_of}
use Rattle.start_file.specs.StartRefusal.{IsStartOf}

same_memory : (image : Image) (items : List Item) (m n : Bytes) → IsMemory items m → IsMemory items n → held image m ≡ held image n
same_memory image items m n p q =
    fun_ext λ at.
    let fill : m.fill ≡ n.fill = p.fill ∙ sym q.fill in
    let byte : byte_at m at ≡ byte_at n at = p.bytes at ∙ ap (unwrap_or (said (of_byte at) items)) fill ∙ sym (q.bytes at) in
    let written : is_written m at ≡ is_written n at = p.written at ∙ sym (q.written at) in
    λ i. cond (written i) (byte i) (unwrap_or (byte_of image at) (byte i))

module _ (image : Image) (shape : Shape) (entry : ℕ) (items : List Item) (a b : Start) (p : IsStartOf entry shape items a) (q : IsStartOf entry shape items b) (long : length a.cpu.regs ≡ 16) (also : length b.cpu.regs ≡ 16) where
  same_register : (n : ℕ) → slice_index a.cpu.regs n ≡ slice_index b.cpu.regs n
  same_register n =
      ⊎_elim (λ below. p.registers.said n below ∙ sym (q.registers.said n below))
      (λ high. ⊎_elim
      (λ last. let at : 15 ≡ n = omega (arith, high, last) in subst (λ k. slice_index a.cpu.regs k ≡ slice_index b.cpu.regs k) at (p.registers.pc ∙ sym q.registers.pc))
      (λ past. get_or_past a.cpu.regs n 0 (omega (arith, past, long)) ∙ sym (get_or_past b.cpu.regs n 0 (omega (arith, past, also))))
      (cases_lt n 16))
      (cases_lt n 15)

  pub same_start : start_of image a ≡ start_of image b
  same_start =
      let registers : registers_of a.cpu.regs ≡ registers_of b.cpu.regs = fun_ext same_register in
      let flags : flags_in a.cpu ≡ flags_in b.cpu = p.flags ∙ sym q.flags in
      let memory = same_memory image items a.cpu.memory b.cpu.memory p.memory q.memory in
      let cache = p.cache.of_lists ∙ sym q.cache.of_lists in
      λ i. record { state = record { registers = registers i; flags = flags i; memory = memory i }; cache = cache i }
