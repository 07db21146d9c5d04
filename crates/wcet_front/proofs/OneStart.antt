-- A start text tells one start, up to what a run sees of it.
use Rattle.std.proofs.Common.{◌≡◌, ℕ, ◌<◌, ◌≤◌, Bool, cond, List, length, Option, unwrap_or, slice_index, inl, inr, sym, ap, ◌∙◌, subst, arith}
use Rattle.std.proofs.lemmas.Bool.{cases_lt}
use Rattle.std.proofs.lemmas.List.{get_or_past}
use Rattle.wx_base.specs.declared.image.Image.{Image}
use Rattle.wx_base.specs.declared.machine.Shape.{Shape}
use Rattle.wx_base.specs.Image.{byte_of}
use Rattle.start_file.specs.declared.start_state.Start.{Start}
use Rattle.start_file.specs.StartState.{start_of}
use Rattle.start_file.specs.StartSaid.{said, of_byte}
use Rattle.start_file.specs.StartRefusal.{IsStartOf}

same_byte : (w w' : Bool) (x x' : ℕ) (o : Option ℕ) → w ≡ w' → x ≡ x' → cond w x (unwrap_or o x) ≡ cond w' x' (unwrap_or o x')
same_byte w w' x x' o e f = λ i. cond (e i) (f i) (unwrap_or o (f i))

module _ (image : Image) (shape : Shape) (entry : ℕ) where
  pub same_start : (items : List _) (a b : Start) → length a.cpu.regs ≡ 16 → length b.cpu.regs ≡ 16
      → IsStartOf entry shape items a → IsStartOf entry shape items b → start_of image a ≡ start_of image b
  same_start items a b n m p q = λ i. record {
    state = record { registers = λ r. registers r i; flags = flags i; memory = λ at. memory at i };
    cache = cache i;
  }
    where
      past : (r : ℕ) → 16 ≤ r → slice_index a.cpu.regs r ≡ slice_index b.cpu.regs r
      past r h = get_or_past a.cpu.regs r 0 (omega arith) ∙ sym (get_or_past b.cpu.regs r 0 (omega arith))

      last : (r : ℕ) → 15 ≤ r → r < 16 → slice_index a.cpu.regs r ≡ slice_index b.cpu.regs r
      last r h k =
          let is : 15 ≡ r = omega arith in
          subst (λ x. slice_index a.cpu.regs x ≡ slice_index b.cpu.regs x) is (p.registers.pc ∙ sym q.registers.pc)

      registers : (r : ℕ) → slice_index a.cpu.regs r ≡ slice_index b.cpu.regs r
      registers r = elim (cases_lt r 15) [
        | inl h ↦ p.registers.said r h ∙ sym (q.registers.said r h)
        | inr h ↦ elim (cases_lt r 16) [ inl k ↦ last r h k | inr k ↦ past r k ]
      ]

      flags : (start_of image a).state.flags ≡ (start_of image b).state.flags
      flags = p.flags ∙ sym q.flags

      fill : a.cpu.memory.fill ≡ b.cpu.memory.fill
      fill = p.memory.fill ∙ sym q.memory.fill

      memory : (at : ℕ) → (start_of image a).state.memory at ≡ (start_of image b).state.memory at
      memory at =
          same_byte _ _ _ _ (byte_of image at) (p.memory.written at ∙ sym (q.memory.written at))
          (p.memory.bytes at ∙ ap (unwrap_or (said (of_byte at) items)) fill ∙ sym (q.memory.bytes at))

      cache : (start_of image a).cache ≡ (start_of image b).cache
      cache = p.cache.of_lists ∙ sym q.cache.of_lists
