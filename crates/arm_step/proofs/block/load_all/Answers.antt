use Rattle.std.proofs.Common.{◌≡◌, ◌∙◌, ℕ, ◌+◌, cond}
use Rattle.wx_base.specs.Bits.{is_in, add_words}
use Rattle.wx_base.specs.State.{replaced, word_in}
use Rattle.arm_step.specs.Cpu.{held, registers_of}
use Rattle.arm_step.specs.Blocks.{place_of, loaded_below}
use Rattle.arm_step.proofs.Blocks.{loaded_more, place_more}
use Rattle.arm_step.proofs.block.load_all.Goals as goal

-- one more register, from what was loaded before and where
one_more : (new now old memory : ℕ → ℕ) (list first n addr : ℕ) → now ≡ loaded_below old memory list first n → addr ≡ place_of list first n
    → new ≡ cond (is_in list n) (replaced now n (word_in memory addr)) now → new ≡ loaded_below old memory list first (n + 1)
one_more new now old memory list first n addr loaded at set =
    set ∙ (λ i. cond (is_in list n) (replaced (loaded i) n (word_in memory (at i))) (loaded i)) ∙ loaded_more old memory list first n

next : (new addr list first n : ℕ) → addr ≡ place_of list first n → new ≡ cond (is_in list n) (add_words addr 4) addr → new ≡ place_of list first (n + 1)
next new addr list first n at moved = moved ∙ (λ i. cond (is_in list n) (add_words (at i) 4) (at i)) ∙ place_more list first n

pub loop-register-preserved : goal.loop-register-preserved
loop-register-preserved c = record {
  loaded = one_more _ (registers_of c.loop-register.regs) (registers_of c.args.regs.now) (held c.args.image.now c.args.memory.now) c.args.list
      c.args.first c.loop-register.register c.loop-register.addr c.loop-register.invariant.loaded c.loop-register.invariant.place c.load_one-addr.ensures.registers;
  place = next _ c.loop-register.addr c.args.list c.args.first c.loop-register.register c.loop-register.invariant.place c.load_one-addr.ensures.next;
}
