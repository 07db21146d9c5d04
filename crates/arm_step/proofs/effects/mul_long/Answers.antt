use Rattle.std.proofs.Common.{◌≡◌, ◌∙◌, ap, ℕ}
use Rattle.wx_base.specs.State.{pc, replaced, next_address}
use Rattle.wx_base.specs.Step.{long_registers}
use Rattle.arm_step.specs.Cpu.{registers_of}
use Rattle.arm_step.proofs.effects.mul_long.Goals as goal

-- registers that were set one after the other
set_in_turn : (old behind new : ℕ → ℕ) (hi lo product value next : ℕ) → product ≡ value → next ≡ next_address old
    → behind ≡ long_registers old hi lo product → new ≡ replaced behind pc next
    → new ≡ replaced (long_registers old hi lo value) pc (next_address old)
set_in_turn old behind new hi lo product value next is at first then =
    then ∙ (λ i. replaced ((first ∙ ap (long_registers old hi lo) is) i) pc (at i))

pub returns-clause-registers : goal.returns-clause-registers
returns-clause-registers c =
    ap (λ cpu. registers_of cpu.regs) c.set_flags.ensures
    ∙ set_in_turn (registers_of c.args.cpu.now.regs) (registers_of c.set_long.new.regs) (registers_of c.set.new.regs) c.args.of.hi
    c.args.of.lo c.long_product_in-product.result _ c.next_address-next.result c.long_product_in-product.ensures
    c.next_address-next.ensures c.set_long.ensures c.set.ensures
