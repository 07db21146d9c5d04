use Rattle.std.proofs.Common.{ap, ◌∙◌}
use Rattle.wx_base.specs.Transfer.{block_loaded}
use Rattle.arm_step.specs.Cpu.{held}
use Rattle.arm_step.proofs.block.load.Goals as goal

pub returns-clause-registers : goal.returns-clause-registers
returns-clause-registers c =
    c.load_all.ensures
    ∙ ap (λ registers. block_loaded registers (held c.args.image.now c.args.cpu.now.memory) c.args.t.now.list c.args.first) c.move_on.ensures
