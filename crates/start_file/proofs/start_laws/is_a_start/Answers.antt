use Rattle.std.proofs.Common.{◌<◌, ℕ, List, All, slice_index, refl, subst}
use Rattle.wx_base.specs.declared.image.Segment.{Segment}
use Rattle.wx_base.specs.declared.machine.Shape.{Shape}
use Rattle.wx_base.specs.Cache.{IsCache}
use Rattle.wx_base.specs.State.{pc}
use Rattle.arm_step.specs.Cpu.{registers_of}
use Rattle.start_file.proofs.StartBytes.{are_start}
use Rattle.start_file.proofs.start_laws.is_a_start.Goals as goal

pub returns : goal.returns
returns c =
    are_start c.args.machine.now c.args.image.now (registers_of c.args.start.now.cpu.regs pc) c.args.start.now refl (record { words = c.words_fit.ensures; bytes = c.bytes_fit.ensures })
    (subst (λ (segments : List Segment). All (λ s. (k : ℕ) → slice_index s.bytes k < 256) segments) c.as_slice.ensures c.segments_fit.ensures)
    (subst (λ (shape : Shape). IsCache shape c.args.start.now.cache.lists) c.requires.shape c.is_cache.ensures)
    c.requires.outside
