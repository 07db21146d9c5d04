use Rattle.elf_image.proofs.Unique.{exact_refusal, read_unless_memory}
use Rattle.elf_image.proofs.read.read_image.Goals as goal

pub returns-clause-read : goal.returns-clause-read
returns-clause-read c = λ pass.
    read_unless_memory c.args.bytes.now c.read_checked.result c.read_checked.ensures.refused pass

pub returns-clause-exact : goal.returns-clause-exact
returns-clause-exact c = λ first h.
    exact_refusal c.args.bytes.now c.read_checked.result first c.read_checked.ensures.accepted c.read_checked.ensures.refused h
