use Rattle.machine_desc.proofs.Unique.{exact_refusal}
use Rattle.machine_desc.proofs.read.read_machine.Goals as goal

pub returns-clause-exact : goal.returns-clause-exact
returns-clause-exact c = λ first h.
    exact_refusal c.args.bytes.now c.read_checked.result first c.read_checked.ensures.described c.read_checked.ensures.refused h
