use Rattle.std.proofs.Common.{sym, subst}
use Rattle.machine_desc.specs.Causes.{IsWorst}
use Rattle.machine_desc.proofs.Worst.{told}
use Rattle.machine_desc.proofs.check.refuse_worst.Goals as goal

pub returns-clause-refused : goal.returns-clause-refused
returns-clause-refused c =
    subst (IsWorst c.args.faults.items) (sym c.refusal_of.ensures) (told c.args.faults.items c.swap_remove.result c.in-Some.place (rw c.as_slice.ensures.value at c.in-Some.ensures) c.swap_remove.ensures.value)
