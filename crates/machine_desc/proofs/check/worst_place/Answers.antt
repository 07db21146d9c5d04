use Rattle.std.proofs.Common.{sym, ◌∙◌}
use Rattle.machine_desc.proofs.Worst.{last_sort}
use Rattle.machine_desc.proofs.check.worst_place.Goals as goal

pub returns : goal.returns
returns c = last_sort c.args.faults.now c.first_range.result (sym c.first_missing.ensures ∙ c.in_default.is) (sym c.first_kind.ensures ∙ c.in_default-first_kind.is) c.first_range.ensures
