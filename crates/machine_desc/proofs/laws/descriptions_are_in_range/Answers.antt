use Rattle.machine_desc.proofs.Machines.{descriptions_in_range}
use Rattle.machine_desc.proofs.laws.descriptions_are_in_range.Goals as goal

pub returns : goal.returns
returns c = descriptions_in_range
