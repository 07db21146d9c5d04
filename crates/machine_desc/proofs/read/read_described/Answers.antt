use Rattle.std.proofs.Common.{subst, ◌∙◌, ap, ◌≡◌}
use Rattle.toml.specs.View.{view}
use Rattle.machine_desc.specs.Document.{elements}
use Rattle.machine_desc.specs.Meeting.{NoneMeet}
use Rattle.machine_desc.specs.Values.{regions_of}
use Rattle.machine_desc.proofs.Machines.{machine_in_range}
use Rattle.machine_desc.proofs.read.read_described.Goals as goal

pub returns-clause-in_range : goal.returns-clause-in_range
returns-clause-in_range c =
    let told = c.in_ok-machine.ensures in
    let same : c.as_slice.result.now ≡ regions_of (elements (view c.args.document.now)) = c.as_slice.ensures ∙ ap (λ m. m.regions) told in
    machine_in_range (view c.args.document.now) c.in_ok-machine.machine c.requires c.in_ok-check_keys.ensures.faultless (subst NoneMeet same c.in_ok-check_apart.ensures.apart) told
