use Rattle.std.proofs.Common.{◌≡◌, [], ◌∙◌}
use Rattle.wx_base.proofs.MachineLemmas.{m1_in_range}
use Rattle.wx_base.proofs.machine.Machine.m1.Goals as goal

pub returns-clause-in_range : goal.returns-clause-in_range
returns-clause-in_range c =
    let none : c.new-2.result ≡ [] = c.new-2.ensures ∙ c.new.ensures.items in
    rw none m1_in_range
