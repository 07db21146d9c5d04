use Rattle.std.proofs.Common.{◌≡◌, [], drop, map}
use Rattle.std.specs.Ordering.{nat_cmp}
use Rattle.std.specs.BTreeSet.{IsOrdered}
use Rattle.ffx_facts.specs.Order.{leading_targets, put_all}
use Rattle.ffx_facts.proofs.gather.targets_of.Given as goal

abbrev pub invariant-loop-says : goal.invariant-loop-says
invariant-loop-says l = record {
  left : put_all l.targets.keys (map (λ s. s.address) (drop l.says-index l.says-items)) ≡ put_all [] (leading_targets l.all);
  ordered : IsOrdered nat_cmp l.targets;
}
