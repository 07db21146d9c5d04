use Rattle.std.proofs.Common.{◌≡◌, ◌++◌, drop}
use Rattle.std.specs.Prelude.{All}
use Rattle.wx_base.specs.Facts.{AreAscending}
use Rattle.ffx_facts.specs.Order.{target_facts}
use Rattle.ffx_facts.proofs.gather.gather_targets.Given as goal

abbrev pub invariant-loop-i : goal.invariant-loop-i
invariant-loop-i l = record {
  left : l.facts.items ++ target_facts l.kind (drop l.i l.all) ≡ target_facts l.kind l.all;
  ascend : All (λ f. AreAscending f.targets) l.facts.items;
}
