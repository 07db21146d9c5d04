use Rattle.std.proofs.Common.{◌∙◌, ap, subst, sym}
use Rattle.wx_base.specs.Facts.{AreAscending}
use Rattle.std.specs.Prelude.{List, ℕ, map, drop, ◌+◌}
use Rattle.ffx_facts.specs.declared.says.Says.{Says}
use Rattle.ffx_facts.specs.Order.{put_all}
use Rattle.ffx_facts.proofs.Ordered.{keys_ascend, put_next}
use Rattle.ffx_facts.proofs.gather.targets_of.Goals as goal

pub loop-says-preserved : goal.loop-says-preserved
loop-says-preserved c =
    let all = c.leading_targets-says-items.result.now in
    let i = c.loop-says.says-index in
    record {
      left = ap (λ (keys : List ℕ). put_all keys (map (λ (s : Says). s.address) (drop (i + 1) all))) c.in_ok-insert.ensures.keys ∙ put_next c.loop-says.targets.keys all i _ c.loop-says-test.true ∙ c.loop-says.invariant.left;
      ordered = c.insert.ensures.ordered;
    }

pub returns-clause-ascend : goal.returns-clause-ascend
returns-clause-ascend c = subst AreAscending (sym (c.new.ensures ∙ c.in_ok-in_order.ensures)) (keys_ascend c.loop-says.targets.keys c.loop-says.invariant.ordered)
