use Rattle.std.proofs.Common.{◌≤◌, ◌∙◌, ℕ, List, Option, arith, length, map, min, subst, sym}
use Rattle.cache_class.specs.Groups.{AreGroups}
use Rattle.cache_class.specs.GroupsSoFar.{group_at, AreGroupsTo}
use Rattle.cache_class.proofs.GatherLemmas.{groups_none, groups_all}
use Rattle.cache_class.proofs.KeyLemmas.{groups_ascend}
use Rattle.cache_class.proofs.gather.groups_of.Goals as goal

pub loop-node-init : goal.loop-node-init
loop-node-init c =
    subst (λ (keys : List (ℕ × Option ℕ)). AreGroupsTo c.args.u.now c.args.classes.now 0 0 (map group_at keys)) (sym c.new-set.ensures.empty) (groups_none c.args.u.now c.args.classes.now)

pub returns : goal.returns
returns c =
    let end : min (length c.args.u.now.nodes) (length c.args.classes.now.slots) ≤ c.loop-node.node = omega arith in
    subst (AreGroups c.args.u.now c.args.classes.now) (sym (c.new.ensures ∙ c.in_ok-in_order.ensures.all))
    (groups_all c.args.u.now c.args.classes.now c.loop-node.node (map group_at c.loop-node.set.keys) end (groups_ascend c.loop-node.set.keys c.in_ok-in_order.ensures.ordered) c.loop-node.invariant)
