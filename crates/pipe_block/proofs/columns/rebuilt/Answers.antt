use Rattle.std.proofs.Common.{◌<◌, ℕ, List, length, get_or, arith}
use Rattle.std.proofs.lemmas.Option.{slice_get-get_or}
use Rattle.xdd_table.specs.declared.node.Dd.{Dd}
use Rattle.xdd_table.specs.declared.node.Node.{Node}
use Rattle.pipe_block.specs.Rows.{IsBuilt, AreBuilt}
use Rattle.pipe_block.proofs.Rebuilding.{built_leaf, built_branch}
use Rattle.pipe_block.proofs.Walking.{if_ok_four}
use Rattle.pipe_block.proofs.columns.rebuilt.Goals as goal

built_at : (plan nodes : List Node) (times : List ℕ) (built : List Dd) (p : ℕ) → AreBuilt plan nodes times built → p < length built → IsBuilt plan nodes times p (get_or built p (record { place = 0 }))
built_at plan nodes times built p all l = all.each p (get_or built p (record { place = 0 })) (slice_get-get_or built p (record { place = 0 }) l)

pub branch-table-requires-clause-hit_after : goal.branch-table-requires-clause-hit_after
branch-table-requires-clause-hit_after c =
    (built_at c.args.plan.now c.args.table.now c.args.times.now c.args.built.now c.in-Branch.hit.place c.requires.built (omega (arith, c.in-Branch.ensures.shape.hit_before, c.requires.long))).after
    c.in-Branch.event c.in-Branch.ensures.shape.hit_after

pub branch-table-requires-clause-miss_after : goal.branch-table-requires-clause-miss_after
branch-table-requires-clause-miss_after c =
    (built_at c.args.plan.now c.args.table.now c.args.times.now c.args.built.now c.in-Branch.miss.place c.requires.built (omega (arith, c.in-Branch.ensures.shape.miss_before, c.requires.long))).after
    c.in-Branch.event c.in-Branch.ensures.shape.miss_after

pub returns-in-Leaf-clause-built : goal.returns-in-Leaf-clause-built
returns-in-Leaf-clause-built c =
    if_ok_four c.leaf.result _ _ _ _ (λ d. IsBuilt c.args.plan.now c.leaf.new.self c.args.times.now c.args.place d)
    c.leaf.ensures.within c.leaf.ensures.times c.leaf.ensures.after c.leaf.ensures.events
    (λ d within times after events. built_leaf c.args.plan.now c.leaf.new.self c.args.times.now c.args.place c.in-Leaf.time d c.in-Leaf.ensures.times within
    (λ f. rw (← c.time_at.ensures) (times f)) after events)

pub returns-in-Branch-clause-built : goal.returns-in-Branch-clause-built
returns-in-Branch-clause-built c =
    if_ok_four c.branch-table.result _ _ _ _ (λ d. IsBuilt c.args.plan.now c.branch-table.new.self c.args.times.now c.args.place d)
    c.branch-table.ensures.within c.branch-table.ensures.times c.branch-table.ensures.after c.branch-table.ensures.events
    (λ d within times after events. built_branch c.args.plan.now c.args.table.now c.branch-table.new.self c.args.times.now c.args.place c.in-Branch.event c.in-Branch.hit c.in-Branch.miss
    (get_or c.args.built.now c.in-Branch.hit.place (record { place = 0 })) (get_or c.args.built.now c.in-Branch.miss.place (record { place = 0 })) d c.in-Branch.ensures.value
    (built_at c.args.plan.now c.args.table.now c.args.times.now c.args.built.now c.in-Branch.hit.place c.requires.built (omega (arith, c.in-Branch.ensures.shape.hit_before, c.requires.long)))
    (built_at c.args.plan.now c.args.table.now c.args.times.now c.args.built.now c.in-Branch.miss.place c.requires.built (omega (arith, c.in-Branch.ensures.shape.miss_before, c.requires.long)))
    c.in-Branch.ensures.times within times after events)
