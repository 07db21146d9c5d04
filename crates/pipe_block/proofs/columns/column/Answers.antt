use Rattle.std.proofs.Common.{◌≡◌, ◌<◌, Some, slice_get, length, sym, ap, ◌∙◌, arith}
use Rattle.std.proofs.lemmas.Option.{slice_get-get_or}
use Rattle.xdd_table.specs.declared.node.Dd.{Dd}
use Rattle.pipe_block.specs.Rows.{IsColumn}
use Rattle.pipe_block.proofs.Rebuilding.{column_one}
use Rattle.pipe_block.proofs.Walking.{if_ok_four}
use Rattle.pipe_block.proofs.columns.column.Goals as goal

pub returns-then-are_one-clause-column : goal.returns-then-are_one-clause-column
returns-then-are_one-clause-column c =
    if_ok_four c.leaf.result _ _ _ _ (IsColumn c.args.plan.now c.leaf.new.self c.args.times.now c.args.root.place)
    c.leaf.ensures.within c.leaf.ensures.times c.leaf.ensures.after c.leaf.ensures.events
    (λ d within times after events. column_one c.args.plan.now c.leaf.new.self c.args.times.now c.args.root.place c.time_at-first.result d (c.are_one.ensures c.if-are_one.true) within times events)

pub returns-clause-column : goal.returns-clause-column
returns-clause-column c =
    let d : Dd = c.index.result.now in
    let items = c.in_ok-built.built.items in
    let l : c.args.root.place < length items = omega (arith, c.in_ok-built.ensures.long, c.requires) in
    let at : slice_get items c.args.root.place ≡ Some d = slice_get-get_or items c.args.root.place d l ∙ ap (λ x. Some x) (sym c.index.ensures) in
    (c.in_ok-built.ensures.built.each c.args.root.place d at).column
