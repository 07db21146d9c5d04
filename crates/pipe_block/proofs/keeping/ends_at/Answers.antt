use Rattle.std.proofs.Common.{◌≡◌, sym, ap, subst}
use Rattle.std.proofs.lemmas.Option.{slice_get_within}
use Rattle.pipe_block.specs.Kept.{AreEndsRight, Memo}
use Rattle.pipe_block.specs.Leavings.{KeepsLeavings}
use Rattle.pipe_block.proofs.BlockLemmas.{node_timed}
use Rattle.pipe_block.proofs.EndLemmas.{right_stays}
use Rattle.pipe_block.proofs.Staying.{answered, key_once, pool_stays, right_ends, right_for, right_more}
use Rattle.pipe_block.proofs.keeping.ends_at.Goals as goal

pub block-b-requires : goal.block-b-requires
block-b-requires c = c.nodes_have_blocks.ensures c.args.site.now.unfolded.now.program c.args.site.now.unfolded.now c.args.site.now.node c.requires.unfolded.unfolded c.requires.node

pub ends_from-requires-clause-small : goal.ends_from-requires-clause-small
ends_from-requires-clause-small c = c.requires.small c.get-from.result c.get-from.ensures

pub ends_from-requires-clause-timed : goal.ends_from-requires-clause-timed
ends_from-requires-clause-timed c =
    node_timed c.args.site.now.machine.now c.args.site.now.unfolded.now c.args.site.now.node c.block-b.result.now c.requires.unfolded c.block-b.ensures

pub returns-in_err-ends-clause-right : goal.returns-in_err-ends-clause-right
returns-in_err-ends-clause-right c =
    let site = c.args.site.now in
    right_stays c.args.table.now c.ends_from.new.table c.args.pool.now c.args.pool.now site.machine.now site.unfolded.now c.memo.inside.kept.entries c.memo.inside.made.items
    c.ends_from.new.made.items c.ends_from.ensures.kept (pool_stays c.args.pool.now) c.ends_from.ensures.leavings
    (subst (λ (memo : Memo). AreEndsRight c.args.table.now c.args.pool.now site.machine.now site.unfolded.now memo) (sym c.memo.view_is) c.requires.right)

pub returns-clause-right : goal.returns-clause-right
returns-clause-right c =
    let site = c.args.site.now in
    let all =
    right_stays c.args.table.now c.ends_from.new.table c.args.pool.now c.args.pool.now site.machine.now site.unfolded.now c.memo.inside.kept.entries c.memo.inside.made.items
    c.ends_from.new.made.items c.ends_from.ensures.kept (pool_stays c.args.pool.now) c.ends_from.ensures.leavings
    (subst (λ (memo : Memo). AreEndsRight c.args.table.now c.args.pool.now site.machine.now site.unfolded.now memo) (sym c.memo.view_is) c.requires.right) in
    right_more c.memo.inside.kept.entries c.insert.new.self.entries c.ends_from.new.made.items c.key_of-key.result c.in_ok-ends.ends c.in_ok-insert.ensures.updates.0
    c.ends_from.new.table c.args.pool.now site.machine.now site.unfolded.now all
    (right_for c.ends_from.new.table c.args.pool.now site.machine.now site.unfolded.now site.node c.args.place c.key_of-key.result c.get-from.result c.block-b.result.now
    c.key_of-key.ensures c.get-from.ensures c.block-b.ensures c.ends_from.new.made.items c.in_ok-ends.ends c.in_ok-ends.ensures.ends)

pub returns-clause-ends : goal.returns-clause-ends
returns-clause-ends c from b at of =
    let site = c.args.site.now in
    let made = c.ends_from.new.made.items in
    right_ends c.ends_from.new.table c.args.pool.now site.machine.now site.unfolded.now site.node c.args.place c.key_of-key.result from b c.key_of-key.ensures at of made c.in_ok-ends.ends
    (right_for c.ends_from.new.table c.args.pool.now site.machine.now site.unfolded.now site.node c.args.place c.key_of-key.result c.get-from.result c.block-b.result.now
    c.key_of-key.ensures c.get-from.ensures c.block-b.ensures made c.in_ok-ends.ends c.in_ok-ends.ensures.ends)

pub returns-clause-within : goal.returns-clause-within
returns-clause-within c number is =
    let l = (c.in_ok-ends.ensures.ends.leaving c.args.taken).each number is in
    slice_get_within c.ends_from.new.made.items number l.leaving l.stands

pub returns-clause-leavings : goal.returns-clause-leavings
returns-clause-leavings c = subst (λ (memo : Memo). KeepsLeavings memo.leavings c.ends_from.new.made.items) c.memo.view_is c.ends_from.ensures.leavings

pub returns-in_err-ends-clause-leavings : goal.returns-in_err-ends-clause-leavings
returns-in_err-ends-clause-leavings c = subst (λ (memo : Memo). KeepsLeavings memo.leavings c.ends_from.new.made.items) c.memo.view_is c.ends_from.ensures.leavings

pub returns-in_err-insert-clause-leavings : goal.returns-in_err-insert-clause-leavings
returns-in_err-insert-clause-leavings c = subst (λ (memo : Memo). KeepsLeavings memo.leavings c.ends_from.new.made.items) c.memo.view_is c.ends_from.ensures.leavings

pub returns-in_err-insert-clause-right : goal.returns-in_err-insert-clause-right
returns-in_err-insert-clause-right c =
    let site = c.args.site.now in
    rw c.in_err-insert.ensures.err
    (right_stays c.args.table.now c.ends_from.new.table c.args.pool.now c.args.pool.now site.machine.now site.unfolded.now c.memo.inside.kept.entries c.memo.inside.made.items
    c.ends_from.new.made.items c.ends_from.ensures.kept (pool_stays c.args.pool.now) c.ends_from.ensures.leavings
    (subst (λ (memo : Memo). AreEndsRight c.args.table.now c.args.pool.now site.machine.now site.unfolded.now memo) (sym c.memo.view_is) c.requires.right))

pub returns-clause-answered : goal.returns-clause-answered
returns-clause-answered c key k =
    let e = key_once c.args.site.now.unfolded.now c.args.site.now.node c.args.place key c.key_of-key.result k c.key_of-key.ensures in
    let now = ap (λ (memo : Memo). memo.entries) c.memo.view_is in
    rw (e, ← now) (answered c.memo.inside.kept.entries c.insert.new.self.entries c.key_of-key.result c.in_ok-ends.ends c.in_ok-insert.ensures.updates.0)
