use Rattle.std.proofs.Common.{◌≡◌, [], length, get_or, arith, rules}
use Rattle.cache_lru.specs.Lru.{lines_of}
use Rattle.start_file.specs.StartSaid.{of_set}
use Rattle.start_file.proofs.StartSaying.{told_more, told_all}
use Rattle.start_file.proofs.StartLists.{none_in}
use Rattle.start_file.proofs.start_made.fill_lists.Goals as goal

pub loop-item-init : goal.loop-item-init
loop-item-init c = none_in c.args.lists.now c.requires.empty

pub loop-item-preserved : goal.loop-item-preserved
loop-item-preserved c s within =
    let same : length c.set_list.new.lists ≡ length c.loop-item.lists = search rules in
    told_more (of_set s) c.args.items.now c.loop-item.item-index c.item-item.result (get_or (lines_of c.loop-item.lists) s []) (get_or (lines_of c.set_list.new.lists) s []) [] c.loop-item-test.true c.item-item.is
    (c.loop-item.invariant s (omega (arith, same, within))) (c.in_ok-set_list.ensures s (omega (arith, same, within)))

pub returns : goal.returns
returns c s within =
    let same : length c.loop-item.lists ≡ length c.args.lists.now = search rules in
    told_all (of_set s) c.args.items.now c.loop-item.item-index (get_or (lines_of c.loop-item.lists) s []) [] c.loop-item-test.false (c.loop-item.invariant s (omega (arith, same, within)))
