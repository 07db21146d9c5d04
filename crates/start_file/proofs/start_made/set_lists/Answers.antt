use Rattle.std.proofs.Common.{◌≡◌, ◌∙◌, length, ap, arith, rules}
use Rattle.cache_lru.specs.Lru.{lines_of}
use Rattle.start_file.proofs.StartLists.{all_lists, written_back}
use Rattle.start_file.proofs.start_made.set_lists.Goals as goal

pub returns-clause-lists : goal.returns-clause-lists
returns-clause-lists c =
    let old = c.in_ok-lists.lists.items in
    let new = c.fill_lists.new.lists in
    let value : c.as_mut_slice.result.now ≡ old = c.as_mut_slice.ensures.value in
    let size : c.in_ok-lists.lists.len ≡ length old = search rules in
    let same : length new ≡ length c.as_mut_slice.result.now = search rules in
    ap lines_of (written_back old new c.in_ok-lists.lists.len size (same ∙ ap length value))
    ∙ all_lists c.args.shape c.args.items.now new (same ∙ ap length value ∙ c.in_ok-lists.ensures.count)
    (λ s small. c.in_ok-fill_lists.ensures s (omega (arith, same, small)))
