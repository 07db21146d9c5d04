use Rattle.std.proofs.Common.{◌≡◌, [], get_or, set, subst, sym, ◌∙◌}
use Rattle.std.specs.Option.{unwrap_or}
use Rattle.start_file.specs.StartSaid.{of_set}
use Rattle.cache_lru.specs.Lru.{lines_of}
use Rattle.start_file.specs.declared.start_item.Item.{Item}
use Rattle.start_file.proofs.StartLists.{one_list}
use Rattle.start_file.proofs.start_made.set_list.Goals as goal

pub returns-in_ok-lists : goal.returns-in_ok-lists
returns-in_ok-lists c s within =
    subst (λ (x : Item). get_or (lines_of (set c.args.lists.now c.in-Set.set c.in_ok-lists.field-0)) s [] ≡ unwrap_or (of_set s x) (get_or (lines_of c.args.lists.now) s [])) (sym c.in-Set.is)
    (one_list c.args.lists.now c.in-Set.set c.in_ok-lists.field-0 c.in-Set.lines s within (c.in_ok-lists.ensures.items_if_clones_equal (λ x y e. e) ∙ c.as_slice.ensures))
