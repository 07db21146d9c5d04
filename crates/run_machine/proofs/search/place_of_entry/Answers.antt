use Rattle.std.proofs.Common.{rules}
use Rattle.std.proofs.lemmas.List.Sorted.{answers_always}
use Rattle.run_machine.proofs.Searching.{placed}
use Rattle.run_machine.proofs.search.place_of_entry.Goals as goal

-- the closure gives an element's key
pub returns : goal.returns
returns c =
    let facts = c.binary_search_by_key.ensures in
    placed (λ x. x.entry) c.args.functions.now c.args.entry c.binary_search_by_key.result c.requires facts.bound (facts.position (λ x. x.entry) (answers_always _ _ _ (λ f a r g called. search rules)))
