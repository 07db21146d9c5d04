use Rattle.std.proofs.Common.{◌∙◌}
use Rattle.run_machine.proofs.Searching.{placed, one_of}
use Rattle.run_machine.proofs.search.is_one_of.Goals as goal

pub returns : goal.returns
returns c =
    let facts = c.binary_search.ensures in
    c.is_ok.ensures.value ∙ one_of c.args.addresses.now c.args.address _ c.requires (placed (λ x. x) c.args.addresses.now c.args.address _ c.requires facts.bound facts.position)
