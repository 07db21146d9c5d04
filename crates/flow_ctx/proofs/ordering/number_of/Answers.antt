use Rattle.std.proofs.Common.{sym, ◌∙◌}
use Rattle.std.proofs.lemmas.Bool.{false≢true}
use Rattle.flow_ctx.proofs.NumberLemmas.{number_found, number_there}
use Rattle.flow_ctx.proofs.ordering.number_of.Goals as goal

pub unreachable-requires : goal.unreachable-requires
unreachable-requires c = false≢true (c.in-None.ensures.found ∙ number_there c.args.places.now.keys c.args.place.now c.requires.there)

pub returns : goal.returns
returns c = number_found c.args.places.now.keys c.args.place.now c.in-Some.number c.in-Some.ensures.index
