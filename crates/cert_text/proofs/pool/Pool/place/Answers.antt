use Rattle.std.proofs.Common.{sym, ◌∙◌}
use Rattle.cert_text.proofs.KeyLemmas.{listed_as, place_found}
use Rattle.cert_text.proofs.pool.Pool.place.Goals as goal

pub unwrap-requires : goal.unwrap-requires
unwrap-requires c = c.get_index_of.ensures.found ∙ listed_as (λ v. v.now) c.args.slots.now c.self.inside.vectors.keys ∙ (rw (← c.self.view_is) at c.requires)

pub returns : goal.returns
returns c = rw (← c.self.view_is) (place_found (λ v. v.now) c.self.inside.vectors.keys c.args.slots.now c.unwrap.result c.self.invariant (sym c.get_index_of.ensures.index ∙ c.unwrap.ensures))
