use Rattle.std.proofs.Common.{ℕ, Option, Some, ap, cond, ◌∙◌}
use Rattle.state_charges.specs.Misses.{key_of, place_in, same_key}
use Rattle.state_charges.proofs.places.insert_place.Goals as goal

pub returns : goal.returns
returns c = λ other.
    c.in_ok-insert.ensures.updates.0 (key_of other)
    ∙ ap (λ (o : Option ℕ). cond (same_key (c.args.group.now.line, o) (key_of other)) (Some c.args.place) (place_in c.args.places.now.entries other)) c.number_of.ensures
