use Rattle.test_flow.proofs.Interned.{interned_small}
use Rattle.test_flow.proofs.sharing.push_places.Goals as goal

pub answers_at-requires-clause-small : goal.answers_at-requires-clause-small
answers_at-requires-clause-small c = interned_small _ c.intern.new.self c.zero.result c.in_ok-place.place c.zero.ensures c.in_ok-place.ensures.place

pub answers_at-requires-2-clause-small : goal.answers_at-requires-2-clause-small
answers_at-requires-2-clause-small c = interned_small _ c.intern.new.self c.zero.result c.in_ok-place.place c.zero.ensures c.in_ok-place.ensures.place
