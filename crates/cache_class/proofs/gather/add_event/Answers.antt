use Rattle.cache_class.specs.GroupsSoFar.{group_of}
use Rattle.cache_class.proofs.KeyLemmas.{event_added}
use Rattle.cache_class.proofs.gather.add_event.Goals as goal

pub returns : goal.returns
returns c =
    event_added c.args.set.now c.insert.new.self c.in-Some.key (group_of c.args.slot.now.kind c.args.class.now) c.in_ok-insert.ensures.updates c.in-Some.ensures
