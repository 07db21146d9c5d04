use Rattle.test_blocks.proofs.many.count_outcomes.Goals as goal

pub outcomes-requires : goal.outcomes-requires
outcomes-requires c = c.in_ok-next.ensures.exits.diagrams 12 c.in_ok-times.ensures.few
