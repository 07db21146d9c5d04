use Rattle.test_blocks.proofs.trials.outcomes_of.Goals as goal

pub returns : goal.returns
returns c = c.in_ok-found.ensures.outcomes.diagrams 12 c.in_ok-e.ensures
