use Rattle.test_blocks.proofs.trials.exit_of.Goals as goal

pub returns-2 : goal.returns-2
returns-2 c = c.in_ok-e.ensures.exits.diagrams 12 c.in_ok-times.ensures
