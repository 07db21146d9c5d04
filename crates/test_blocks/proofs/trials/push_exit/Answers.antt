use Rattle.std.proofs.lemmas.List.Elements.{All-tail}
use Rattle.pipe_block.specs.Times.{IsDiagram}
use Rattle.test_blocks.proofs.trials.push_exit.Goals as goal

pub vector_at-requires-clause-diagrams : goal.vector_at-requires-clause-diagrams
vector_at-requires-clause-diagrams c = All-tail (IsDiagram c.args.table.now 12) c.args.exit.now.cost c.args.exit.now.slots c.requires.diagrams
