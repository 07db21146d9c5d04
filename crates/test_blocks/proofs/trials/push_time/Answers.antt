use Rattle.std.proofs.lemmas.List.Elements.{All-tail}
use Rattle.pipe_block.specs.Times.{IsDiagram}
use Rattle.test_blocks.proofs.trials.push_time.Goals as goal

pub vector_at-requires-clause-diagrams : goal.vector_at-requires-clause-diagrams
vector_at-requires-clause-diagrams c = All-tail (IsDiagram c.args.table.now 12) c.args.times.now.last c.args.times.now.slots c.requires.diagrams
