use Rattle.std.proofs.Common.{◌≡◌, length}
use Rattle.xdd_table.specs.Diagram.{Keeps}
use Rattle.pipe_block.specs.Rows.{AreBuilt}
use Rattle.pipe_block.proofs.columns.rebuild.Given as goal

abbrev pub invariant-loop-place : goal.invariant-loop-place
invariant-loop-place l = record {
  long : length l.built.items ≡ l.place;
  built : AreBuilt l.plan l.table l.times l.built.items;
  kept : Keeps l.initial.table l.table;
}
