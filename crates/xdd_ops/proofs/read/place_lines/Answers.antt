use Rattle.std.proofs.Common.{arith, refl}
use Rattle.xdd_ops.proofs.ApplyLemmas.{keeps_twice, keeps_self}
use Rattle.xdd_ops.proofs.PlaceLemmas.{can_place_at, placed_at}
use Rattle.xdd_ops.proofs.RefusalLemmas.{needed, first_unreduced}
use Rattle.xdd_ops.proofs.read.place_lines.Goals as goal

pub place_line-requires : goal.place_line-requires
place_line-requires c = rw c.as_slice.ensures.keys
    (can_place_at c.loop-index.table c.args.lines.now c.loop-index.places.keys c.loop-index.index c.loop-index.invariant.placed c.requires c.loop-index.invariant.counted c.loop-index-test.true)

pub returns-in_err-d-clause-kept : goal.returns-in_err-d-clause-kept
returns-in_err-d-clause-kept c = keeps_twice c.args.table.now c.loop-index.table c.place_line.new.table c.loop-index.invariant.kept c.place_line.ensures.kept

pub returns-in_err-position-clause-kept : goal.returns-in_err-position-clause-kept
returns-in_err-position-clause-kept c = keeps_twice c.args.table.now c.loop-index.table c.place_line.new.table c.loop-index.invariant.kept c.place_line.ensures.kept

pub returns-then-position-index-clause-kept : goal.returns-then-position-index-clause-kept
returns-then-position-index-clause-kept c = keeps_twice c.args.table.now c.loop-index.table c.place_line.new.table c.loop-index.invariant.kept c.place_line.ensures.kept

pub loop-index-preserved : goal.loop-index-preserved
loop-index-preserved c =
    let n = placed_at c.loop-index.table c.place_line.new.table c.args.lines.now c.loop-index.places.keys c.insert_full.new.self.keys c.loop-index.index c.in_ok-d.d.place _
    c.loop-index.invariant.placed c.requires c.place_line.ensures.kept c.loop-index.invariant.counted c.loop-index-test.true
    (rw c.as_slice.ensures.keys at c.in_ok-d.ensures.place) c.in_ok-d.ensures.within c.in_ok-position.ensures.keys (rw c.if-position-index.false at c.in_ok-position.ensures.stored.1) in
    record {
      kept = keeps_twice c.args.table.now c.loop-index.table c.place_line.new.table c.loop-index.invariant.kept c.place_line.ensures.kept;
      placed = n.0;
      counted = omega (arith, n.1, c.loop-index.invariant.counted);
      reduced = λ k h u.
          needed c.place_line.new.table c.args.lines.now c.insert_full.new.self.keys n.0 c.requires c.place_line.new.table (keeps_self c.place_line.new.table) c.place_line.ensures.table
          (omega (arith, n.1, c.loop-index.invariant.counted, c.loop-index-test.true)) k (omega (arith, n.1, c.loop-index.invariant.counted)) u;
      table = λ h. c.place_line.ensures.table;
    }

pub returns-then-position-index-clause-refused : goal.returns-then-position-index-clause-refused
returns-then-position-index-clause-refused c =
    first_unreduced c.loop-index.table c.args.lines.now c.loop-index.places.keys c.loop-index.invariant.placed c.requires c.place_line.new.table c.insert_full.new.self.keys c.loop-index.index c.in_ok-d.d.place _
    c.in_ok-position.position _ c.place_line.ensures.kept c.place_line.ensures.table c.loop-index.invariant.counted c.loop-index-test.true (rw c.as_slice.ensures.keys at c.in_ok-d.ensures.place)
    c.in_ok-position.ensures.keys c.in_ok-position.ensures.stored.1 c.in_ok-position.ensures.stored.2 c.if-position-index.true refl

pub returns-clause-reduced : goal.returns-clause-reduced
returns-clause-reduced c = record { each = λ i h u. c.loop-index.invariant.reduced i (omega arith) u }

pub returns-clause-table : goal.returns-clause-table
returns-clause-table c = λ h. c.loop-index.invariant.table (omega arith)
