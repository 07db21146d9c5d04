use Rattle.std.proofs.Common.{get_or, eqb, false, length, ◌∙◌, ◌<◌, arith}
use Rattle.cache_pers.specs.Stays.{noted}
use Rattle.cache_pers.proofs.RowLemmas.{set_done, set_rest, square_set, row_length}
use Rattle.cache_pers.proofs.rows.note_each.Goals as goal

pub loop-i-preserved : goal.loop-i-preserved
loop-i-preserved c =
    let within : c.loop-i.i < length c.loop-i.rows = omega (arith, c.loop-i.auto.rows, c.requires.rows, c.loop-i-test.true) in
    record {
      square = square_set c.loop-i.rows c.loop-i.i (length c.args.lines.now) c.note.new.row
          ((rw (← c.index-rows-i.is) at c.note.ensures.same) ∙ row_length c.loop-i.rows c.loop-i.i (length c.args.lines.now) c.index-rows-i.result within c.index-rows-i.is c.loop-i.invariant.square)
          c.loop-i.invariant.square;
      done = set_done c.loop-i.rows c.loop-i.i c.index-rows-i.result c.note.new.row within c.index-rows-i.is
          (λ i k before. noted c.args.access.shape (get_or c.args.lines.now i 0) (get_or c.args.known.now i false) c.args.access.line (eqb k c.args.access.at) before)
          c.args.rows.now (rw (← c.index-rows-i.is) at c.note.ensures.each) c.loop-i.invariant.done c.loop-i.invariant.rest;
      rest = set_rest c.loop-i.rows c.loop-i.i c.index-rows-i.result c.note.new.row within c.index-rows-i.is c.args.rows.now c.loop-i.invariant.rest;
    }
