use Rattle.std.proofs.Common.{◌∙◌, ◌||◌, ◌<◌, length, sym, ap, arith}
use Rattle.cache_pers.specs.Rows.{rows_of}
use Rattle.cache_pers.specs.Stays.{is_set_in, is_set_at}
use Rattle.cache_pers.proofs.RowLemmas.{set_done, set_rest, square_set, row_length, row_at}
use Rattle.cache_pers.proofs.rows.unite_each.Goals as goal

pub unite_row-requires : goal.unite_row-requires
unite_row-requires c =
    let within : c.loop-i.i < length c.loop-i.rows = omega (arith, c.loop-i.auto.rows, c.requires.rows, c.loop-i-test.true) in
    rw (← c.index-rows-i.is) (row_length c.loop-i.rows c.loop-i.i (length c.args.others.now) c.index-rows-i.result within c.index-rows-i.is c.loop-i.invariant.square
    ∙ sym (ap length c.as_slice.ensures.value ∙ row_length c.args.others.now c.loop-i.i (length c.args.others.now) c.index-others-i.result (omega arith) c.index-others-i.is c.requires.other_square))

pub loop-i-preserved : goal.loop-i-preserved
loop-i-preserved c =
    let within : c.loop-i.i < length c.loop-i.rows = omega (arith, c.loop-i.auto.rows, c.requires.rows, c.loop-i-test.true) in
    record {
      square = square_set c.loop-i.rows c.loop-i.i (length c.args.others.now) c.unite_row.new.row
          ((rw (← c.index-rows-i.is) at c.unite_row.ensures.same) ∙ row_length c.loop-i.rows c.loop-i.i (length c.args.others.now) c.index-rows-i.result within c.index-rows-i.is c.loop-i.invariant.square)
          c.loop-i.invariant.square;
      done = set_done c.loop-i.rows c.loop-i.i c.index-rows-i.result c.unite_row.new.row within c.index-rows-i.is
          (λ i k before. before || is_set_in (rows_of c.args.others.now) i k)
          c.args.rows.now
          (λ k. (rw (← c.index-rows-i.is, c.as_slice.ensures.value) at c.unite_row.ensures.each) k
          ∙ ap (λ row. is_set_at c.index-rows-i.result.items k || is_set_at row k) (sym (row_at c.args.others.now c.loop-i.i c.index-others-i.result (omega arith) c.index-others-i.is)))
          c.loop-i.invariant.done c.loop-i.invariant.rest;
      rest = set_rest c.loop-i.rows c.loop-i.i c.index-rows-i.result c.unite_row.new.row within c.index-rows-i.is c.args.rows.now c.loop-i.invariant.rest;
    }
