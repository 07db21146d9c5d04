use Rattle.std.proofs.Common.{◌∙◌, ◌<◌, ℕ, false, length, inl, inr, subst, sym, ◌≡◌, arith, length-set, set}
use Rattle.std.proofs.lemmas.Bool.{cases_eq}
use Rattle.cache_pers.specs.Rows.{rows_of}
use Rattle.cache_pers.specs.Stays.{is_set_in}
use Rattle.cache_pers.proofs.RowLemmas.{set_here, set_there, square_set, row_length}
use Rattle.cache_pers.proofs.rows.clear_each.Goals as goal

pub loop-i-preserved : goal.loop-i-preserved
loop-i-preserved c =
    let within : c.loop-i.i < length c.loop-i.rows = omega (arith, c.loop-i.auto.rows, c.loop-i-test.true) in
    record {
      count = length-set c.loop-i.rows c.loop-i.i c.clear_row.new.row ∙ c.loop-i.invariant.count;
      square = square_set c.loop-i.rows c.loop-i.i (length c.args.rows.now) c.clear_row.new.row
          ((rw (← c.index-rows-i.is) at c.clear_row.ensures.same) ∙ row_length c.loop-i.rows c.loop-i.i (length c.args.rows.now) c.index-rows-i.result within c.index-rows-i.is c.loop-i.invariant.square)
          c.loop-i.invariant.square;
      done = λ i k lt. elim (cases_eq i c.loop-i.i) [
        | inl same ↦ subst (λ (n : ℕ). is_set_in (rows_of (set c.loop-i.rows c.loop-i.i c.clear_row.new.row)) n k ≡ false) (sym same)
            (set_here c.loop-i.rows c.loop-i.i c.index-rows-i.result c.clear_row.new.row within c.index-rows-i.is k ∙ c.clear_row.ensures.each k)
        | inr ne ↦ set_there c.loop-i.rows c.loop-i.i c.index-rows-i.result c.clear_row.new.row within c.index-rows-i.is i k ne ∙ c.loop-i.invariant.done i k (omega (arith, ne))
      ];
    }
