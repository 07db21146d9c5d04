use Rattle.std.proofs.Common.{◌∙◌, length, sym, ap, arith}
use Rattle.std.proofs.lemmas.Bool.{false≢true}
use Rattle.cache_pers.specs.Stays.{is_set_at}
use Rattle.cache_pers.proofs.RowLemmas.{row_length, row_at}
use Rattle.cache_pers.proofs.rows.are_covered.Goals as goal
use Rattle.cache_pers.proofs.rows.are_covered.Goals.{then-other_known-i, else-other_known-i}

pub is_within-requires : goal.is_within-requires
is_within-requires c =
    ap length c.as_slice.ensures.value
    ∙ row_length c.args.rows.now c.loop-i.i (length c.args.rows.now) c.index-rows-i.result (omega arith) c.index-rows-i.is c.requires.square
    ∙ sym (ap length c.as_slice-then-other_known-i.ensures.value
    ∙ row_length c.args.others.now c.loop-i.i (length c.args.rows.now) c.index-others-i.result (omega (arith, c.requires.others)) c.index-others-i.is c.requires.other_square)

pub returns-then-not-is_within : goal.returns-then-not-is_within
returns-then-not-is_within c = (
  λ e. absurd (false≢true e),
  λ all.
      let here = all c.loop-i.i c.loop-i-test.true c.if-known-i.true in
      elim c.if-other_known-i.branch [
        | then-other_known-i w ↦ sym c.if-not-is_within.true ∙ w.value-is ∙ w.is_within.ensures.1 (λ k h.
            ap (λ row. is_set_at row k) (w.as_slice-then-other_known-i.ensures.value ∙ sym (row_at c.args.others.now c.loop-i.i w.index-others-i.result (omega (arith, c.requires.others)) w.index-others-i.is))
            ∙ here.1 k (ap (λ row. is_set_at row k) (row_at c.args.rows.now c.loop-i.i c.index-rows-i.result (omega arith) c.index-rows-i.is ∙ sym w.as_slice.ensures.value) ∙ h))
        | else-other_known-i w ↦ sym w.if-other_known-i.false ∙ here.0
      ],
)
