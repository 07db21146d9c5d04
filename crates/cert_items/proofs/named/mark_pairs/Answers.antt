use Rattle.std.proofs.Common.{◌<◌, ◌≤◌, ◌+◌, ◌*◌, ◌/◌, length, false, sym, subst, ◌∙◌, arith}
use Rattle.std.specs.Prelude.{slice_index_or}
use Rattle.cert_items.proofs.NamedLemmas.{mark_more, mark_all}
use Rattle.cert_items.proofs.named.mark_pairs.Goals as goal

pub loop-at-preserved : goal.loop-at-preserved
loop-at-preserved c =
    let inside : 2 * c.loop-at.at + 1 < length c.args.words.now = omega (arith, c.loop-at-test.true) in
    record {
      end = c.loop-at.invariant.end;
      size = c.mark.ensures.length ∙ c.loop-at.invariant.size;
      marks = λ j small. mark_more c.args.words.now c.loop-at.at j (slice_index_or c.args.marks.now j false) (slice_index_or c.loop-at.marks j false) (slice_index_or c.mark.new.marks j false) inside
          (c.loop-at.invariant.marks j small) (c.mark.ensures.marks j (subst (λ n. j < n) (sym c.loop-at.invariant.size) small));
    }

pub returns-clause-marks : goal.returns-clause-marks
returns-clause-marks c = λ j small.
    let over : length c.args.words.now / 2 ≤ c.loop-at.at = omega (arith, c.loop-at-test.false) in
    mark_all c.args.words.now c.loop-at.at j (slice_index_or c.args.marks.now j false) (slice_index_or c.loop-at.marks j false) over (c.loop-at.invariant.marks j small)
