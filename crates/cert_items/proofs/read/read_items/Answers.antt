use Rattle.std.proofs.Common.{◌≡◌, ◌<◌, ◌+◌, [], ◌∷◌, ◌++◌, length, true, Some, refl, sym, ap, subst, ◌∙◌, arith}
use Rattle.std.specs.Prelude.{slice_get, IfSome}
use Rattle.std.proofs.lemmas.List.{length-map}
use Rattle.std.proofs.lemmas.Option.{slice_get-get_or, none-some, same_Some}
use Rattle.cert_lines.specs.Reading.{line_of, lines_of}
use Rattle.cert_items.specs.Said.{IsSaid}
use Rattle.cert_items.specs.Order.{is_in_order}
use Rattle.cert_items.specs.Judged.{IsJudged}
use Rattle.cert_items.specs.Counts.{AreCounts}
use Rattle.cert_items.proofs.FaultLemmas.{row_line, none_judged, judged_more, counts_more, number_due, number_taken, order_due, order_taken, none_due, all_once, size_more, Alone}
use Rattle.cert_items.proofs.read.read_items.Goals as goal

pub loop-index-init : goal.loop-index-init
loop-index-init c = record {
  judged = subst (IsJudged (lines_of c.args.rows.now)) (sym c.new-items.ensures.items) (none_judged (lines_of c.args.rows.now));
  count = ap length c.new-items.ensures.items;
  counts = rw c.new-items.ensures.items (record { nodes = refl; listed = refl; multipliers = refl });
  marks = record {
    size = c.in_ok-marks.ensures.length ∙ sym (length-map c.args.rows.now line_of);
    each = λ place small. c.in_ok-marks.ensures.marks place (subst (λ n. place < n) (length-map c.args.rows.now line_of) small);
  };
}

-- ---- no item
pub returns-in_default-clause-refused : goal.returns-in_default-clause-refused
returns-in_default-clause-refused c =
    let i = c.loop-index.invariant in
    let here = row_line c.args.rows.now c.loop-index.index c.index-rows-index.result (slice_get-get_or c.args.rows.now c.loop-index.index c.index-rows-index.result c.loop-index-test.true ∙ ap Some (sym c.index-rows-index.is)) in
    record {
      before = c.loop-index.items.items;
      so = i.judged.so;
      counted = ap (λ n. n + 1) (sym i.count);
      line = line_of c.index-rows-index.result;
      here = ap (slice_get (lines_of c.args.rows.now)) i.count ∙ here;
      fault = λ x said. none-some x (sym c.in_default.is ∙ c.in_ok-item.ensures.complete x said);
    }

pub returns-in_default-clause-taken : goal.returns-in_default-clause-taken
unfolding returns-in_default-clause-refused
returns-in_default-clause-taken c = λ others all. absurd (number_taken (lines_of c.args.rows.now) c.loop-index.items.items others (c.loop-index.index + 1) (returns-in_default-clause-refused c) refl all)

pub returns-in_default-clause-due : goal.returns-in_default-clause-due
unfolding returns-in_default-clause-refused
returns-in_default-clause-due c = number_due (lines_of c.args.rows.now) c.loop-index.items.items (c.loop-index.index + 1) c.loop-index.invariant.judged (returns-in_default-clause-refused c) refl

-- ---- an item out of order
pub returns-then-not-is_in_order-clause-refused : goal.returns-then-not-is_in_order-clause-refused
returns-then-not-is_in_order-clause-refused c =
    let i = c.loop-index.invariant in
    let lines = lines_of c.args.rows.now in
    let here = row_line c.args.rows.now c.loop-index.index c.index-rows-index.result (slice_get-get_or c.args.rows.now c.loop-index.index c.index-rows-index.result c.loop-index-test.true ∙ ap Some (sym c.index-rows-index.is)) in
    let said : IsSaid (line_of c.index-rows-index.result) c.in-Some.item = subst (λ o. IfSome o (IsSaid (line_of c.index-rows-index.result))) c.in-Some.is c.in_ok-item.ensures.sound in
    record {
      before = c.loop-index.items.items;
      so = i.judged.so;
      counted = ap (λ n. n + 1) (sym i.count);
      line = line_of c.index-rows-index.result;
      here = ap (slice_get lines) i.count ∙ here;
      tells = c.in-Some.item;
      said = said;
      fault = ap (λ l. is_in_order lines l c.in-Some.item) (sym c.as_slice-in-loop-index.ensures.value) ∙ sym c.is_in_order.ensures ∙ c.if-not-is_in_order.true;
    }

pub returns-then-not-is_in_order-clause-taken : goal.returns-then-not-is_in_order-clause-taken
unfolding returns-then-not-is_in_order-clause-refused
returns-then-not-is_in_order-clause-taken c = λ others all.
    absurd (order_taken (lines_of c.args.rows.now) c.loop-index.items.items others (c.loop-index.index + 1) c.loop-index.invariant.judged (returns-then-not-is_in_order-clause-refused c) refl
    (λ y said. same_Some c.in-Some.item y (sym c.in-Some.is ∙ c.in_ok-item.ensures.complete y said)) all)

pub returns-then-not-is_in_order-clause-due : goal.returns-then-not-is_in_order-clause-due
unfolding returns-then-not-is_in_order-clause-refused
returns-then-not-is_in_order-clause-due c =
    order_due (lines_of c.args.rows.now) c.loop-index.items.items (c.loop-index.index + 1) c.loop-index.invariant.judged (returns-then-not-is_in_order-clause-refused c) refl
    (λ y said. same_Some c.in-Some.item y (sym c.in-Some.is ∙ c.in_ok-item.ensures.complete y said))

-- ---- one line more
pub loop-index-preserved : goal.loop-index-preserved
loop-index-preserved c =
    let i = c.loop-index.invariant in
    let lines = lines_of c.args.rows.now in
    let items = c.loop-index.items.items in
    let line = line_of c.index-rows-index.result in
    let here = row_line c.args.rows.now c.loop-index.index c.index-rows-index.result (slice_get-get_or c.args.rows.now c.loop-index.index c.index-rows-index.result c.loop-index-test.true ∙ ap Some (sym c.index-rows-index.is)) in
    let said : IsSaid line c.in-Some.item = subst (λ o. IfSome o (IsSaid line)) c.in-Some.is c.in_ok-item.ensures.sound in
    let order : is_in_order lines items c.in-Some.item ≡ true = ap (λ l. is_in_order lines l c.in-Some.item) (sym c.as_slice-in-loop-index.ensures.value) ∙ sym c.is_in_order.ensures ∙ c.if-not-is_in_order.false in
    let one : Alone line c.in-Some.item = λ y is. same_Some c.in-Some.item y (sym c.in-Some.is ∙ c.in_ok-item.ensures.complete y is) in
    let pushed : c.push.new.self.items ≡ items ++ c.in-Some.item ∷ [] = c.in_ok-push.ensures.items in
    record {
      judged = subst (IsJudged lines) (sym pushed) (judged_more lines items line c.in-Some.item i.judged (ap (slice_get lines) i.count ∙ here) said order one);
      count = ap length pushed ∙ size_more items c.in-Some.item ∙ ap (λ n. n + 1) i.count;
      counts = subst (AreCounts c.counted_with-counts.result) (sym pushed) (counts_more c.loop-index.counts c.counted_with-counts.result items c.in-Some.item i.counts c.counted_with-counts.ensures.nodes c.counted_with-counts.ensures.listed c.counted_with-counts.ensures.multipliers);
      marks = i.marks;
    }

-- ---- all lines
pub returns-clause-once : goal.returns-clause-once
returns-clause-once c = λ others all.
    let n = length-map c.args.rows.now line_of in
    all_once (lines_of c.args.rows.now) c.loop-index.items.items others c.loop-index.invariant.judged (omega (arith, n, c.loop-index.invariant.count, c.loop-index-test.false)) all

pub returns-clause-due : goal.returns-clause-due
returns-clause-due c =
    let n = length-map c.args.rows.now line_of in
    none_due (lines_of c.args.rows.now) c.loop-index.items.items c.loop-index.invariant.judged (omega (arith, n, c.loop-index.invariant.count, c.loop-index-test.false))
