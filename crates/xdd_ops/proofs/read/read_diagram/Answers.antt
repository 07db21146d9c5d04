use Rattle.std.proofs.Common.{Ok, Err, IfOk, get_or, ◌+◌, ◌-◌, rules, ◌≡◌, ◌≢◌, ℕ, ◌<◌, length, slice_get, IfErr, refl}
use Rattle.std.proofs.lemmas.Result.{err_from_is_err_and}
use Rattle.xdd_ops.specs.Read.{HasLines, ArePlaced}
use Rattle.xdd_ops.specs.Refusal.{IsDiagramText, IsRefusal}
use Rattle.xdd_ops.specs.declared.diagram_error.DiagramError.TheVariants.{Order}
use Rattle.xdd_ops.proofs.PlaceLemmas.{root_within}
use Rattle.xdd_ops.proofs.AnswerLemmas.{due, text_read, text_taken, out_of_order, taken, only_memory, again_refused, same_root}
use Rattle.xdd_ops.proofs.PrintedLemmas.{printed_is_text}
use Rattle.xdd_ops.proofs.read.read_diagram.Goals as goal

pub returns-in_err-lines-clause-taken : goal.returns-in_err-lines-clause-taken
returns-in_err-lines-clause-taken c =
    let h : IfErr c.from_residual.result (IsRefusal c.args.bytes.now) = search rules in
    taken c.from_residual.result c.args.bytes.now h

pub returns-in_err-lines-clause-again : goal.returns-in_err-lines-clause-again
returns-in_err-lines-clause-again c =
    let h : IfErr c.from_residual.result (IsRefusal c.args.bytes.now) = search rules in
    let e = err_from_is_err_and c.from_residual.result c.from_residual.ensures.1 in
    again_refused c.args.table.now c.from_residual.result e.0 c.args.bytes.now e.1 h

pub returns-in_err-places-clause-taken : goal.returns-in_err-places-clause-taken
returns-in_err-places-clause-taken c =
    let h : IfErr c.from_residual-in_err-places.result (IsRefusal c.args.bytes.now) = search rules in
    taken c.from_residual-in_err-places.result c.args.bytes.now h

pub returns-in_err-places-clause-again : goal.returns-in_err-places-clause-again
returns-in_err-places-clause-again c =
    let h : IfErr c.from_residual-in_err-places.result (IsRefusal c.args.bytes.now) = search rules in
    let e = err_from_is_err_and c.from_residual-in_err-places.result c.from_residual-in_err-places.ensures.1 in
    again_refused c.args.table.now c.from_residual-in_err-places.result e.0 c.args.bytes.now e.1 h

pub order-requires : goal.order-requires
order-requires c =
    let all : ArePlaced c.place_lines.new.table c.as_slice.result.now c.as_slice-places.result.now = rw c.as_slice-places.ensures.keys c.in_ok-places.ensures.placed in
    let has_lines : HasLines c.args.bytes.now c.as_slice.result.now = rw c.as_slice.ensures.value c.in_ok-lines.ensures.lines in
    let count : length c.as_slice-places.result.now ≡ length c.as_slice.result.now = rw c.as_slice-places.ensures.keys c.in_ok-places.ensures.count in
    root_within c.place_lines.new.table c.as_slice.result.now c.as_slice-places.result.now all c.args.bytes.now has_lines count

pub returns-in-Some-clause-refused : goal.returns-in-Some-clause-refused
returns-in-Some-clause-refused c =
    let all : ArePlaced c.place_lines.new.table c.as_slice.result.now c.as_slice-places.result.now = rw c.as_slice-places.ensures.keys c.in_ok-places.ensures.placed in
    let has_lines : HasLines c.args.bytes.now c.as_slice.result.now = rw c.as_slice.ensures.value c.in_ok-lines.ensures.lines in
    let count : length c.as_slice-places.result.now ≡ length c.as_slice.result.now = rw c.as_slice-places.ensures.keys c.in_ok-places.ensures.count in
    let differs : slice_get c.in_ok-order.order c.in-Some.index ≢ slice_get c.as_slice-places.result.now c.in-Some.index = rw (← c.places-2.ensures) c.in-Some.ensures.other in
    let first : (k : ℕ) → k < c.in-Some.index → slice_get c.in_ok-order.order k ≡ slice_get c.as_slice-places.result.now k = rw (← c.places-2.ensures) c.in-Some.ensures.first in
    out_of_order c.place_lines.new.table c.as_slice.result.now c.as_slice-places.result.now all c.args.bytes.now has_lines c.in_ok-places.ensures.reduced count c.in_ok-order.order c.in_ok-order.ensures.walk c.in-Some.index _ refl c.in-Some.ensures.within differs first

pub returns-in-Some-clause-taken : goal.returns-in-Some-clause-taken
returns-in-Some-clause-taken c = λ t. only_memory c.args.bytes.now t _ (returns-in-Some-clause-refused c)

pub returns-in-Some-clause-again : goal.returns-in-Some-clause-again
returns-in-Some-clause-again c = λ p t. only_memory c.args.bytes.now (printed_is_text c.args.table.now p c.args.bytes.now t) _ (returns-in-Some-clause-refused c)

pub returns-clause-read : goal.returns-clause-read
returns-clause-read c =
    let all : ArePlaced c.place_lines.new.table c.as_slice.result.now c.as_slice-places.result.now = rw c.as_slice-places.ensures.keys c.in_ok-places.ensures.placed in
    let has_lines : HasLines c.args.bytes.now c.as_slice.result.now = rw c.as_slice.ensures.value c.in_ok-lines.ensures.lines in
    let count : length c.as_slice-places.result.now ≡ length c.as_slice.result.now = rw c.as_slice-places.ensures.keys c.in_ok-places.ensures.count in
    let same : (k : ℕ) → k < length c.as_slice-places.result.now → slice_get c.in_ok-order.order k ≡ slice_get c.as_slice-places.result.now k = rw (← c.places-2.ensures) c.in_default.ensures.same in
    text_read c.place_lines.new.table c.as_slice.result.now c.as_slice-places.result.now all c.args.bytes.now has_lines c.in_ok-places.ensures.reduced count c.in_ok-order.order c.in_ok-order.ensures.walk (c.in_ok-places.ensures.table has_lines.some) c.in_ok-order.ensures.below same

pub returns-clause-within : goal.returns-clause-within
returns-clause-within c =
    let all : ArePlaced c.place_lines.new.table c.as_slice.result.now c.as_slice-places.result.now = rw c.as_slice-places.ensures.keys c.in_ok-places.ensures.placed in
    let has_lines : HasLines c.args.bytes.now c.as_slice.result.now = rw c.as_slice.ensures.value c.in_ok-lines.ensures.lines in
    let count : length c.as_slice-places.result.now ≡ length c.as_slice.result.now = rw c.as_slice-places.ensures.keys c.in_ok-places.ensures.count in
    root_within c.place_lines.new.table c.as_slice.result.now c.as_slice-places.result.now all c.args.bytes.now has_lines count

pub returns-clause-grammar : goal.returns-clause-grammar
returns-clause-grammar c =
    let all : ArePlaced c.place_lines.new.table c.as_slice.result.now c.as_slice-places.result.now = rw c.as_slice-places.ensures.keys c.in_ok-places.ensures.placed in
    let has_lines : HasLines c.args.bytes.now c.as_slice.result.now = rw c.as_slice.ensures.value c.in_ok-lines.ensures.lines in
    let count : length c.as_slice-places.result.now ≡ length c.as_slice.result.now = rw c.as_slice-places.ensures.keys c.in_ok-places.ensures.count in
    let same : (k : ℕ) → k < length c.as_slice-places.result.now → slice_get c.in_ok-order.order k ≡ slice_get c.as_slice-places.result.now k = rw (← c.places-2.ensures) c.in_default.ensures.same in
    text_taken c.place_lines.new.table c.as_slice.result.now c.as_slice-places.result.now all c.args.bytes.now has_lines c.in_ok-places.ensures.reduced count c.in_ok-order.order c.in_ok-order.ensures.walk same

pub returns-clause-again : goal.returns-clause-again
returns-clause-again c = λ p t.
    let all : ArePlaced c.place_lines.new.table c.as_slice.result.now c.as_slice-places.result.now = rw c.as_slice-places.ensures.keys c.in_ok-places.ensures.placed in
    let has_lines : HasLines c.args.bytes.now c.as_slice.result.now = rw c.as_slice.ensures.value c.in_ok-lines.ensures.lines in
    let count : length c.as_slice-places.result.now ≡ length c.as_slice.result.now = rw c.as_slice-places.ensures.keys c.in_ok-places.ensures.count in
    same_root c.args.table.now c.place_lines.new.table c.as_slice.result.now c.as_slice-places.result.now p c.args.bytes.now c.place_lines.ensures.kept (c.in_ok-places.ensures.table has_lines.some) all has_lines count t

pub returns-in_err-lines-clause-due : goal.returns-in_err-lines-clause-due
returns-in_err-lines-clause-due c =
    let h : IfErr c.from_residual.result (IsRefusal c.args.bytes.now) = search rules in
    let t : IfOk c.from_residual.result (λ d. IsDiagramText c.args.bytes.now) = search rules in
    due c.args.bytes.now c.from_residual.result h t

pub returns-in_err-places-clause-due : goal.returns-in_err-places-clause-due
returns-in_err-places-clause-due c =
    let h : IfErr c.from_residual-in_err-places.result (IsRefusal c.args.bytes.now) = search rules in
    let t : IfOk c.from_residual-in_err-places.result (λ d. IsDiagramText c.args.bytes.now) = search rules in
    due c.args.bytes.now c.from_residual-in_err-places.result h t

pub returns-in-Some-clause-due : goal.returns-in-Some-clause-due
returns-in-Some-clause-due c = due c.args.bytes.now (Err (Order (c.in-Some.index + 2))) (returns-in-Some-clause-refused c) tt

pub returns-clause-due : goal.returns-clause-due
returns-clause-due c = due c.args.bytes.now (Ok (record { place = get_or c.as_slice-places.result.now (length c.as_slice-places.result.now - 1) 0 })) tt (returns-clause-grammar c)
