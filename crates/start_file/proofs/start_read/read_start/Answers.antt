-- The lines are refused, or what is made of them is.
use Rattle.std.proofs.Common.{ℕ, ◌<◌, List, All, slice_index, subst}
use Rattle.std.specs.Prelude.{IfErr, IfOk, OnOk}
use Rattle.std.proofs.lemmas.Result.{err_from_is_err_and}
use Rattle.wx_base.specs.declared.image.Segment.{Segment}
use Rattle.wx_base.specs.Cache.{IsCache}
use Rattle.start_file.specs.StartReading.{IsTextRefusal}
use Rattle.start_file.specs.StartSaid.{sets_said}
use Rattle.start_file.specs.StartMade.{IsCacheRefusal}
use Rattle.start_file.specs.StartRefusal.{IsStartOf}
use Rattle.start_file.proofs.StartCauses.{SaysAlone, text_taken_err, text_due, made_taken, made_due, made_once, made_outside}
use Rattle.start_file.proofs.StartBytes.{made_starts}
use Rattle.start_file.proofs.start_read.read_start.Goals as goal

pub returns-in_err-items-clause-taken : goal.returns-in_err-items-clause-taken
returns-in_err-items-clause-taken c items is cache =
    let p = err_from_is_err_and c.from_residual.result c.from_residual.ensures.1 in
    let at : IsTextRefusal c.args.image.now c.args.machine.now.shape c.args.bytes.now p.0 = rw p.2 c.in_err-items.ensures.refused in
    text_taken_err c.args.image.now c.args.machine.now.shape c.args.bytes.now c.from_residual.result p.0 p.1 at items is

pub returns-in_err-items-clause-due : goal.returns-in_err-items-clause-due
returns-in_err-items-clause-due c e is some =
    let p = err_from_is_err_and c.from_residual.result c.from_residual.ensures.1 in
    let at : IsTextRefusal c.args.image.now c.args.machine.now.shape c.args.bytes.now p.0 = rw p.2 c.in_err-items.ensures.refused in
    text_due c.args.image.now c.args.machine.now.shape c.args.bytes.now c.from_residual.result p.0 p.1 at e is some

pub returns-clause-once : goal.returns-clause-once
returns-clause-once c =
    let shape = c.args.machine.now.shape in
    let items = c.in_ok-items.items.items in
    let alone : SaysAlone c.args.image.now shape c.args.bytes.now items = record { is_text = c.in_ok-items.ensures.text; once = c.in_ok-items.ensures.once } in
    made_once c.args.image.now shape c.args.entry c.args.bytes.now items c.make_start.result alone
    (subst (λ items. IfOk c.make_start.result (λ start. IsStartOf c.args.entry shape items start)) c.as_slice.ensures.value c.make_start.ensures.made)

pub returns-clause-outside : goal.returns-clause-outside
returns-clause-outside c =
    let shape = c.args.machine.now.shape in
    let items = c.in_ok-items.items.items in
    made_outside c.args.image.now shape c.args.entry c.args.bytes.now items c.make_start.result c.in_ok-items.ensures.text
    (subst (λ items. IfOk c.make_start.result (λ start. IsStartOf c.args.entry shape items start)) c.as_slice.ensures.value c.make_start.ensures.made)

pub returns-clause-taken : goal.returns-clause-taken
returns-clause-taken c others is cache =
    let shape = c.args.machine.now.shape in
    let items = c.in_ok-items.items.items in
    let alone : SaysAlone c.args.image.now shape c.args.bytes.now items = record { is_text = c.in_ok-items.ensures.text; once = c.in_ok-items.ensures.once } in
    made_taken c.args.image.now shape c.args.bytes.now items c.make_start.result alone
    (subst (λ items. IfErr c.make_start.result (λ e. IsCacheRefusal shape items e)) c.as_slice.ensures.value c.make_start.ensures.refused) others is cache

pub returns-clause-due : goal.returns-clause-due
returns-clause-due c e is some =
    let shape = c.args.machine.now.shape in
    let items = c.in_ok-items.items.items in
    let alone : SaysAlone c.args.image.now shape c.args.bytes.now items = record { is_text = c.in_ok-items.ensures.text; once = c.in_ok-items.ensures.once } in
    made_due c.args.image.now shape c.args.bytes.now items c.make_start.result alone
    (subst (λ items. IfErr c.make_start.result (λ e. IsCacheRefusal shape items e)) c.as_slice.ensures.value c.make_start.ensures.refused)
    (subst (λ items. OnOk c.make_start.result (IsCache shape (sets_said shape items))) c.as_slice.ensures.value c.make_start.ensures.cache) e is some

pub returns-clause-starts : goal.returns-clause-starts
returns-clause-starts c =
    let shape = c.args.machine.now.shape in
    let items = c.in_ok-items.items.items in
    let made = subst (λ items. IfOk c.make_start.result (λ start. IsStartOf c.args.entry shape items start)) c.as_slice.ensures.value c.make_start.ensures.made in
    made_starts c.args.machine.now c.args.image.now c.args.entry items c.make_start.result
    (subst (λ (segments : List Segment). All (λ s. (k : ℕ) → slice_index s.bytes k < 256) segments) c.as_slice-segments.ensures c.segments_fit.ensures) made c.make_start.ensures.range
    (subst (λ items. OnOk c.make_start.result (IsCache shape (sets_said shape items))) c.as_slice.ensures.value c.make_start.ensures.cache)
    (made_outside c.args.image.now shape c.args.entry c.args.bytes.now items c.make_start.result c.in_ok-items.ensures.text made)
