use Rattle.std.proofs.Common.{◌≡◌, ◌-◌, ap, subst, sym, ◌∙◌, Some, length}
use Rattle.std.specs.List.{slice_get}
use Rattle.std.proofs.lemmas.Bool.{false≢true}
use Rattle.std.proofs.lemmas.Result.{err_from_is_err_and}
use Rattle.start_file.specs.declared.start_item.Item.TheVariants as item
use Rattle.start_file.proofs.StartFronts.{HasParts, no_parts, refused_at, unended_at}
use Rattle.start_file.proofs.start_text.read_items.Goals as goal

pub returns-in_default-clause-refused : goal.returns-in_default-clause-refused
returns-in_default-clause-refused c =
    absurd (no_parts c.args.bytes.now c.in_ok-parts.parts.items c.in_ok-parts.ensures (ap length (sym c.deref.ensures.value) ∙ c.in_default.ensures.cases))

pub returns-in_err-items-clause-refused : goal.returns-in_err-items-clause-refused
returns-in_err-items-clause-refused c =
    let has : HasParts c.args.bytes.now c.in_ok-parts.parts.items c.in-Some.lines.now c.in-Some.rest.now =
    record { parts = c.in_ok-parts.ensures; cut = sym c.deref.ensures.value ∙ c.in-Some.ensures.cases.0 } in
    let p = err_from_is_err_and c.from_residual-in_err-items.result c.from_residual-in_err-items.ensures.1 in
    rw (p.1, p.2) (refused_at c.args.image.now c.args.shape c.args.bytes.now c.in_ok-parts.parts.items c.in-Some.lines.now c.in-Some.rest.now c.in_err-items.field-0.0 has c.in_err-items.ensures.refused)

pub returns-clause-refused : goal.returns-clause-refused
returns-clause-refused c =
    let has : HasParts c.args.bytes.now c.in_ok-parts.parts.items c.in-Some.lines.now c.in-Some.rest.now =
    record { parts = c.in_ok-parts.ensures; cut = sym c.deref.ensures.value ∙ c.in-Some.ensures.cases.0 } in
    unended_at c.args.image.now c.args.shape c.args.bytes.now c.in_ok-parts.parts.items c.in-Some.lines.now c.in-Some.rest.now c.in_ok-items.items.items has c.in_ok-items.ensures.read
    (λ empty ends.
    false≢true (sym c.if-is_ended.false ∙ c.is_ended.ensures.1 (empty, subst (λ l. slice_get l (length l - 1) ≡ Some item.End) (sym c.as_slice.ensures.value) ends)))
