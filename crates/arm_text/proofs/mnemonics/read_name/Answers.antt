-- Only one name is the text.
use Rattle.std.proofs.Common.{◌≡◌, Some, slice_index_or, sym, ◌∙◌, ap, arith}
use Rattle.std.specs.Prelude.{false}
use Rattle.arm_text.specs.declared.mnemonics.Name.TheVariants as name_of
use Rattle.arm_text.specs.Mnemonics.{names, name_text}
use Rattle.arm_text.proofs.OneName.{one_item}
use Rattle.arm_text.proofs.mnemonics.read_name.Goals as goal

pub returns-then-spells-clause-complete : goal.returns-then-spells-clause-complete
returns-then-spells-clause-complete c name among same =
    let table : c.names-name-items.result ≡ names = c.names-name-items.ensures in
    ap Some (one_item c.names-name-items.result c.loop-name.name-index (name_of.Alu 0 false) name c.args.text.now table
    c.loop-name-test.true among (c.spells.ensures.0 c.if-spells.true) same)

pub returns-clause-complete : goal.returns-clause-complete
returns-clause-complete c name among same =
    let table : c.names-name-items.result ≡ names = c.names-name-items.ensures in
    absurd (c.loop-name.invariant among.0 name (omega (arith, c.loop-name-test.false, among.1))
    (same ∙ ap name_text (sym among.2) ∙ ap (λ items. name_text (slice_index_or items among.0 name)) (sym table)))
