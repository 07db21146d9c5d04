use Rattle.std.proofs.Common.{◌≡◌, sym, ◌∙◌, arith}
use Rattle.std.proofs.lemmas.Option.{same_Some}
use Rattle.cert_rules.specs.Rules.{PaysFinish}
use Rattle.cert_check.specs.Judging.{FamilyPays, NamesPlace, VectorPaysFinish}
use Rattle.cert_check.proofs.BreakLemmas.{handed_on}
use Rattle.cert_check.proofs.NameLemmas.{names_alike}
use Rattle.cert_check.proofs.PayLemmas.{family_small, finish_rule, rule_finish}
use Rattle.cert_check.proofs.StayLemmas.{keeps_twice}
use Rattle.cert_check.proofs.finishes.node_finishes.Goals as goal

pub classes_at-requires : goal.classes_at-requires
classes_at-requires c = omega (arith, c.requires.subject.classed.long, c.requires.node)

pub family_of-family-requires : goal.family_of-family-requires
family_of-family-requires c = omega (arith, c.requires.subject.shape.families, c.requires.node)

pub family_finishes-requires-clause-site : goal.family_finishes-requires-clause-site
family_finishes-requires-clause-site c = c.in_ok-charged.ensures.site c.classes_at.result.now c.classes_at.ensures

pub family_finishes-requires-clause-right : goal.family_finishes-requires-clause-right
family_finishes-requires-clause-right c =
    let s = c.args.subject.now in
    c.exits_stay.ensures.work c.args.table.now c.charged_at.new.table s.unfolded.now s.machine.now c.args.work.now c.charged_at.ensures.kept c.requires.right

pub family_finishes-requires-clause-small : goal.family_finishes-requires-clause-small
family_finishes-requires-clause-small c = family_small c.args.subject.now.certificate.now c.args.node c.family_of-family.result.now c.requires.subject.small c.family_of-family.ensures

pub returns-in_err-finishes-clause-refused : goal.returns-in_err-finishes-clause-refused
returns-in_err-finishes-clause-refused c =
    let s = c.args.subject.now in
    let family = c.family_of-family.result.now in
    handed_on (NamesPlace (PaysFinish s.unfolded.now s.machine.now s.classes.now s.certificate.now c.args.node) 2 c.args.node) _ c.in_err-finishes.field-0.0 c.from_residual-in_err-finishes.ensures
    (names_alike (FamilyPays (VectorPaysFinish s.unfolded.now s.machine.now s.classes.now s.certificate.now c.args.node) family)
    (PaysFinish s.unfolded.now s.machine.now s.classes.now s.certificate.now c.args.node) 2 c.args.node
    (finish_rule s.unfolded.now s.machine.now s.classes.now s.certificate.now c.args.node family c.family_of-family.ensures)
    (rule_finish s.unfolded.now s.machine.now s.classes.now s.certificate.now c.args.node family c.family_of-family.ensures)
    c.in_err-finishes.field-0.0 c.in_err-finishes.ensures.refused)

pub returns-clause-finishes : goal.returns-clause-finishes
returns-clause-finishes c = λ others at.
    let family = c.family_of-family.result.now in
    let same : family ≡ others = same_Some family others (sym c.family_of-family.ensures ∙ at) in
    rw (← same, c.new.ensures) c.in_ok-finishes.ensures.finishes

pub returns-clause-pays : goal.returns-clause-pays
returns-clause-pays c = λ place.
    let s = c.args.subject.now in
    finish_rule s.unfolded.now s.machine.now s.classes.now s.certificate.now c.args.node c.family_of-family.result.now c.family_of-family.ensures place (c.in_ok-finishes.ensures.pays place)

pub returns-in_err-finishes-clause-kept : goal.returns-in_err-finishes-clause-kept
returns-in_err-finishes-clause-kept c = keeps_twice c.args.table.now c.charged_at.new.table c.family_finishes.new.table c.charged_at.ensures.kept c.family_finishes.ensures.kept

pub returns-clause-kept : goal.returns-clause-kept
returns-clause-kept c = keeps_twice c.args.table.now c.charged_at.new.table c.family_finishes.new.table c.charged_at.ensures.kept c.family_finishes.ensures.kept
