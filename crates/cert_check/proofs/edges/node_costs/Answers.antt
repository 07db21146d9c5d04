use Rattle.std.proofs.Common.{◌≡◌, sym, ◌∙◌, arith}
use Rattle.std.proofs.lemmas.Option.{same_Some}
use Rattle.cert_rules.specs.Rules.{PaysEdges}
use Rattle.cert_check.specs.Judging.{FamilyPays, NamesPlace, VectorPaysEdges}
use Rattle.cert_check.proofs.BreakLemmas.{handed_on}
use Rattle.cert_check.proofs.NameLemmas.{names_alike}
use Rattle.cert_check.proofs.PayLemmas.{family_small, edges_rule, rule_edges}
use Rattle.cert_check.proofs.StayLemmas.{keeps_twice}
use Rattle.cert_check.proofs.edges.node_costs.Goals as goal

pub classes_at-requires : goal.classes_at-requires
classes_at-requires c = omega (arith, c.requires.subject.classed.long, c.requires.node)

pub family_of-family-requires : goal.family_of-family-requires
family_of-family-requires c = omega (arith, c.requires.subject.shape.families, c.requires.node)

pub family_costs-requires-clause-site : goal.family_costs-requires-clause-site
family_costs-requires-clause-site c = c.in_ok-charged.ensures.site c.classes_at.result.now c.classes_at.ensures

pub family_costs-requires-clause-right : goal.family_costs-requires-clause-right
family_costs-requires-clause-right c =
    let s = c.args.subject.now in
    c.exits_stay.ensures.work c.args.table.now c.charged_at.new.table s.unfolded.now s.machine.now c.args.work.now c.charged_at.ensures.kept c.requires.right

pub family_costs-requires-clause-small : goal.family_costs-requires-clause-small
family_costs-requires-clause-small c = family_small c.args.subject.now.certificate.now c.args.node c.family_of-family.result.now c.requires.subject.small c.family_of-family.ensures

pub returns-in_err-costs-clause-refused : goal.returns-in_err-costs-clause-refused
returns-in_err-costs-clause-refused c =
    let s = c.args.subject.now in
    let family = c.family_of-family.result.now in
    handed_on (NamesPlace (PaysEdges s.unfolded.now s.machine.now s.classes.now s.certificate.now c.args.node) 3 c.args.node) _ c.in_err-costs.field-0.0 c.from_residual-in_err-costs.ensures
    (names_alike (FamilyPays (VectorPaysEdges s.unfolded.now s.machine.now s.classes.now s.certificate.now c.args.node) family)
    (PaysEdges s.unfolded.now s.machine.now s.classes.now s.certificate.now c.args.node) 3 c.args.node
    (edges_rule s.unfolded.now s.machine.now s.classes.now s.certificate.now c.args.node family c.family_of-family.ensures)
    (rule_edges s.unfolded.now s.machine.now s.classes.now s.certificate.now c.args.node family c.family_of-family.ensures)
    c.in_err-costs.field-0.0 c.in_err-costs.ensures.refused)

pub returns-clause-costs : goal.returns-clause-costs
returns-clause-costs c = λ others at.
    let family = c.family_of-family.result.now in
    let same : family ≡ others = same_Some family others (sym c.family_of-family.ensures ∙ at) in
    rw (← same, c.new.ensures) c.in_ok-costs.ensures.costs

pub returns-clause-pays : goal.returns-clause-pays
returns-clause-pays c = λ place.
    let s = c.args.subject.now in
    edges_rule s.unfolded.now s.machine.now s.classes.now s.certificate.now c.args.node c.family_of-family.result.now c.family_of-family.ensures place (c.in_ok-costs.ensures.pays place)

pub returns-in_err-costs-clause-kept : goal.returns-in_err-costs-clause-kept
returns-in_err-costs-clause-kept c = keeps_twice c.args.table.now c.charged_at.new.table c.family_costs.new.table c.charged_at.ensures.kept c.family_costs.ensures.kept

pub returns-clause-kept : goal.returns-clause-kept
returns-clause-kept c = keeps_twice c.args.table.now c.charged_at.new.table c.family_costs.new.table c.charged_at.ensures.kept c.family_costs.ensures.kept
