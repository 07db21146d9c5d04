use Rattle.std.proofs.Common.{arith}
use Rattle.cert_rules.specs.Rules.{PaysFinish}
use Rattle.cert_check.specs.Judging.{NamesFirst}
use Rattle.cert_check.proofs.BreakLemmas.{handed_on}
use Rattle.cert_check.proofs.NameLemmas.{names_first}
use Rattle.cert_check.proofs.ProgressLemmas.{finishes_more}
use Rattle.cert_check.proofs.nodes.add_finishes.Goals as goal

pub returns-clause-finishes : goal.returns-clause-finishes
returns-clause-finishes c =
    let s = c.args.subject.now in
    finishes_more s.unfolded.now s.machine.now s.classes.now s.certificate.now c.args.table.now c.node_finishes.new.table c.node_finishes.ensures.kept c.args.node
    c.args.finishes.now.items c.push.new.self.items c.in_ok-found.found (omega (arith, c.requires.node, c.requires.subject.shape.families)) c.requires.so_far
    c.in_ok-found.ensures.finishes c.in_ok-found.ensures.pays c.in_ok-push.ensures.items

pub returns-in_err-found-clause-refused : goal.returns-in_err-found-clause-refused
returns-in_err-found-clause-refused c =
    let s = c.args.subject.now in
    handed_on (NamesFirst (PaysFinish s.unfolded.now s.machine.now s.classes.now s.certificate.now) 2) _ c.in_err-found.field-0.0 c.from_residual.ensures
    (names_first (PaysFinish s.unfolded.now s.machine.now s.classes.now s.certificate.now) 2 c.args.node c.requires.so_far.pays c.in_err-found.field-0.0
    c.in_err-found.ensures.refused)
