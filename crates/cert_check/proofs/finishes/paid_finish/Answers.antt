use Rattle.std.proofs.Common.{sym, ◌∙◌}
use Rattle.std.proofs.lemmas.Bool.{false≢true}
use Rattle.cert_check.proofs.StayLemmas.{finish_stays, keeps_twice, site_stays}
use Rattle.cert_check.proofs.finishes.paid_finish.Goals as goal

pub finish_pays-requires-clause-site : goal.finish_pays-requires-clause-site
finish_pays-requires-clause-site c =
    let s = c.args.subject.now in
    let w = c.args.site.now in
    site_stays c.args.table.now c.finish_from.new.table c.finish_from.ensures.kept s.unfolded.now s.classes.now s.certificate.now w.node w.classes.now w.charged c.requires.site

pub returns-in_err-pays-clause-right : goal.returns-in_err-pays-clause-right
returns-in_err-pays-clause-right c =
    let s = c.args.subject.now in
    c.exits_stay.ensures.work c.finish_from.new.table c.finish_pays.new.table s.unfolded.now s.machine.now c.finish_from.new.work c.finish_pays.ensures.kept c.finish_from.ensures.right

pub returns-in_err-pays-clause-kept : goal.returns-in_err-pays-clause-kept
returns-in_err-pays-clause-kept c = keeps_twice c.args.table.now c.finish_from.new.table c.finish_pays.new.table c.finish_from.ensures.kept c.finish_pays.ensures.kept

pub returns-then-pays-clause-finish : goal.returns-then-pays-clause-finish
returns-then-pays-clause-finish c =
    let s = c.args.subject.now in (
      c.in_ok-pays.ensures.pays.0 c.if-pays.true,
      finish_stays c.finish_from.new.table c.finish_pays.new.table c.finish_pays.ensures.kept s.unfolded.now s.machine.now c.args.site.now.node c.args.v.now c.in_ok-end.end c.in_ok-end.ensures.finish,
    )

pub returns-then-pays-clause-right : goal.returns-then-pays-clause-right
returns-then-pays-clause-right c =
    let s = c.args.subject.now in
    c.exits_stay.ensures.work c.finish_from.new.table c.finish_pays.new.table s.unfolded.now s.machine.now c.finish_from.new.work c.finish_pays.ensures.kept c.finish_from.ensures.right

pub returns-then-pays-clause-kept : goal.returns-then-pays-clause-kept
returns-then-pays-clause-kept c = keeps_twice c.args.table.now c.finish_from.new.table c.finish_pays.new.table c.finish_from.ensures.kept c.finish_pays.ensures.kept

pub returns-else-pays-clause-finish : goal.returns-else-pays-clause-finish
returns-else-pays-clause-finish c = λ pays. false≢true (sym c.if-pays.false ∙ c.in_ok-pays.ensures.pays.1 pays)

pub returns-else-pays-clause-right : goal.returns-else-pays-clause-right
returns-else-pays-clause-right c =
    let s = c.args.subject.now in
    c.exits_stay.ensures.work c.finish_from.new.table c.finish_pays.new.table s.unfolded.now s.machine.now c.finish_from.new.work c.finish_pays.ensures.kept c.finish_from.ensures.right

pub returns-else-pays-clause-kept : goal.returns-else-pays-clause-kept
returns-else-pays-clause-kept c = keeps_twice c.args.table.now c.finish_from.new.table c.finish_pays.new.table c.finish_from.ensures.kept c.finish_pays.ensures.kept
