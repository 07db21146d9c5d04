use Rattle.cert_rules.specs.Rules.{IsValid}
use Rattle.cert_check.specs.Answers.{IsAccepted, IsRefusal}
use Rattle.cert_check.specs.Judging.{Breaks}
use Rattle.cert_check.proofs.BreakLemmas.{err_more}
use Rattle.cert_check.proofs.NameLemmas.{breaks_refuses}
use Rattle.cert_check.proofs.ResultLemmas.{ok_more}
use Rattle.cert_check.proofs.rules.check.Goals as goal

pub classify-requires-clause-unfolding : goal.classify-requires-clause-unfolding
classify-requires-clause-unfolding c = c.requires.unfolded.unfolded

pub returns-clause-accepted : goal.returns-clause-accepted
returns-clause-accepted c =
    let u = c.args.u.now in
    let m = c.args.m.now in
    let k = c.args.c.now in
    let classes = c.in_ok-classes.classes in
    ok_more c.judge.result (λ checked. IsValid u m classes k) (λ checked. IsAccepted u m k)
    (λ checked valid. record { classes = classes; are = c.in_ok-classes.ensures; valid = valid }) c.judge.ensures.accepted

pub returns-clause-refused : goal.returns-clause-refused
returns-clause-refused c =
    let u = c.args.u.now in
    let m = c.args.m.now in
    let k = c.args.c.now in
    let classes = c.in_ok-classes.classes in
    err_more c.judge.result (Breaks u m classes k) (IsRefusal u m k) (λ r broken. breaks_refuses u m classes k c.in_ok-classes.ensures r broken) c.judge.ensures.refused
