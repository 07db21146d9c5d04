use Rattle.std.proofs.Common.{arith}
use Rattle.cert_check.proofs.PayLemmas.{target_within}
use Rattle.cert_check.proofs.edges.crossing_at.Goals as goal

pub family_of-requires : goal.family_of-requires
family_of-requires c =
    let s = c.args.subject.now in
    target_within s.unfolded.now s.machine.now s.classes.now s.certificate.now c.args.number c.args.edge.now c.requires.subject c.requires.edge

pub returns-clause-entering : goal.returns-clause-entering
returns-clause-entering c = rw c.as_slice.ensures (c.requires.prices.are.cost c.args.number c.requires.number)

pub returns-clause-returning : goal.returns-clause-returning
returns-clause-returning c = rw c.as_slice-2.ensures (c.requires.prices.are.returned c.args.number c.requires.number)

pub returns-clause-entering_small : goal.returns-clause-entering_small
returns-clause-entering_small c =
    let long = c.requires.prices.are.costs_long in
    rw c.as_slice.ensures (c.requires.prices.costs_small c.args.number 0 (omega (arith, c.requires.number, long)))

pub returns-clause-returning_small : goal.returns-clause-returning_small
returns-clause-returning_small c =
    let long = c.requires.prices.are.returns_long in
    rw c.as_slice-2.ensures (c.requires.prices.returns_small c.args.number 0 (omega (arith, c.requires.number, long)))
