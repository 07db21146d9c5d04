use Rattle.std.proofs.Common.{ℕ, List, [], length, get_or, refl, sym, ap, subst, arith}
use Rattle.std.proofs.lemmas.Option.{slice_get-get_or}
use Rattle.xdd_table.specs.declared.node.Dd.{Dd}
use Rattle.cert_text.specs.declared.certificate.CertVector.{CertVector}
use Rattle.cert_check.specs.Judging.{VectorPaysEdges}
use Rattle.cert_check.specs.Places.{Along, AreVectorCosts}
use Rattle.cert_check.proofs.ListLemmas.{along_none, front_step, one_longer}
use Rattle.cert_check.proofs.NameLemmas.{family_all, family_fails, family_more}
use Rattle.cert_check.proofs.StayLemmas.{keeps_self, keeps_twice, site_stays, vector_costs_stay}
use Rattle.cert_check.proofs.edges.family_costs.Goals as goal

abbrev none : CertVector
none = record { potential = 0; slots = record { slots = [] } }

pub loop-place-init : goal.loop-place-init
loop-place-init c =
    let s = c.args.subject.now in
    let P : ℕ → CertVector → List Dd → Type 0 = λ place v d. AreVectorCosts c.args.table.now s.unfolded.now s.machine.now c.args.site.now.node v d in
    record {
      long = ap (λ (xs : List (List Dd)). length xs) c.new-costs.ensures.items;
      along = subst (λ (xs : List (List Dd)). Along P c.args.family.now xs) (sym c.new-costs.ensures.items) (along_none P c.args.family.now);
      pays = λ earlier l. absurd (omega (arith, l));
      site = c.requires.site;
      right = c.requires.right;
      kept = keeps_self c.args.table.now;
    }

pub costs_along-requires-clause-small : goal.costs_along-requires-clause-small
costs_along-requires-clause-small c = c.requires.small c.loop-place.place none c.loop-place-test.true

pub loop-place-preserved : goal.loop-place-preserved
loop-place-preserved c =
    let s = c.args.subject.now in
    let u = s.unfolded.now in
    let m = s.machine.now in
    let node = c.args.site.now.node in
    let family = c.args.family.now in
    let i = c.loop-place.place in
    let inv = c.loop-place.invariant in
    let v = get_or family i none in
    let at = slice_get-get_or family i none c.loop-place-test.true in
    let old = c.loop-place.table in
    let new = c.costs_along.new.table in
    let kept = c.costs_along.ensures.kept in
    let found = rw c.in-Some.is at c.in_ok-found.ensures.costs in
    let grown = c.in_ok-push-in-Some.ensures.items in
    record {
      long = one_longer c.loop-place.costs.items c.push.new.self.items c.in-Some.found i inv.long grown;
      along = front_step (λ place w d. AreVectorCosts old u m node w d) (λ place w d. AreVectorCosts new u m node w d) family c.loop-place.costs.items c.push.new.self.items i v c.in-Some.found
          inv.long at (λ k w d is. vector_costs_stay old new kept u m node w d is) found.1 grown inv.along;
      pays = family_more (VectorPaysEdges u m s.classes.now s.certificate.now node) family i v at found.0 inv.pays;
      site = site_stays old new kept u s.classes.now s.certificate.now node c.args.site.now.classes.now c.args.site.now.charged inv.site;
      right = c.costs_along.ensures.right;
      kept = keeps_twice c.args.table.now old new inv.kept kept;
    }

pub returns-in_err-found-clause-kept : goal.returns-in_err-found-clause-kept
returns-in_err-found-clause-kept c = keeps_twice c.args.table.now c.loop-place.table c.costs_along.new.table c.loop-place.invariant.kept c.costs_along.ensures.kept

pub returns-in_err-push-in-Some-clause-kept : goal.returns-in_err-push-in-Some-clause-kept
returns-in_err-push-in-Some-clause-kept c = keeps_twice c.args.table.now c.loop-place.table c.costs_along.new.table c.loop-place.invariant.kept c.costs_along.ensures.kept

pub returns-in-None-clause-kept : goal.returns-in-None-clause-kept
returns-in-None-clause-kept c = keeps_twice c.args.table.now c.loop-place.table c.costs_along.new.table c.loop-place.invariant.kept c.costs_along.ensures.kept

pub returns-in-None-clause-refused : goal.returns-in-None-clause-refused
returns-in-None-clause-refused c =
    let s = c.args.subject.now in
    let family = c.args.family.now in
    let i = c.loop-place.place in (
      refl,
      (
        c.from.ensures,
        family_fails (VectorPaysEdges s.unfolded.now s.machine.now s.classes.now s.certificate.now c.args.site.now.node) family i (get_or family i none)
            (slice_get-get_or family i none c.loop-place-test.true) (rw c.in-None.is at c.in_ok-found.ensures.costs) c.loop-place.invariant.pays,
      ),
    )

pub returns-clause-costs : goal.returns-clause-costs
returns-clause-costs c = record {
  long = omega (arith, c.loop-place.invariant.long, c.loop-place-test.false, c.loop-place.auto.place-end);
  along = c.loop-place.invariant.along;
}

pub returns-clause-pays : goal.returns-clause-pays
returns-clause-pays c =
    let s = c.args.subject.now in
    family_all (VectorPaysEdges s.unfolded.now s.machine.now s.classes.now s.certificate.now c.args.site.now.node) c.args.family.now c.loop-place.place
    (omega (arith, c.loop-place-test.false)) c.loop-place.invariant.pays
