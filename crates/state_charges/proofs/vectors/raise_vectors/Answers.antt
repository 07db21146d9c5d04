use Rattle.std.proofs.Common.{◌≡◌, ℕ, length, get_or, slice_get, Some, [], subst, sym, arith}
use Rattle.std.proofs.lemmas.Option.{slice_get-get_or}
use Rattle.cert_judge.proofs.KeepLemmas.{keeps_self, keeps_twice}
use Rattle.pipe_time.specs.declared.vector.Vector.{Vector}
use Rattle.state_charges.specs.Raising.{IsEarly, IsFamilyRise, Raises}
use Rattle.state_charges.specs.Subject.{IsDeparture}
use Rattle.state_charges.proofs.RaisingLemmas.{family_raised, raised_by_more, raised_by_none}
use Rattle.state_charges.proofs.vectors.raise_vectors.Goals as goal

abbrev no_vector : Vector
no_vector = record { slots = [] }

pub loop-place-init : goal.loop-place-init
loop-place-init c =
    let d = c.args.departure.now in
    record {
      kept = keeps_self c.args.table.now;
      right = c.requires.right;
      raises = raised_by_none (IsFamilyRise d.site.machine.now d.block.now d.classes.now d.taken d.misses.now c.args.family.now) c.args.amounts.now;
    }

pub raise_vector-requires-clause-departure : goal.raise_vector-requires-clause-departure
raise_vector-requires-clause-departure c =
    let d = c.args.departure.now in
    subst (λ (n : ℕ). IsDeparture d.site.unfolded.now d.site.node d.block.now d.classes.now d.misses.now n) (sym c.loop-place.invariant.raises.long) c.requires.departure

pub raise_vector-requires-clause-small : goal.raise_vector-requires-clause-small
raise_vector-requires-clause-small c =
    let place = c.loop-place.place in
    let family = c.args.family.now in
    c.requires.small place (get_or family place no_vector) (slice_get-get_or family place no_vector c.loop-place-test.true)

pub raise_vector-requires-clause-right : goal.raise_vector-requires-clause-right
raise_vector-requires-clause-right c = c.loop-place.invariant.right

pub returns-in_err-raise_vector-clause-kept : goal.returns-in_err-raise_vector-clause-kept
returns-in_err-raise_vector-clause-kept c =
    keeps_twice c.args.table.now c.loop-place.table c.raise_vector.new.table c.loop-place.invariant.kept c.raise_vector.ensures.kept

pub loop-place-preserved : goal.loop-place-preserved
loop-place-preserved c =
    let d = c.args.departure.now in
    let place = c.loop-place.place in
    let family = c.args.family.now in
    let v : Vector = get_or family place no_vector in
    let stands : slice_get family place ≡ Some v = slice_get-get_or family place no_vector c.loop-place-test.true in
    record {
      kept = keeps_twice c.args.table.now c.loop-place.table c.raise_vector.new.table c.loop-place.invariant.kept c.raise_vector.ensures.kept;
      right = c.in_ok-raise_vector.ensures.right;
      raises = raised_by_more (IsFamilyRise d.site.machine.now d.block.now d.classes.now d.taken d.misses.now family) place
          c.args.amounts.now c.loop-place.amounts c.raise_vector.new.amounts c.loop-place.invariant.raises
          (family_raised d.site.machine.now d.block.now d.classes.now d.taken d.misses.now family place v c.loop-place.amounts c.raise_vector.new.amounts stands
          c.in_ok-raise_vector.ensures.raises);
    }

pub returns-clause-raises : goal.returns-clause-raises
returns-clause-raises c =
    let d = c.args.departure.now in
    let done : c.loop-place.place ≡ length c.args.family.now = omega arith in
    subst (λ (n : ℕ). Raises (IsEarly (IsFamilyRise d.site.machine.now d.block.now d.classes.now d.taken d.misses.now c.args.family.now) n)
    c.args.amounts.now c.loop-place.amounts) done c.loop-place.invariant.raises

pub returns-clause-right : goal.returns-clause-right
returns-clause-right c = c.loop-place.invariant.right

pub returns-clause-kept : goal.returns-clause-kept
returns-clause-kept c = c.loop-place.invariant.kept
