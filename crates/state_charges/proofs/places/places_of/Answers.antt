use Rattle.std.proofs.Common.{get_or, subst, sym, arith}
use Rattle.std.proofs.lemmas.Option.{slice_get-get_or}
use Rattle.flow_ctx.specs.declared.scope.Scope.TheVariants.{Run}
use Rattle.cache_class.specs.declared.group.Group.{Group}
use Rattle.state_charges.proofs.KeyLemmas.{FirstPlaces, all_places, no_place, one_place_more}
use Rattle.state_charges.proofs.places.places_of.Goals as goal

abbrev no_group : Group
no_group = record { line = 0; scope = Run }

pub loop-place-init : goal.loop-place-init
loop-place-init c = subst (FirstPlaces c.args.groups.now 0) (sym c.new-places.ensures.empty) (no_place c.args.groups.now)

pub loop-place-preserved : goal.loop-place-preserved
loop-place-preserved c =
    let groups = c.args.groups.now in
    let i = c.loop-place.place in
    one_place_more groups c.requires i (get_or groups i no_group) (slice_get-get_or groups i no_group c.loop-place-test.true)
    c.loop-place.places.entries c.insert_place.new.places.entries c.in_ok-insert_place.ensures c.loop-place.invariant

pub returns : goal.returns
returns c = all_places c.args.groups.now c.loop-place.place c.loop-place.places.entries (omega arith) c.loop-place.invariant
