use Rattle.std.proofs.Common.{ℕ, List, length, subst, sym, ap, ◌∙◌}
use Rattle.std.proofs.lemmas.List.{length-replicate}
use Rattle.cache_class.specs.declared.group.Group.{Group}
use Rattle.cache_class.specs.Groups.{AreGroups}
use Rattle.state_charges.specs.Charges.{AreCharges}
use Rattle.state_charges.specs.Misses.{ArePlaces, HaveAmounts}
use Rattle.state_charges.proofs.EdgeLemmas.{are_charges}
use Rattle.state_charges.proofs.answer.charges.Goals as goal

pub greatest_rises-requires-clause-subject : goal.greatest_rises-requires-clause-subject
greatest_rises-requires-clause-subject c = record {
  machine = c.requires.machine;
  unfolded = c.requires.unfolded;
  classed = c.requires.classes;
  listed = c.requires.vectors;
}

pub greatest_rises-requires-clause-places : goal.greatest_rises-requires-clause-places
greatest_rises-requires-clause-places c =
    let places = c.in_ok-places.places in
    subst (λ (gs : List Group). ArePlaces gs places.places.entries) (sym c.in_ok-places.ensures.groups) c.in_ok-places.ensures.places

pub with_amounts-requires : goal.with_amounts-requires
with_amounts-requires c =
    let groups = c.in_ok-places.places.groups in
    ap (λ (xs : List ℕ). length xs) c.as_slice-rises.ensures.value
    ∙ (c.in_ok-amounts.ensures.raises.long ∙ (length-replicate {A = ℕ} (length groups) 0 ∙ sym (ap (λ (gs : List Group). length gs) c.as_slice-order.ensures)))

pub returns-clause-charges : goal.returns-clause-charges
returns-clause-charges c =
    let u = c.args.u.now in
    let k = c.args.k.now in
    let groups = c.in_ok-places.places.groups in
    let amounts = c.in_ok-amounts.amounts.items in
    let charges = c.in_ok-charges.charges.items in
    let all : AreGroups u k groups = subst (AreGroups u k) (sym c.in_ok-places.ensures.groups) c.in_ok-groups.ensures in
    let have : HaveAmounts groups amounts charges =
    subst (λ (gs : List Group). HaveAmounts gs amounts charges) c.as_slice-order.ensures
    (subst (λ (xs : List ℕ). HaveAmounts c.as_slice-order.result.now xs charges) c.as_slice-rises.ensures.value c.in_ok-charges.ensures) in
    subst (AreCharges u c.args.m.now k c.args.vectors.now) (sym c.new-list.ensures)
    (are_charges u c.args.m.now k c.args.vectors.now groups (length groups) amounts charges all c.in_ok-amounts.ensures.raises have)
