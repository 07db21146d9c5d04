use Rattle.std.proofs.Common.{◌+◌, ◌++◌, ◌∷◌, [], get_or, subst, sym, refl, ap, ◌∙◌, arith}
use Rattle.std.proofs.lemmas.Option.{slice_get-get_or}
use Rattle.flow_ctx.specs.declared.scope.Scope.TheVariants.{Run}
use Rattle.cache_class.specs.declared.group.Group.{Group}
use Rattle.cert_text.specs.declared.certificate.Charge.{Charge}
use Rattle.state_charges.proofs.MissLemmas.{FirstAmounts, all_amounts, no_amounts, one_amount}
use Rattle.state_charges.proofs.amounts.with_amounts.Goals as goal

abbrev no_group : Group
no_group = record { line = 0; scope = Run }

pub loop-i-init : goal.loop-i-init
loop-i-init c = subst (FirstAmounts c.args.groups.now c.args.amounts.now 0) (sym c.new-charges.ensures.items) (no_amounts c.args.groups.now c.args.amounts.now)

pub loop-i-preserved : goal.loop-i-preserved
loop-i-preserved c =
    let groups = c.args.groups.now in
    let amounts = c.args.amounts.now in
    let i = c.loop-i.i in
    let group : Group = get_or groups i no_group in
    subst (FirstAmounts groups amounts (i + 1))
    (ap (λ (x : Charge). c.loop-i.charges.items ++ x ∷ []) (sym c.charge.ensures) ∙ sym c.in_ok-push.ensures.items)
    (one_amount groups amounts i group c.loop-i.charges.items (get_or amounts i 0) (slice_get-get_or groups i no_group c.loop-i-test.true) refl c.loop-i.invariant)

pub returns : goal.returns
returns c = all_amounts c.args.groups.now c.args.amounts.now c.loop-i.i c.loop-i.charges.items (omega arith) c.loop-i.invariant
