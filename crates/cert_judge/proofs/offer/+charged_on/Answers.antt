use Rattle.std.proofs.Common.{ℕ, ◌+◌, ◌≤◌, ◌^◌, List, length, drop, arith, length-drop}
use Rattle.cache_class.specs.declared.class.Class.{Class}
use Rattle.cert_judge.proofs.KeepLemmas.{keeps_twice}
use Rattle.cert_judge.proofs.OfferLemmas.{charged_fits, taken_at_most}
use Rattle.cert_judge.proofs.offer.+charged_on.Goals as goal

few_left : (n bound : ℕ) (classes : List Class) → length classes ≤ bound → length (drop n classes) ≤ bound
few_left n bound classes few = omega (arith, length-drop n classes)

pub with_charge-requires-clause-fits : goal.with_charge-requires-clause-fits
with_charge-requires-clause-fits t c f =
    let classes = c.args.classes.now in
    let charges = c.args.charges.now in
    let n = c.args.number + 1 in
    let most = taken_at_most _ _ (10 ^ 18) c.miss_charge-charge.result (c.requires.charges.small c.args.number) c.miss_charge-charge.ensures in
    charged_fits charges n (10 ^ 18) (2 ^ 64) _ c.miss_charge-charge.result f (drop n classes)
    c.requires.charges.small (few_left n 12 classes c.requires.charges.few) most (omega arith) (c.in_ok-rest.ensures.times f)

pub returns-clause-kept : goal.returns-clause-kept
returns-clause-kept t c = keeps_twice c.args.table.now c.charged_on.new.table c.with_charge.new.table c.charged_on.ensures.kept c.with_charge.ensures.kept
