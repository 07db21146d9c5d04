use Rattle.std.proofs.Common.{◌≡◌, ◌⊎◌, List, ℕ, length, arith, refl, rules, subst}
use Rattle.std.specs.List.{Contains}
use Rattle.std.proofs.lemmas.List.{take_all, take_more}
use Rattle.state_families.specs.Families.{IsGreatest}
use Rattle.state_families.proofs.GrowthLemmas.{greatest_first, greatest_more}
use Rattle.state_families.proofs.growth.greatest.Goals as goal

pub loop-other-init : goal.loop-other-init
loop-other-init c =
    let long : length c.args.first.now ≡ 35 = search rules in
    greatest_first c.args.first.now c.args.others.now long 0 refl

pub loop-other-preserved : goal.loop-other-preserved
loop-other-preserved c =
    greatest_more c.args.first.now c.args.others.now c.loop-other.other-index _ c.loop-other.slots c.higher-slots.result
    (take_more c.args.others.now c.loop-other.other-index _ c.loop-other-test.true) c.higher-slots.ensures c.loop-other.invariant

pub returns : goal.returns
returns c =
    subst (λ (xs : List (List ℕ)). IsGreatest (λ v. (v ≡ c.args.first.now) ⊎ Contains xs v) c.loop-other.slots)
    (take_all c.loop-other.other-index c.args.others.now (omega arith)) c.loop-other.invariant
