use Rattle.std.proofs.Common.{◌≡◌, ◌↔◌, ◌∙◌, ℕ, List, None, ap, arith, length, slice_get, subst, sym}
use Rattle.std.specs.Global.{Vec}
use Rattle.std.specs.List.{Contains}
use Rattle.std.proofs.lemmas.Option.{slice_get-get_or}
use Rattle.state_families.specs.Leaving.{IsPicked}
use Rattle.state_families.proofs.LeavingLemmas.{one_more_picked}
use Rattle.state_families.proofs.leaving.picked.Goals as goal
use Rattle.state_families.proofs.leaving.picked.Goals.{in-Some+in_ok-push-in-Some, in-None}

pub loop-i-preserved : goal.loop-i-preserved
loop-i-preserved c =
    let pairs = c.args.pairs.now in
    let i = c.loop-i.i in
    elim c.match-get.branch [
      | in-Some+in_ok-push-in-Some w ↦
          let at = sym c.get.ensures ∙ w.in-Some.is in
          one_more_picked pairs c.args.outcomes.now i _ _ c.loop-i.list.items c.match-get.list.items at (slice_get-get_or c.args.outcomes.now _ _ (c.requires i _ at))
          (ap (λ (list : Vec (List ℕ)). list.items) w.list-is ∙ w.in_ok-push-in-Some.ensures.items) c.loop-i.invariant
      | in-None w ↦
          let there = slice_get-get_or pairs i (0, 0) (omega (arith, c.loop-i-test.true, c.len-i-end.ensures.count)) in
          let nothing : slice_get pairs i ≡ None = sym c.get.ensures ∙ w.in-None.is in
          absurd (cc)
    ]

pub returns : goal.returns
returns c =
    let all : c.loop-i.i ≡ length c.args.pairs.now = omega (arith, c.len-i-end.ensures.count) in
    subst (λ (n : ℕ). (slots : List ℕ) → Contains c.loop-i.list.items slots ↔ IsPicked c.args.pairs.now c.args.outcomes.now n slots) all c.loop-i.invariant
