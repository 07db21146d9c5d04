use Rattle.std.proofs.Common.{◌≡◌, ap, sym, ◌∙◌, subst, ltb}
use Rattle.std.specs.Bool.{Decides}
use Rattle.start_file.specs.StartText.{place}
use Rattle.start_file.specs.StartReading.{Follows}
use Rattle.start_file.proofs.StartFollows.{follows_last}
use Rattle.start_file.proofs.start_order.may_follow.Goals as goal

pub returns-in-Some : goal.returns-in-Some
returns-in-Some c =
    let e : ltb (place c.in-Some.last.now) (place c.args.next.now) ≡ ltb c.place.result c.place-in-Some.result =
    ap (λ n. ltb n (place c.args.next.now)) (sym c.place.ensures.value) ∙ ap (λ n. ltb c.place.result n) (sym c.place-in-Some.ensures.value) in
    subst (λ r. Decides r (Follows c.args.items.now c.args.next.now)) e
    (follows_last c.args.items.now c.in-Some.last.now c.args.next.now c.requires c.in-Some.ensures.value)
