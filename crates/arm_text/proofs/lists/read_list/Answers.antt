-- Register by register, from the highest one.
use Rattle.std.proofs.Common.{◌≡◌, ◌<◌, ◌+◌, ◌-◌, ◌^◌, ◌≤◌, ℕ, List, Some, Bor, ◌∙◌, ap, subst, arith}
use Rattle.arm_text.proofs.Listed.{SoFar, nothing_read, one_more, none_more, all_sound, all_complete, is_empty, is_some, same_so_far, one_bit, bit_fits, some_none}
use Rattle.arm_text.proofs.lists.read_list.Goals as goal
use Rattle.arm_text.proofs.lists.read_list.Goals.{in-Some, in_default}

pub loop-higher-init : goal.loop-higher-init
loop-higher-init c = nothing_read c.args.text.now

pub loop-higher-preserved : goal.loop-higher-preserved
loop-higher-preserved c =
    let h = c.loop-higher.higher in
    let register = 15 - h in
    let fits : register < 16 = omega arith in
    let here : 16 - h ≡ register + 1 = omega (arith, c.loop-higher-test.true) in
    let there : 16 - (h + 1) ≡ register = omega (arith, c.loop-higher-test.true) in
    let so_far : SoFar c.args.text.now c.loop-higher.rest.now c.loop-higher.list (register + 1) =
    subst (λ bound. SoFar c.args.text.now c.loop-higher.rest.now c.loop-higher.list bound) here c.loop-higher.invariant in
    elim c.match-before_last.branch [
      | in-Some w ↦
          same_so_far c.args.text.now w.in-Some.lower.now c.match-before_last.rest.now (c.loop-higher.list + 2 ^ register) c.match-before_last.list register (16 - (h + 1))
          (ap (λ (r : Bor (List ℕ)). r.now) w.rest-is) (w.list-is ∙ ap (λ bit. c.loop-higher.list + bit) (one_bit register fits)) there
          (one_more c.args.text.now c.loop-higher.rest.now w.in-Some.lower.now c.loop-higher.list register so_far
          w.in-Some.ensures.sound w.in-Some.ensures.complete
          (λ lower small same. some_none (w.in-Some.ensures.none lower small same)))
      | in_default w ↦
          same_so_far c.args.text.now c.loop-higher.rest.now c.match-before_last.rest.now c.loop-higher.list c.match-before_last.list register (16 - (h + 1))
          (ap (λ (r : Bor (List ℕ)). r.now) w.rest-is) w.list-is there
          (none_more c.args.text.now c.loop-higher.rest.now c.loop-higher.list register so_far
          (λ lower small same. w.in_default.ensures.complete lower small same))
    ]

pub overflow_add-list : goal.overflow_add-list
overflow_add-list c =
    let h = c.loop-higher.higher in
    let here : 16 - h ≡ 15 - h + 1 = omega (arith, c.loop-higher-test.true) in
    let small = bit_fits c.loop-higher.list (15 - h) (omega arith) (subst (λ bound. c.loop-higher.list + 2 ^ bound ≤ 2 ^ 16) here c.loop-higher.invariant.room) in
    omega arith

pub returns-then-is_empty-clause-sound : goal.returns-then-is_empty-clause-sound
returns-then-is_empty-clause-sound c =
    let end : 16 - c.loop-higher.higher ≡ 0 = omega (arith, c.loop-higher-test.false) in
    all_sound c.args.text.now c.loop-higher.rest.now c.loop-higher.list
    (subst (λ bound. SoFar c.args.text.now c.loop-higher.rest.now c.loop-higher.list bound) end c.loop-higher.invariant)
    (is_empty _ c.if-is_empty.ensures)

pub returns-then-is_empty-clause-complete : goal.returns-then-is_empty-clause-complete
returns-then-is_empty-clause-complete c list small same =
    let end : 16 - c.loop-higher.higher ≡ 0 = omega (arith, c.loop-higher-test.false) in
    ap Some (all_complete c.args.text.now c.loop-higher.rest.now c.loop-higher.list list
    (subst (λ bound. SoFar c.args.text.now c.loop-higher.rest.now c.loop-higher.list bound) end c.loop-higher.invariant) small same).1

pub returns-else-is_empty-clause-complete : goal.returns-else-is_empty-clause-complete
returns-else-is_empty-clause-complete c list small same =
    let end : 16 - c.loop-higher.higher ≡ 0 = omega (arith, c.loop-higher-test.false) in
    let all = all_complete c.args.text.now c.loop-higher.rest.now c.loop-higher.list list
    (subst (λ bound. SoFar c.args.text.now c.loop-higher.rest.now c.loop-higher.list bound) end c.loop-higher.invariant) small same in
    let some = is_some _ c.if-is_empty.ensures in
    absurd (omega arith)
