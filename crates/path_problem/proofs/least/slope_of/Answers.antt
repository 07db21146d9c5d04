use Rattle.std.proofs.Common.{◌≡◌, ℕ, cond, ap, get_or, arith}
use Rattle.std.proofs.lemmas.Int.{ints}
use Rattle.path_problem.specs.Net.{link_at}
use Rattle.path_problem.specs.declared.least.Slope.{Slope}
use Rattle.path_problem.proofs.LeastLemmas.{slope_more}
use Rattle.path_problem.proofs.least.slope_of.Goals.{then-link, else-link}
use Rattle.path_problem.proofs.least.slope_of.Goals as goal

pub loop-number-preserved : goal.loop-number-preserved
loop-number-preserved c =
    let at = get_or c.args.walk.now c.loop-number.number-index 0 in
    let small = c.requires.links.each at (c.requires.walk c.loop-number.number-index 0 c.loop-number-test.true) in
    let low = small.low in
    let high = small.high in
    let l = c.loop-number.invariant.small.low in
    let m = c.loop-number.invariant.small.high in
    elim c.if-link.branch [
      | then-link w ↦
          slope_more c.args.links.now c.args.walk.now c.loop-number.number-index _ _ _ _ c.loop-number.invariant c.requires.links c.requires.walk c.loop-number-test.true
          (let e = ap (λ (s : Slope). s.weight) w.slope-is in omega (arith, ints))
          (let e = ap (λ (s : Slope). s.backs) w.slope-is in let b : cond {A = ℕ} (link_at c.args.links.now at).back 1 0 ≡ 1 = ap (λ t. cond {A = ℕ} t 1 0) w.if-link.true in omega arith)
      | else-link w ↦
          slope_more c.args.links.now c.args.walk.now c.loop-number.number-index _ _ _ _ c.loop-number.invariant c.requires.links c.requires.walk c.loop-number-test.true
          (let e = ap (λ (s : Slope). s.weight) w.slope-is in omega (arith, ints))
          (let e = ap (λ (s : Slope). s.backs) w.slope-is in let b : cond {A = ℕ} (link_at c.args.links.now at).back 1 0 ≡ 0 = ap (λ t. cond {A = ℕ} t 1 0) w.if-link.false in omega arith)
    ]
