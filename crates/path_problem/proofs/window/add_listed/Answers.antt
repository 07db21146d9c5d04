use Rattle.std.proofs.Common.{◌-◌, ◌<◌, length, get_or, arith}
use Rattle.std.specs.Prelude.{pos, ◌+ℤ◌, FitsSigned}
use Rattle.std.specs.Int.{w128}
use Rattle.std.proofs.lemmas.Int.{ints}
use Rattle.path_problem.proofs.WindowLemmas.{other, again, now, moved, not_yet}
use Rattle.path_problem.proofs.window.add_listed.Goals.{then-number-first+then-number-first-2+then-stamps-at, then-number-first+then-number-first-2+else-stamps-at, else-number-first, else-number-first-via-then-number-first+else-number-first-2, else-number-first-via-else-number-first}
use Rattle.path_problem.proofs.window.add_listed.Goals as goal

pub loop-number-preserved : goal.loop-number-preserved
loop-number-preserved c =
    elim c.if-number-first.branch [
      | then-number-first+then-number-first-2+then-stamps-at w ↦
          moved w.weights-is w.stamps-is (now _ _ _ _ _ _ _ _ c.loop-number-test.true c.loop-number.invariant (get_or c.args.listed.now c.loop-number.number-index 0 - c.args.first) (omega arith) (omega arith) _ w.if-stamps-at.true (let at = get_or c.args.listed.now c.loop-number.number-index 0 - c.args.first in let inside : at < length c.args.weights.now = omega arith in let same = not_yet c.loop-number.invariant at inside w.if-stamps-at.true in let f : FitsSigned w128 (get_or c.args.weights.now at (pos 0) +ℤ c.args.amount) = c.requires.fits at (pos 0) inside in omega (arith, ints)))
      | then-number-first+then-number-first-2+else-stamps-at w ↦
          moved w.weights-is w.stamps-is (again _ _ _ _ _ _ _ _ c.loop-number-test.true c.loop-number.invariant (get_or c.args.listed.now c.loop-number.number-index 0 - c.args.first) (omega arith) (omega arith) w.if-stamps-at.false)
      | else-number-first w ↦
          moved w.weights-is w.stamps-is (other _ _ _ _ _ _ _ _ c.loop-number-test.true c.loop-number.invariant (λ k b e. elim w.else-number-first.branch [ else-number-first-via-then-number-first+else-number-first-2 w' ↦ omega arith | else-number-first-via-else-number-first w' ↦ omega arith ]))
    ]
