use Rattle.std.proofs.Common.{◌≡◌, ◌<◌, ◌+◌, ℕ, List, length, map, take, get_or, refl, arith, ap}
use Rattle.std.proofs.lemmas.List.Sums.{sum_by-take-le, sum_by_more, sum-map}
use Rattle.std.specs.List.{sum}
use Rattle.flow_graph.specs.declared.program.Function.{Function}
use Rattle.flow_graph.proofs.construction.has_more_blocks.Goals as goal

-- where the first i numbers leave less than the next, all are more than there were
too_many : {X : Type 0} (count : X → ℕ) (xs : List X) (i most left : ℕ) (d : X) → i < length xs → left + sum (map count (take i xs)) ≡ most → left < count (get_or xs i d) → most < sum (map count xs)
too_many count xs i most left d within e less =
    omega (arith, sum-map count (take i xs), sum-map count xs, sum_by_more count xs i d within, sum_by-take-le count xs (i + 1))

pub returns-then-count-left : goal.returns-then-count-left
returns-then-count-left c =
    let count : Function → ℕ = λ f. length f.blocks in
    let f = c.function-item.result in
    let next : c.loop-function.left < count (get_or c.args.functions.now c.loop-function.function-index f) =
    omega (arith, c.if-count-left.true, ap length c.as_slice-count.ensures, ap count c.function-item.is) in
    let more = too_many count c.args.functions.now c.loop-function.function-index c.args.most c.loop-function.left f c.loop-function-test.true c.loop-function.invariant next in
    (λ e. more, λ h. refl)
