use Rattle.std.proofs.Common.{ℕ, ◌+◌, ◌<◌}
use Rattle.cert_judge.specs.Payments.{PaysInto, PairPays}
use Rattle.cert_judge.proofs.edge.all_pay.Given as goal

abbrev pub invariant-loop-i : goal.invariant-loop-i
invariant-loop-i l =
    (k : ℕ) → k < l.i → PairPays l.pairs l.outcomes (λ charge. PaysInto l.crossing.family.now l.crossing.entering l.crossing.returning (l.potential + charge)) k
