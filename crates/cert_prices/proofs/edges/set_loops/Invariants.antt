use Rattle.std.proofs.Common.{◌<◌, ◌^◌, length, take}
use Rattle.std.specs.List.{All}
use Rattle.cert_prices.specs.Sums.{AreGiven}
use Rattle.cert_prices.proofs.edges.set_loops.Given as goal

abbrev pub invariant-loop-number : goal.invariant-loop-number
invariant-loop-number l = record {
  entering : AreGiven (λ l. l.entries) (take l.number l.u.loops) (length l.u.edges) l.entries l.entering;
  returning : AreGiven (λ l. l.back) (take l.number l.u.loops) (length l.u.edges) l.backs l.returning;
  small_entering : All (λ price. price < 2 ^ 126) l.entering;
  small_returning : All (λ price. price < 2 ^ 126) l.returning;
}
