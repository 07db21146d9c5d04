use Rattle.std.proofs.Common.{◌<◌, ◌^◌}
use Rattle.std.specs.List.{All}
use Rattle.cert_prices.proofs.BackLemmas.{IsBackPrice}
use Rattle.cert_prices.proofs.GrownLemmas.{FirstOf}
use Rattle.cert_prices.proofs.edges.back_prices.Given as goal

abbrev pub invariant-loop-number : goal.invariant-loop-number
invariant-loop-number l = record {
  prices : FirstOf (IsBackPrice l.c l.u) l.u.loops l.number l.prices.items;
  bound : All (λ price. price < 2 ^ 126) l.prices.items;
}
