use Rattle.std.proofs.Common.{take}
use Rattle.cert_prices.specs.Sums.{Sets}
use Rattle.cert_prices.proofs.edges.set_edges.Given as goal

abbrev pub invariant-loop-edge : goal.invariant-loop-edge
invariant-loop-edge l = Sets (take l.edge-index l.edges) l.amount l.initial.amounts l.amounts
