use Rattle.std.proofs.Common.{◌≡◌, ℕ, ◌<◌, ◌≤◌, slice_get, Some}
use Rattle.flow_ctx.specs.declared.unfolded.Edge.{Edge}
use Rattle.cert_check.proofs.ranges.end_of.Given as goal

abbrev pub invariant-loop-number : goal.invariant-loop-number
invariant-loop-number l = record {
  from : l.first ≤ l.number;
  inside : (k : ℕ) (e : Edge) → l.first ≤ k → k < l.number → slice_get l.edges k ≡ Some e → e.from ≡ l.node;
}
