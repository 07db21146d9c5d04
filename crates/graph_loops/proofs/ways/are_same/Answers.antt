use Rattle.std.proofs.Common.{refl, arith}
use Rattle.std.proofs.lemmas.Bool.{false≢true}
use Rattle.std.proofs.lemmas.List.Elements.{Contains-get_or}
use Rattle.graph_loops.proofs.WayLemmas.{all_same}
use Rattle.graph_loops.proofs.ways.are_same.Goals as goal

pub returns-then-v-vertices : goal.returns-then-v-vertices
returns-then-v-vertices c = (
  λ e. absurd (false≢true e),
  λ s. absurd (c.if-v-vertices.true (s.same _ _ (Contains-get_or c.args.vertices.now c.loop-v.v-index 0 (omega arith)) (Contains-get_or c.args.vertices.now 0 0 (omega arith)))),
)

pub returns : goal.returns
returns c = (λ _. all_same c.args.vertices.now (λ k h. c.loop-v.invariant k (omega arith)), λ _. refl)
