-- A program that has an unfolding of few nodes has not too many.
use Rattle.std.proofs.Common.{arith}
use Rattle.flow_graph.specs.declared.program.Program.{Program}
use Rattle.flow_ctx.specs.declared.unfolded.Unfolded.{Unfolded}
use Rattle.flow_ctx.specs.Unfolding.{HasTooManyNodes}
use Rattle.wcet_front.specs.Inputs.{IsSmallUnfolding}
use Rattle.wcet_front.proofs.Listed.{no_more}

pub not_too_many : (program : Program) (u : Unfolded) → IsSmallUnfolding program u → HasTooManyNodes program → ⊥
not_too_many program u small many =
    let few = no_more u.nodes many.nodes many.different (λ k d within. small.is.nodes.whole _ (many.reached k d within)) in
    omega (arith, few, many.many, small.few)
