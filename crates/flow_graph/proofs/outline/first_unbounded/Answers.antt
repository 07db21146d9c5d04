use Rattle.std.proofs.Common.{◌+◌, ℕ, Option, Some, take, sym, subst, arith}
use Rattle.std.specs.List.{Any}
use Rattle.flow_graph.specs.Listing.{IsLeast}
use Rattle.flow_graph.proofs.OutlineLemmas.{IsUnboundedHead, head_unbounded, head_bounded, least_head, least_more, least_passed, least_all}
use Rattle.flow_graph.proofs.outline.first_unbounded.Goals as goal
use Rattle.flow_graph.proofs.outline.first_unbounded.Goals.{then-is_none, else-is_none}

pub loop-found-preserved : goal.loop-found-preserved
loop-found-preserved c =
    let facts = c.args.facts.now in
    let addresses = c.args.addresses.now in
    let loops = c.args.loops.now in
    let i = c.loop-found.found-index in
    let found = c.found-item.result in
    let Kind = IsUnboundedHead facts addresses in
    elim c.if-is_none.branch [
      | then-is_none w ↦
          subst (λ (a : Option ℕ). IsLeast (λ v. Any (λ l. Kind l v) (take (i + 1) loops)) a) (sym w.least-is)
          (least_more Kind loops i found c.loop-found.least (Some found.head) w.lesser-least.result c.loop-found-test.true c.found-item.is c.loop-found.invariant
          (head_unbounded facts addresses found c.loop_fact.result c.loop_fact.ensures.value w.if-is_none.ensures) w.lesser-least.ensures)
      | else-is_none w ↦
          subst (λ (a : Option ℕ). IsLeast (λ v. Any (λ l. Kind l v) (take (i + 1) loops)) a) (sym w.least-is)
          (least_passed Kind loops i found c.loop-found.least c.loop-found-test.true c.found-item.is
          (head_bounded facts addresses found c.loop_fact.result c.loop_fact.ensures.value w.if-is_none.ensures) c.loop-found.invariant)
    ]

pub returns : goal.returns
returns c =
    least_head c.args.facts.now c.args.addresses.now c.args.loops.now c.loop-found.least
    (least_all (IsUnboundedHead c.args.facts.now c.args.addresses.now) c.args.loops.now c.loop-found.found-index c.loop-found.least (omega (arith, c.loop-found-test.false)) c.loop-found.invariant)
