use Rattle.std.proofs.Common.{rules, refl, ◌≡◌, arith}
use Rattle.std.proofs.lemmas.List.Sorted.{IsNonDecreasingBy-from_sort_by_key}
use Rattle.wx_base.specs.declared.facts.LoopFact.{LoopFact}
use Rattle.ffx_facts.specs.Order.{loop_facts}
use Rattle.ffx_facts.proofs.Ordered.{loops_ascend, nothing_left}
use Rattle.ffx_facts.proofs.gather.gather_loops.Goals as goal

pub returns-clause-ascend : goal.returns-clause-ascend
returns-clause-ascend c =
    let all = c.args.all.now in
    let facts = c.loop-says.loops.items in
    let sorted = c.sort_by_key.new.self.items in
    let said : facts ≡ loop_facts all = nothing_left loop_facts facts all c.loop-says.says-index (omega arith) refl c.loop-says.invariant in
    loops_ascend all facts sorted c.requires said c.sort_by_key.ensures.permutation
    (IsNonDecreasingBy-from_sort_by_key (λ (f : LoopFact). f.address) sorted c.in_ok-sort_by_key.ensures.sorted (λ a r q k. search rules))
