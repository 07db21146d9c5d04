use Rattle.std.proofs.Common.{◌≡◌, ◌<◌, ℕ, List, length, get_or, take, subst, ap, ◌∙◌, arith}
use Rattle.cache_kept.proofs.Lists.{none_distinct}
use Rattle.cache_kept.proofs.StepLemmas.{accesses_are, begins_at, goes_on_at, next_member, member_within}
use Rattle.cache_kept.proofs.search.search.Goals as goal

pub go_back-requires-clause-distinct : goal.go_back-requires-clause-distinct
go_back-requires-clause-distinct c = none_distinct c.new.result.items c.new.ensures.items

pub loop-i-init : goal.loop-i-init
loop-i-init c = record {
  long = c.in_ok-go_back.ensures.long;
  marked = c.in_ok-go_back.ensures.marked;
  searched = begins_at c.args.look.now c.requires.look c.args.node c.args.place _ c.new.result.items c.new-2.result.items c.go_back.new.trail.found.items c.go_back.new.trail.queue.items
      (ap (take c.args.place) (accesses_are c.args.look.now.flow.now c.args.node c.as_slice.result.now c.index-as_slice-node.result c.as_slice-accesses.result.now c.requires.node c.as_slice.ensures
      c.index-as_slice-node.is c.as_slice-accesses.ensures)) c.new.ensures.items c.new-2.ensures.items c.in_ok-go_back.ensures.distinct c.in_ok-go_back.ensures.step;
}

pub bounds-as_slice-source : goal.bounds-as_slice-source
bounds-as_slice-source c =
    let here : c.loop-i.i < length c.loop-i.trail.queue.items = subst (λ (q : List ℕ). c.loop-i.i < length q) c.as_slice-in-loop-i.ensures.value c.in-Some.ensures.0 in
    let is : c.in-Some.source ≡ get_or c.loop-i.trail.queue.items c.loop-i.i 0 = c.in-Some.ensures.1 ∙ ap (λ (q : List ℕ). get_or q c.loop-i.i 0) c.as_slice-in-loop-i.ensures.value in
    let member = next_member c.args.look.now c.args.node c.args.place c.loop-i.i c.in-Some.source c.loop-i.trail.found.items c.loop-i.trail.queue.items c.loop-i.invariant.searched here is in
    omega (arith, member_within c.args.look.now c.in-Some.source c.requires.look member, ap length c.as_slice-in-loop-i-2.ensures)

pub go_back-requires-in-loop-i-clause-node : goal.go_back-requires-in-loop-i-clause-node
go_back-requires-in-loop-i-clause-node c =
    let here : c.loop-i.i < length c.loop-i.trail.queue.items = subst (λ (q : List ℕ). c.loop-i.i < length q) c.as_slice-in-loop-i.ensures.value c.in-Some.ensures.0 in
    let is : c.in-Some.source ≡ get_or c.loop-i.trail.queue.items c.loop-i.i 0 = c.in-Some.ensures.1 ∙ ap (λ (q : List ℕ). get_or q c.loop-i.i 0) c.as_slice-in-loop-i.ensures.value in
    let member = next_member c.args.look.now c.args.node c.args.place c.loop-i.i c.in-Some.source c.loop-i.trail.found.items c.loop-i.trail.queue.items c.loop-i.invariant.searched here is in
    member_within c.args.look.now c.in-Some.source c.requires.look member

pub go_back-requires-in-loop-i-clause-member : goal.go_back-requires-in-loop-i-clause-member
go_back-requires-in-loop-i-clause-member c =
    let here : c.loop-i.i < length c.loop-i.trail.queue.items = subst (λ (q : List ℕ). c.loop-i.i < length q) c.as_slice-in-loop-i.ensures.value c.in-Some.ensures.0 in
    let is : c.in-Some.source ≡ get_or c.loop-i.trail.queue.items c.loop-i.i 0 = c.in-Some.ensures.1 ∙ ap (λ (q : List ℕ). get_or q c.loop-i.i 0) c.as_slice-in-loop-i.ensures.value in
    next_member c.args.look.now c.args.node c.args.place c.loop-i.i c.in-Some.source c.loop-i.trail.found.items c.loop-i.trail.queue.items c.loop-i.invariant.searched here is

pub loop-i-preserved : goal.loop-i-preserved
loop-i-preserved c =
    let here : c.loop-i.i < length c.loop-i.trail.queue.items = subst (λ (q : List ℕ). c.loop-i.i < length q) c.as_slice-in-loop-i.ensures.value c.in-Some.ensures.0 in
    let is : c.in-Some.source ≡ get_or c.loop-i.trail.queue.items c.loop-i.i 0 = c.in-Some.ensures.1 ∙ ap (λ (q : List ℕ). get_or q c.loop-i.i 0) c.as_slice-in-loop-i.ensures.value in
    let member = next_member c.args.look.now c.args.node c.args.place c.loop-i.i c.in-Some.source c.loop-i.trail.found.items c.loop-i.trail.queue.items c.loop-i.invariant.searched here is in
    record {
      long = c.in_ok-go_back-2.ensures.long;
      marked = c.in_ok-go_back-2.ensures.marked;
      searched = goes_on_at c.args.look.now c.requires.look c.args.node c.args.place c.loop-i.i c.in-Some.source c.as_slice-accesses-in-loop-i.result.now c.loop-i.trail.found.items
          c.loop-i.trail.queue.items c.go_back-in-loop-i.new.trail.found.items c.go_back-in-loop-i.new.trail.queue.items c.loop-i.invariant.searched here is
          (accesses_are c.args.look.now.flow.now c.in-Some.source c.as_slice-in-loop-i-2.result.now c.index-as_slice-source.result c.as_slice-accesses-in-loop-i.result.now
          (member_within c.args.look.now c.in-Some.source c.requires.look member) c.as_slice-in-loop-i-2.ensures c.index-as_slice-source.is c.as_slice-accesses-in-loop-i.ensures)
          c.in_ok-go_back-2.ensures.distinct c.in_ok-go_back-2.ensures.step;
    }
