use Rattle.std.proofs.Common.{◌≡◌, ◌<◌, ◌≤◌, ℕ, List, length, get_or, sym, subst, ap, ◌∙◌, arith}
use Rattle.cache_kept.specs.Walk.{CameTo}
use Rattle.cache_kept.specs.Ways.{list_at}
use Rattle.cache_kept.proofs.Lists.{there_too}
use Rattle.cache_kept.proofs.WaysLemmas.{list_there}
use Rattle.cache_kept.proofs.WalkLemmas.{next_within, walk_begins, walk_goes_on, walk_ends}
use Rattle.cache_kept.proofs.walk.spread.Goals as goal
use Rattle.cache_kept.proofs.walk.spread.Goals.{else-loop-i-test, then-loop-i-test+in_default}

pub loop-i-init : goal.loop-i-init
loop-i-init c = record {
  count = c.in_ok-come_to_all.ensures.count ∙ omega (arith, c.in_ok-marks.marks.ok.0, c.in_ok-marks.ensures.len);
  marked = c.in_ok-come_to_all.ensures.marked;
  walked = walk_begins c.args.lists.now c.args.inside.now c.args.roots.now c.come_to_all.new.queue.items
      (subst (λ (q : List ℕ). CameTo q c.come_to_all.new.queue.items c.args.inside.now c.args.roots.now) c.new-queue.ensures.items c.in_ok-come_to_all.ensures.came);
}

pub bounds-lists-node : goal.bounds-lists-node
bounds-lists-node c =
    let here : c.loop-i.i < length c.loop-i.queue.items = subst (λ (q : List ℕ). c.loop-i.i < length q) c.as_slice.ensures.value c.in-Some.ensures.0 in
    let is : c.in-Some.node ≡ get_or c.loop-i.queue.items c.loop-i.i 0 = c.in-Some.ensures.1 ∙ ap (λ (q : List ℕ). get_or q c.loop-i.i 0) c.as_slice.ensures.value in
    next_within c.args.lists.now c.args.inside.now c.args.roots.now c.loop-i.i c.in-Some.node c.loop-i.queue.items c.requires.long c.loop-i.invariant.walked here is

pub come_to_all-requires-in-loop-i-clause-nodes : goal.come_to_all-requires-in-loop-i-clause-nodes
come_to_all-requires-in-loop-i-clause-nodes c =
    let here : c.loop-i.i < length c.loop-i.queue.items = subst (λ (q : List ℕ). c.loop-i.i < length q) c.as_slice.ensures.value c.in-Some.ensures.0 in
    let is : c.in-Some.node ≡ get_or c.loop-i.queue.items c.loop-i.i 0 = c.in-Some.ensures.1 ∙ ap (λ (q : List ℕ). get_or q c.loop-i.i 0) c.as_slice.ensures.value in
    let inside : c.in-Some.node < length c.args.lists.now = next_within c.args.lists.now c.args.inside.now c.args.roots.now c.loop-i.i c.in-Some.node c.loop-i.queue.items c.requires.long c.loop-i.invariant.walked here is in
    record {
      within = λ v there. omega (
        arith,
        c.loop-i.invariant.count,
        (c.requires.lists c.in-Some.node).within v (there_too c.as_slice-in-loop-i.result.now (list_at c.args.lists.now c.in-Some.node) v
            (c.as_slice-in-loop-i.ensures.value ∙ sym (list_there c.args.lists.now c.in-Some.node c.index-lists-node.result inside c.index-lists-node.is)) there),
      );
    }

pub loop-i-preserved : goal.loop-i-preserved
loop-i-preserved c =
    let after = c.come_to_all-in-loop-i.new.queue.items in
    let v : c.in-Some.node ≡ get_or c.loop-i.queue.items c.loop-i.i 0 = c.in-Some.ensures.1 ∙ ap (λ (q : List ℕ). get_or q c.loop-i.i 0) c.as_slice.ensures.value in
    let here : c.loop-i.i < length c.loop-i.queue.items = subst (λ (q : List ℕ). c.loop-i.i < length q) c.as_slice.ensures.value c.in-Some.ensures.0 in
    let inside : c.in-Some.node < length c.args.lists.now = next_within c.args.lists.now c.args.inside.now c.args.roots.now c.loop-i.i c.in-Some.node c.loop-i.queue.items c.requires.long c.loop-i.invariant.walked here v in
    let list : c.as_slice-in-loop-i.result.now ≡ list_at c.args.lists.now c.in-Some.node =
    c.as_slice-in-loop-i.ensures.value ∙ sym (list_there c.args.lists.now c.in-Some.node c.index-lists-node.result inside c.index-lists-node.is) in
    record {
      count = c.in_ok-come_to_all-2.ensures.count ∙ c.loop-i.invariant.count;
      marked = c.in_ok-come_to_all-2.ensures.marked;
      walked = walk_goes_on c.args.lists.now c.args.inside.now c.args.roots.now c.loop-i.i c.loop-i.queue.items c.loop-i.invariant.walked after
          (subst (λ (q : List ℕ). c.loop-i.i < length q) c.as_slice.ensures.value c.in-Some.ensures.0)
          (subst (λ (targets : List ℕ). CameTo c.loop-i.queue.items after c.args.inside.now targets) (list ∙ ap (λ (x : ℕ). list_at c.args.lists.now x) v) c.in_ok-come_to_all-2.ensures.came);
    }

pub returns : goal.returns
returns c =
    let ends = walk_ends c.args.lists.now c.args.inside.now c.args.roots.now c.loop-i.i c.loop-i.queue.items c.loop-i.invariant.walked c.loop-i.marks.items in
    elim c.loop-i-test.branch [
      | else-loop-i-test w ↦ ends (omega (arith, c.loop-i.queue.ok.0, c.loop-i.queue.small, w.loop-i-test.false)) c.loop-i.invariant.count c.loop-i.invariant.marked
      | then-loop-i-test+in_default w ↦
          ends (subst (λ (q : List ℕ). length q ≤ c.loop-i.i) w.as_slice.ensures.value w.in_default.ensures) c.loop-i.invariant.count c.loop-i.invariant.marked
    ]
