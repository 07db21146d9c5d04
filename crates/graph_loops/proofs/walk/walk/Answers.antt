use Rattle.std.proofs.Common.{◌≡◌, ◌<◌, ◌≤◌, ℕ, List, length, get_or, option_to_list, sym, subst, ap, ◌∙◌, arith}
use Rattle.graph_loops.specs.Graph.{lists_of, edges}
use Rattle.graph_loops.specs.Walk.{CameTo}
use Rattle.graph_loops.proofs.Places.{lists_length}
use Rattle.graph_loops.proofs.WalkLemmas.{walk_begins, walk_goes_on, walk_ends, queue_within, targets_within}
use Rattle.graph_loops.proofs.walk.walk.Goals as goal
use Rattle.graph_loops.proofs.walk.walk.Goals.{else-loop-i-test, then-loop-i-test+in_default}

pub loop-i-init : goal.loop-i-init
loop-i-init c = record {
  count = c.in_ok-come_to_all.ensures.count ∙ omega (arith, c.in_ok-marks.marks.ok.0, c.in_ok-marks.ensures.len);
  marked = c.in_ok-come_to_all.ensures.marked;
  walked = walk_begins (lists_of c.args.lists.now) (option_to_list c.args.avoided) c.args.roots.now c.come_to_all.new.queue.items
      (subst (λ (q : List ℕ). CameTo q c.come_to_all.new.queue.items (option_to_list c.args.avoided) c.args.roots.now) c.new-queue.ensures.items c.in_ok-come_to_all.ensures.came);
}

pub list_at-requires : goal.list_at-requires
list_at-requires c =
    queue_within (lists_of c.args.lists.now) (option_to_list c.args.avoided) c.args.roots.now c.loop-i.i c.loop-i.queue.items (length c.args.lists.now) c.in-Some.v
    (sym (lists_length c.args.lists.now)) c.requires.graph c.requires.roots c.loop-i.invariant.walked
    (subst (λ (q : List ℕ). c.loop-i.i < length q) c.as_slice.ensures.value c.in-Some.ensures.0)
    (c.in-Some.ensures.1 ∙ ap (λ (q : List ℕ). get_or q c.loop-i.i 0) c.as_slice.ensures.value)

pub come_to_all-requires-in-loop-i-clause-vertices : goal.come_to_all-requires-in-loop-i-clause-vertices
come_to_all-requires-in-loop-i-clause-vertices c =
    targets_within (lists_of c.args.lists.now) (length c.loop-i.marks.items) c.in-Some.v c.list_at.result.now (c.loop-i.invariant.count ∙ sym (lists_length c.args.lists.now)) c.requires.graph (sym c.list_at.ensures)

pub loop-i-preserved : goal.loop-i-preserved
loop-i-preserved c =
    let lists = lists_of c.args.lists.now in
    let avoided = option_to_list c.args.avoided in
    let after = c.come_to_all-in-loop-i.new.queue.items in
    let v : c.in-Some.v ≡ get_or c.loop-i.queue.items c.loop-i.i 0 = c.in-Some.ensures.1 ∙ ap (λ (q : List ℕ). get_or q c.loop-i.i 0) c.as_slice.ensures.value in
    record {
      count = c.in_ok-come_to_all-2.ensures.count ∙ c.loop-i.invariant.count;
      marked = c.in_ok-come_to_all-2.ensures.marked;
      walked = walk_goes_on lists avoided c.args.roots.now c.loop-i.i c.loop-i.queue.items c.loop-i.invariant.walked after
          (subst (λ (q : List ℕ). c.loop-i.i < length q) c.as_slice.ensures.value c.in-Some.ensures.0)
          (subst (λ (targets : List ℕ). CameTo c.loop-i.queue.items after avoided targets) (c.list_at.ensures ∙ ap (λ (x : ℕ). edges lists x) v) c.in_ok-come_to_all-2.ensures.came);
    }

pub returns : goal.returns
returns c =
    let ends = walk_ends (lists_of c.args.lists.now) (option_to_list c.args.avoided) c.args.roots.now c.loop-i.i c.loop-i.queue.items c.loop-i.invariant.walked c.loop-i.marks.items in
    let count : length c.loop-i.marks.items ≡ length (lists_of c.args.lists.now) = c.loop-i.invariant.count ∙ sym (lists_length c.args.lists.now) in
    elim c.loop-i-test.branch [
      | else-loop-i-test w ↦ ends (omega (arith, c.loop-i.queue.ok.0, c.loop-i.queue.small, w.loop-i-test.false)) count c.loop-i.invariant.marked
      | then-loop-i-test+in_default w ↦
          ends (subst (λ (q : List ℕ). length q ≤ c.loop-i.i) w.as_slice.ensures.value w.in_default.ensures) count c.loop-i.invariant.marked
    ]
