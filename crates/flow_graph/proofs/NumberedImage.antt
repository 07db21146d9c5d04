-- The loops of a function of an image, from those of the graph over the numbers of its addresses.
use Rattle.std.proofs.Common.{◌≡◌, ℕ, ◌<◌, List, length, map, Some, subst, sym}
use Rattle.std.specs.List.{All}
use Rattle.std.specs.Prelude.{slice_index}
use Rattle.wx_base.specs.declared.facts.Facts.{Facts}
use Rattle.wx_base.specs.declared.image.Image.{Image}
use Rattle.wx_base.specs.Functions.{ways_at, fact_of, fact_on, IsLoop, AreLoops}
use Rattle.wx_base.specs.Monitor.{BoundedLoop}
use Rattle.wx_base.specs.Paths.{IsHead, IsMember}
use Rattle.graph_loops.specs.Graph.{edges}
use Rattle.flow_graph.specs.Numbers.{IsNumbering}
use Rattle.flow_graph.proofs.NumberedLists.{AreJust, any_with_key, pairs_from_mapped}
use Rattle.flow_graph.proofs.NumberedLoops.{head_within, head_to, just_heads, just_members}

module _ {image : Image} {facts : Facts} {addresses : List ℕ} {numbered : List (List ℕ)} (is : IsNumbering addresses numbered (ways_at image facts)) where
  -- a loop of numbers with its addresses, and with the bounds that the facts give its head
  pub loop_to : (e h : ℕ) (members : List ℕ) (loop : BoundedLoop) → e < length addresses → IsHead (edges numbered) e h → AreJust (IsMember (edges numbered) e h) members
      → loop.head ≡ slice_index addresses h → loop.members ≡ map (slice_index addresses) members → fact_of facts loop.head ≡ Some (fact_on loop)
      → IsLoop image facts (slice_index addresses e) loop
  loop_to e h members loop he head just at_head are bounds =
      let entry = slice_index addresses e in
      let leads = ways_at image facts in
      let mapped = subst (AreJust (IsMember leads entry (slice_index addresses h))) (sym are) (just_members is e h members he (head_within is he head) just) in
      let there = subst (λ (a : ℕ). AreJust (IsMember leads entry a) loop.members) (sym at_head) mapped in
      record { head = subst (λ (a : ℕ). IsHead leads entry a) (sym at_head) (head_to is he head); bounds = bounds; ascending = there.ascending; members = there.sound; whole = there.whole }

  -- loops with the addresses of exactly the heads are all the loops
  pub loops_to : (e : ℕ) (heads : List ℕ) (loops : List BoundedLoop) → e < length addresses → AreJust (IsHead (edges numbered) e) heads
      → map (λ l. l.head) loops ≡ map (slice_index addresses) heads → All (λ l. IsLoop image facts (slice_index addresses e) l) loops
      → AreLoops image facts (slice_index addresses e) loops
  loops_to e heads loops he just same each =
      let mapped = subst (AreJust (IsHead (ways_at image facts) (slice_index addresses e))) (sym same) (just_heads is e heads he just) in
      record {
        ascending = pairs_from_mapped (λ h k. h < k) (λ l. l.head) loops mapped.ascending;
        each = each;
        whole = λ h head. any_with_key (λ l. l.head) loops h (mapped.whole h head);
      }
