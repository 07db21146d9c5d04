-- The leaf that a combination leads to, and a combination that leads to a leaf.
use Rattle.std.proofs.Common.{◌≡◌, ℕ, zero, suc, ◌<◌, Bool, true, false, List, length, slice_get, Some, sym, ap, ◌∙◌, arith, if◌then◌else◌, get_or}
use Rattle.std.proofs.lemmas.Option.{slice_get_within, slice_get-get_or}
use Rattle.xdd_table.specs.declared.node.Dd.{Dd}
use Rattle.xdd_table.specs.declared.node.Node.{Node}
use Rattle.xdd_table.specs.declared.node.Node.TheVariants.{Leaf, Branch}
use Rattle.xdd_table.specs.Diagram.{Combination, with_event, time, IsBelow, itself, by_hit, by_miss, IsTable}
use Rattle.xdd_table.specs.Order.{LeadsTo, ListsBelow}
use Rattle.xdd_table.proofs.OrderLemmas.{has_at}
use Rattle.xdd_table.proofs.Canonical.{node_at, leaf_time, branch_time, branch_of, hit_time, miss_time}

module _ (nodes : List Node) (table : IsTable nodes) where
  -- a leaf below a place that has the place's time
  record Reached (f : Combination) (p : ℕ) : Type 0 where
    place : ℕ
    below : IsBelow nodes p place
    leaf_is : slice_get nodes place ≡ Some (Leaf (time nodes f p))

  abbrev ReachedBefore : ℕ → Type 0
  ReachedBefore n = (f : Combination) (p : ℕ) → p < n → p < length nodes → Reached f p

  reached_branch : (b : Bool) (f : Combination) (p e : ℕ) (hit miss : Dd) → slice_get nodes p ≡ Some (Branch e hit miss)
      → time nodes f p ≡ (if b then time nodes f miss.place else time nodes f hit.place) → Reached f hit.place → Reached f miss.place → Reached f p
  reached_branch true f p e hit miss is t h m = record { place = m.place; below = by_miss is m.below; leaf_is = m.leaf_is ∙ ap (λ x. Some (Leaf x)) (sym t) }
  reached_branch false f p e hit miss is t h m = record { place = h.place; below = by_hit is h.below; leaf_is = h.leaf_is ∙ ap (λ x. Some (Leaf x)) (sym t) }

  reached_node : (n p : ℕ) (f : Combination) → ReachedBefore n → p < suc n → p < length nodes → (x : Node) → slice_get nodes p ≡ Some x → Reached f p
  reached_node n p f before less within (Leaf t) is = record { place = p; below = itself; leaf_is = is ∙ ap (λ x. Some (Leaf x)) (sym (leaf_time nodes table f p t is)) }
  reached_node n p f before less within (Branch e hit miss) is =
      let w = branch_of nodes table p e hit miss is in
      reached_branch (f e) f p e hit miss is (branch_time nodes table f p e hit miss is)
      (before f hit.place (omega (arith, w.hit_before)) (omega (arith, w.hit_before)))
      (before f miss.place (omega (arith, w.miss_before)) (omega (arith, w.miss_before)))

  reached : (n : ℕ) → ReachedBefore n
  reached zero f p less within = absurd (omega arith)
  reached (suc n) f p less within = let a = node_at nodes p within in reached_node n p f (reached n) less within a.node a.is

  pub leads : (f : Combination) (p : ℕ) (places : List ℕ) → p < length nodes → ListsBelow nodes p places → LeadsTo nodes f p places
  leads f p places within l = let r = reached (suc p) f p (omega arith) within in record { place = r.place; listed = l.whole r.place r.below; leaf_is = r.leaf_is }

  -- a combination that leads to a leaf below
  pub led : {p q : ℕ} (t : ℕ) → IsBelow nodes p q → slice_get nodes q ≡ Some (Leaf t) → (f : Combination) × (time nodes f p ≡ t)
  led t (itself {p}) at = (λ x. false, leaf_time nodes table (λ x. false) p t at)
  led t (by_hit {p} {q} {e} {hit} {miss} is b) at =
      let w = led t b at in
      (with_event w.0 e false, sym (hit_time nodes table w.0 p e hit miss (slice_get_within nodes p (Branch e hit miss) is) is) ∙ w.1)
  led t (by_miss {p} {q} {e} {hit} {miss} is b) at =
      let w = led t b at in
      (with_event w.0 e true, sym (miss_time nodes table w.0 p e hit miss (slice_get_within nodes p (Branch e hit miss) is) is) ∙ w.1)

  -- what is below a place of the table is a place of it
  pub within_below : {p q : ℕ} → IsBelow nodes p q → p < length nodes → q < length nodes
  within_below itself h = h
  within_below (by_hit {p} {q} {e} {hit} {miss} is b) h = let w = branch_of nodes table p e hit miss is in within_below b (omega (arith, w.hit_before))
  within_below (by_miss {p} {q} {e} {hit} {miss} is b) h = let w = branch_of nodes table p e hit miss is in within_below b (omega (arith, w.miss_before))

  pub places_within : (p : ℕ) (places : List ℕ) → p < length nodes → ListsBelow nodes p places → (k : ℕ) → k < length places → get_or places k 0 < length nodes
  places_within p places h l k i = within_below (l.sound (get_or places k 0) (has_at places k (get_or places k 0) (slice_get-get_or places k 0 i))) h
