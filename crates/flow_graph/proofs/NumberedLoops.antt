-- A graph over addresses and the graph over their numbers have the same back edges, loops and forward cycles. Names end as in
-- `Numbered`: `_within` says that numbers stay below the count, `_to` goes from numbers to addresses, `_from` from addresses to
-- numbers, and `_back` does so where the numbers are known.
use Rattle.std.proofs.Common.{◌≡◌, ℕ, ◌<◌, List, [], ◌∷◌, length, map, refl, sym, ap, subst, inl, inr}
use Rattle.std.specs.List.{Contains}
use Rattle.std.specs.Prelude.{slice_index}
use Rattle.wx_base.specs.Paths.{Path, IsBackEdge, IsHead, IsInner, IsMember, IsForward, ForwardPath, IsOnForwardCycle}
use Rattle.wx_base.specs.Paths.ForwardPath.{one, more}
use Rattle.graph_loops.specs.Graph.{edges}
use Rattle.flow_graph.specs.Numbers.{HasNumber, IsNumbering}
use Rattle.flow_graph.proofs.NumberedLists.{AreJust, IsLeast, own, just_mapped, least_mapped}
use Rattle.flow_graph.proofs.Numbered.{edge_back, path_within, free_path_to, free_path_from, free_path_back, apart_path_to, apart_path_from, apart_path_back}

module _ {addresses : List ℕ} {numbered : List (List ℕ)} {leads : ℕ → List ℕ} (is : IsNumbering addresses numbered leads) where
  -- back edges
  pub source_within : {e s h : ℕ} → e < length addresses → IsBackEdge (edges numbered) e s h → s < length addresses
  source_within he back = path_within is he back.reached

  pub target_within : {e s h : ℕ} → e < length addresses → IsBackEdge (edges numbered) e s h → h < length addresses
  target_within {s = s} {h = h} he back = is.within s h (source_within he back) back.edge

  pub back_edge_to : {e s h : ℕ} → e < length addresses → IsBackEdge (edges numbered) e s h
      → IsBackEdge leads (slice_index addresses e) (slice_index addresses s) (slice_index addresses h)
  back_edge_to {e} {s} {h} he back =
      let hs = source_within he back in
      record {
        reached = free_path_to is he back.reached;
        edge = is.sound s h hs back.edge;
        through = λ path. back.through (apart_path_back is h e s he hs path);
      }

  pub back_edge_back : (e s h : ℕ) → e < length addresses → s < length addresses → h < length addresses
      → IsBackEdge leads (slice_index addresses e) (slice_index addresses s) (slice_index addresses h) → IsBackEdge (edges numbered) e s h
  back_edge_back e s h he hs hh back = record {
    reached = free_path_back is e s he hs back.reached;
    edge = edge_back is s h hs hh back.edge;
    through = λ path. back.through (apart_path_to is hh he path);
  }

  pub back_edge_from : (e : ℕ) {b c : ℕ} → e < length addresses → IsBackEdge leads (slice_index addresses e) b c
      → HasNumber addresses (λ s. HasNumber addresses (λ h. IsBackEdge (edges numbered) e s h) c) b
  back_edge_from e {b} {c} he back =
      let s = free_path_from is e he back.reached in
      let h = is.whole s.number c s.within (subst (λ x. Contains (leads x) c) s.is back.edge) in
      let same = subst (λ y. IsBackEdge leads (slice_index addresses e) (slice_index addresses s.number) y) h.is
      (subst (λ x. IsBackEdge leads (slice_index addresses e) x c) s.is back) in
      record {
        number = s.number;
        within = s.within;
        is = s.is;
        holds = record { number = h.number; within = h.within; is = h.is; holds = back_edge_back e s.number h.number he s.within h.within same };
      }

  -- heads
  pub head_within : {e h : ℕ} → e < length addresses → IsHead (edges numbered) e h → h < length addresses
  head_within he head = target_within he head.back

  pub head_to : {e h : ℕ} → e < length addresses → IsHead (edges numbered) e h → IsHead leads (slice_index addresses e) (slice_index addresses h)
  head_to he head = record { source = slice_index addresses head.source; back = back_edge_to he head.back }

  pub head_from : (e : ℕ) {b : ℕ} → e < length addresses → IsHead leads (slice_index addresses e) b → HasNumber addresses (λ h. IsHead (edges numbered) e h) b
  head_from e he head =
      let s = back_edge_from e he head.back in
      let h = s.holds in
      record { number = h.number; within = h.within; is = h.is; holds = record { source = s.number; back = h.holds } }

  pub head_back : (e h : ℕ) → e < length addresses → h < length addresses → IsHead leads (slice_index addresses e) (slice_index addresses h) → IsHead (edges numbered) e h
  head_back e h he hh head = own addresses is.ascending (λ v. IsHead (edges numbered) e v) h hh (head_from e he head)

  -- members
  pub inner_within : {e h v : ℕ} → e < length addresses → IsInner (edges numbered) e h v → v < length addresses
  inner_within he inner = path_within is he inner.reached

  pub inner_to : {e h v : ℕ} → e < length addresses → IsInner (edges numbered) e h v
      → IsInner leads (slice_index addresses e) (slice_index addresses h) (slice_index addresses v)
  inner_to he inner = record {
    reached = free_path_to is he inner.reached;
    source = slice_index addresses inner.source;
    back = back_edge_to he inner.back;
    path = apart_path_to is (target_within he inner.back) (inner_within he inner) inner.path;
  }

  pub inner_from : (e h : ℕ) {b : ℕ} → e < length addresses → h < length addresses → IsInner leads (slice_index addresses e) (slice_index addresses h) b
      → HasNumber addresses (λ v. IsInner (edges numbered) e h v) b
  inner_from e h {b} he hh inner =
      let v = free_path_from is e he inner.reached in
      let s = apart_path_from is h v.number v.within (subst (λ x. Path leads (slice_index addresses h ∷ []) x inner.source) v.is inner.path) in
      let back = subst (λ x. IsBackEdge leads (slice_index addresses e) x (slice_index addresses h)) s.is inner.back in
      record {
        number = v.number;
        within = v.within;
        is = v.is;
        holds = record { reached = v.holds; source = s.number; back = back_edge_back e s.number h he s.within hh back; path = s.holds };
      }

  pub member_within : (e h v : ℕ) → e < length addresses → h < length addresses → IsMember (edges numbered) e h v → v < length addresses
  member_within e h v he hh (inl is_head) = subst (λ x. x < length addresses) (sym is_head) hh
  member_within e h v he hh (inr inner) = inner_within he inner

  pub member_to : (e h v : ℕ) → e < length addresses → IsMember (edges numbered) e h v
      → IsMember leads (slice_index addresses e) (slice_index addresses h) (slice_index addresses v)
  member_to e h v he (inl is_head) = inl (ap (slice_index addresses) is_head)
  member_to e h v he (inr inner) = inr (inner_to he inner)

  pub member_from : (e h b : ℕ) → e < length addresses → h < length addresses → IsMember leads (slice_index addresses e) (slice_index addresses h) b
      → HasNumber addresses (λ v. IsMember (edges numbered) e h v) b
  member_from e h b he hh (inl is_head) = record { number = h; within = hh; is = is_head; holds = inl refl }
  member_from e h b he hh (inr inner) =
      let v = inner_from e h he hh inner in
      record { number = v.number; within = v.within; is = v.is; holds = inr v.holds }

  pub member_back : (e h v : ℕ) → e < length addresses → h < length addresses → v < length addresses
      → IsMember leads (slice_index addresses e) (slice_index addresses h) (slice_index addresses v) → IsMember (edges numbered) e h v
  member_back e h v he hh hv member = own addresses is.ascending (λ x. IsMember (edges numbered) e h x) v hv (member_from e h (slice_index addresses v) he hh member)

  -- forward edges
  pub forward_to : {e a b : ℕ} → e < length addresses → IsForward (edges numbered) e a b
      → IsForward leads (slice_index addresses e) (slice_index addresses a) (slice_index addresses b)
  forward_to {e} {a} {b} he edge =
      let ha = path_within is he edge.reached in
      let hb = is.within a b ha edge.edge in
      record {
        reached = free_path_to is he edge.reached;
        edge = is.sound a b ha edge.edge;
        forward = λ back. edge.forward (back_edge_back e a b he ha hb back);
      }

  pub forward_back : (e a b : ℕ) → e < length addresses → a < length addresses → b < length addresses
      → IsForward leads (slice_index addresses e) (slice_index addresses a) (slice_index addresses b) → IsForward (edges numbered) e a b
  forward_back e a b he ha hb edge = record {
    reached = free_path_back is e a he ha edge.reached;
    edge = edge_back is a b ha hb edge.edge;
    forward = λ back. edge.forward (back_edge_to he back);
  }

  forward_at : (e a : ℕ) {x y : ℕ} → e < length addresses → a < length addresses → x ≡ slice_index addresses a → IsForward leads (slice_index addresses e) x y
      → HasNumber addresses (λ b. IsForward (edges numbered) e a b) y
  forward_at e a {x} {y} he ha x_is edge =
      let from_a = subst (λ z. IsForward leads (slice_index addresses e) z y) x_is edge in
      let b = is.whole a y ha from_a.edge in
      let to_b = subst (λ z. IsForward leads (slice_index addresses e) (slice_index addresses a) z) b.is from_a in
      record { number = b.number; within = b.within; is = b.is; holds = forward_back e a b.number he ha b.within to_b }

  pub forward_from : (e a : ℕ) {b : ℕ} → e < length addresses → a < length addresses → IsForward leads (slice_index addresses e) (slice_index addresses a) b
      → HasNumber addresses (λ v. IsForward (edges numbered) e a v) b
  forward_from e a he ha edge = forward_at e a he ha refl edge

  -- where a path of forward edges begins
  pub forward_starts : {a b : ℕ} (e : ℕ) → e < length addresses → ForwardPath leads (slice_index addresses e) a b → HasNumber addresses (λ v. Path (edges numbered) [] e v) a
  forward_starts e he (one edge) = free_path_from is e he edge.reached
  forward_starts e he (more edge rest) = free_path_from is e he edge.reached

  pub forward_path_to : {e a b : ℕ} → e < length addresses → ForwardPath (edges numbered) e a b
      → ForwardPath leads (slice_index addresses e) (slice_index addresses a) (slice_index addresses b)
  forward_path_to he (one edge) = one (forward_to he edge)
  forward_path_to he (more edge rest) = more (forward_to he edge) (forward_path_to he rest)

  forward_path_at : (e : ℕ) {x y : ℕ} (a : ℕ) → e < length addresses → a < length addresses → x ≡ slice_index addresses a → ForwardPath leads (slice_index addresses e) x y
      → HasNumber addresses (λ b. ForwardPath (edges numbered) e a b) y
  forward_path_at e a he ha x_is (one edge) =
      let b = forward_at e a he ha x_is edge in
      record { number = b.number; within = b.within; is = b.is; holds = one b.holds }
  forward_path_at e a he ha x_is (more edge rest) =
      let b = forward_at e a he ha x_is edge in
      let c = forward_path_at e b.number he b.within b.is rest in
      record { number = c.number; within = c.within; is = c.is; holds = more b.holds c.holds }

  pub forward_path_from : (e a : ℕ) {b : ℕ} → e < length addresses → a < length addresses → ForwardPath leads (slice_index addresses e) (slice_index addresses a) b
      → HasNumber addresses (λ v. ForwardPath (edges numbered) e a v) b
  forward_path_from e a he ha path = forward_path_at e a he ha refl path

  pub forward_path_back : (e a b : ℕ) → e < length addresses → a < length addresses → b < length addresses
      → ForwardPath leads (slice_index addresses e) (slice_index addresses a) (slice_index addresses b) → ForwardPath (edges numbered) e a b
  forward_path_back e a b he ha hb path = own addresses is.ascending (λ v. ForwardPath (edges numbered) e a v) b hb (forward_path_from e a he ha path)

  pub forward_path_within : {e a b : ℕ} → e < length addresses → ForwardPath (edges numbered) e a b → (a < length addresses) × (b < length addresses)
  forward_path_within {a = a} {b = b} he (one edge) =
      let ha = path_within is he edge.reached in
      (ha, is.within a b ha edge.edge)
  forward_path_within he (more edge rest) = (path_within is he edge.reached, (forward_path_within he rest).1)

  -- forward cycles
  pub cycle_within : (e v : ℕ) → e < length addresses → IsOnForwardCycle (edges numbered) e v → v < length addresses
  cycle_within e v he cycle = (forward_path_within he cycle).0

  pub cycle_to : (e v : ℕ) → e < length addresses → IsOnForwardCycle (edges numbered) e v → IsOnForwardCycle leads (slice_index addresses e) (slice_index addresses v)
  cycle_to e v he cycle = forward_path_to he cycle

  pub cycle_back : (e v : ℕ) → e < length addresses → v < length addresses → IsOnForwardCycle leads (slice_index addresses e) (slice_index addresses v) → IsOnForwardCycle (edges numbered) e v
  cycle_back e v he hv cycle = forward_path_back e v v he hv hv cycle

  pub cycle_from : (e b : ℕ) → e < length addresses → IsOnForwardCycle leads (slice_index addresses e) b → HasNumber addresses (λ v. IsOnForwardCycle (edges numbered) e v) b
  cycle_from e b he cycle =
      let v = forward_starts e he cycle in
      let numbered_cycle = subst (λ x. ForwardPath leads (slice_index addresses e) x x) v.is cycle in
      record { number = v.number; within = v.within; is = v.is; holds = cycle_back e v.number he v.within numbered_cycle }

  -- lists
  pub just_heads : (e : ℕ) (heads : List ℕ) → e < length addresses → AreJust (IsHead (edges numbered) e) heads
      → AreJust (IsHead leads (slice_index addresses e)) (map (slice_index addresses) heads)
  just_heads e heads he just =
      just_mapped addresses is.ascending (λ h head. head_within he head) (λ h head. head_to he head) (λ b head. head_from e he head) heads just

  pub just_members : (e h : ℕ) (members : List ℕ) → e < length addresses → h < length addresses → AreJust (IsMember (edges numbered) e h) members
      → AreJust (IsMember leads (slice_index addresses e) (slice_index addresses h)) (map (slice_index addresses) members)
  just_members e h members he hh just =
      just_mapped addresses is.ascending (λ v member. member_within e h v he hh member) (λ v member. member_to e h v he member) (λ b member. member_from e h b he hh member) members just

  pub just_reached : (e : ℕ) (reached : List ℕ) → e < length addresses → AreJust (λ v. Path (edges numbered) [] e v) reached
      → AreJust (λ b. Path leads [] (slice_index addresses e) b) (map (slice_index addresses) reached)
  just_reached e reached he just =
      just_mapped addresses is.ascending (λ v path. path_within is he path) (λ v path. free_path_to is he path) (λ b path. free_path_from is e he path) reached just

  -- the least number on a forward cycle is that of the least address on one
  pub least_on_cycle : (e v : ℕ) → e < length addresses → IsLeast (IsOnForwardCycle (edges numbered) e) v
      → IsLeast (IsOnForwardCycle leads (slice_index addresses e)) (slice_index addresses v)
  least_on_cycle e v he least =
      least_mapped addresses is.ascending (λ v cycle. cycle_within e v he cycle) (λ v cycle. cycle_to e v he cycle) (λ b cycle. cycle_from e b he cycle) v least
