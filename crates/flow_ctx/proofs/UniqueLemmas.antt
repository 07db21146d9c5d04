-- A program has one unfolding.
use Rattle.std.proofs.Common.{◌≡◌, ℕ, zero, suc, ◌<◌, ◌≤◌, ◌⊎◌, List, [], ◌∷◌, length, get_or, slice_get, Some, refl, sym, ap, ◌∙◌, subst, inl, inr, arith}
use Rattle.std.specs.List.{All, AllPairs, Any, Contains}
use Rattle.std.proofs.lemmas.Bool.{cases_lt}
use Rattle.std.proofs.lemmas.List.Elements.{All-contains, Contains-get_or}
use Rattle.std.proofs.lemmas.Option.{same_Some}
use Rattle.wx_base.specs.Facts.{AreAscending}
use Rattle.flow_block.specs.declared.block.Block.{Block}
use Rattle.flow_graph.specs.declared.program.Function.{Function}
use Rattle.flow_graph.specs.declared.program.LoopInfo.{LoopInfo}
use Rattle.flow_graph.specs.declared.program.Program.{Program}
use Rattle.flow_ctx.specs.declared.unfolded.Edge.{Edge}
use Rattle.flow_ctx.specs.declared.unfolded.ULoop.{ULoop}
use Rattle.flow_ctx.specs.declared.unfolded.UNode.{UNode}
use Rattle.flow_ctx.specs.declared.unfolded.Unfolded.{Unfolded}
use Rattle.flow_ctx.specs.Laws.{IsBuilt}
use Rattle.flow_ctx.specs.Nodes.{IsReached}
use Rattle.flow_ctx.specs.Order.{IsEdgeBefore, IsNodeBefore}
use Rattle.flow_ctx.specs.Targets.{IsInOrder}
use Rattle.flow_ctx.specs.Unfolding.{AreEdges, AreLoops, AreNodes, IsEdge, IsHeadNumber, IsHeadOf, IsLoop, IsMemberNumber, IsStartNumber, IsUnfolding}
use Rattle.flow_ctx.proofs.BuiltLemmas.{in_order}
use Rattle.flow_ctx.proofs.NumberLemmas.{node_once}
use Rattle.flow_ctx.proofs.OrderLemmas.{edge_apart, edge_through, node_apart, node_through}
use Rattle.flow_ctx.proofs.SearchLemmas.{begins_once, function_in_order, same_listed}

at_first : {X : Type 0} (y : X) (ys : List X) (x : X) (k : ℕ) → k < length (y ∷ ys) → get_or (y ∷ ys) k x ≡ x → (y ≡ x) ⊎ Contains ys x
at_first y ys x zero h e = inl e
at_first y ys x (suc k) h e = inr (k, omega arith, e)

pub first_or_later : {X : Type 0} (y : X) (ys : List X) (x : X) → Contains (y ∷ ys) x → (y ≡ x) ⊎ Contains ys x
first_or_later y ys x c = at_first y ys x c.0 c.1 c.2

module _ {X : Type 0} (before : X → X → Type 0) (through : (x y z : X) → before x y → before y z → before x z) (apart : (x y : X) → x ≡ y → before x y → ⊥) where
  -- the first is before each later one
  first_before : (y : X) (ys : List X) (x : X) → AllPairs before (y ∷ ys) → Contains ys x → before y x
  first_before y ys x up c = subst (λ (z : X). before y z) c.2 (up 0 (suc c.0) x (omega arith) (omega (arith, c.1)))

  tail_up : (y : X) (ys : List X) → AllPairs before (y ∷ ys) → AllPairs before ys
  tail_up y ys up i j d less h = up (suc i) (suc j) d (omega arith) (omega arith)

  rest_in : (x y : X) (xs ys : List X) → x ≡ y → AllPairs before (x ∷ xs) → ((z : X) → Contains (x ∷ xs) z → Contains (y ∷ ys) z) → (z : X) → Contains xs z → Contains ys z
  rest_in x y xs ys e up all z c = elim (first_or_later y ys z (all z (suc c.0, omega (arith, c.1), c.2))) [
    | inl s ↦ absurd (apart x z (e ∙ s) (first_before x xs z up c))
    | inr k ↦ k
  ]

  -- ascending lists of the same elements are one
  pub one_list : (xs ys : List X) → AllPairs before xs → AllPairs before ys → ((z : X) → Contains xs z → Contains ys z) → ((z : X) → Contains ys z → Contains xs z) → xs ≡ ys
  one_list [] [] a b there back = refl
  one_list [] (y ∷ ys) a b there back = let c = back y (0, omega arith, refl) in absurd (omega (arith, c.1))
  one_list (x ∷ xs) [] a b there back = let c = there x (0, omega arith, refl) in absurd (omega (arith, c.1))
  one_list (x ∷ xs) (y ∷ ys) a b there back =
      let e : x ≡ y = elim (first_or_later y ys x (there x (0, omega arith, refl))) [
        | inl s ↦ sym s
        | inr c ↦ elim (first_or_later x xs y (back y (0, omega arith, refl))) [
          | inl s ↦ s
          | inr d ↦ absurd (apart x x refl (through x y x (first_before x xs y a d) (first_before y ys x b c)))
        ]
      ] in
      let rest = one_list xs ys (tail_up x xs a) (tail_up y ys b) (rest_in x y xs ys e a there) (rest_in y x ys xs (sym e) b back) in
      λ i. e i ∷ rest i

numbers_one : (xs ys : List ℕ) → AreAscending xs → AreAscending ys → ((n : ℕ) → Contains xs n → Contains ys n) → ((n : ℕ) → Contains ys n → Contains xs n) → xs ≡ ys
numbers_one = one_list (λ x y. x < y) (λ x y z h k. omega (arith, h, k)) (λ x y e h. omega (arith, e, h))

module _ (program : Program) (order : IsInOrder program) where
  -- the function's loop at a head is one
  info_once : (n : UNode) (i j : LoopInfo) → IsHeadOf program n i → IsHeadOf program n j → i ≡ j
  info_once n i j h k =
      let f : h.function ≡ k.function = same_Some h.function k.function (sym h.is.function_stands ∙ k.is.function_stands) in
      let b : h.block ≡ k.block = same_Some h.block k.block (sym h.is.block_stands ∙ ap (λ (g : Function). slice_get g.blocks n.block) f ∙ k.is.block_stands) in
      same_listed (λ l. l.head) k.function.loops (function_in_order program order n.function k.function k.is.function_stands).loops i j
      (subst (λ (g : Function). Contains g.loops i) f h.listed) k.listed (sym h.head ∙ ap (λ (x : Block). x.start) b ∙ k.head)

  loop_once : (nodes : List UNode) (edges : List Edge) (l m : ULoop) → IsLoop program nodes edges l → IsLoop program nodes edges m → l.head ≡ m.head → l ≡ m
  loop_once nodes edges l m a b e =
      let node : a.node ≡ b.node = same_Some a.node b.node (sym a.stands ∙ ap (slice_get nodes) e ∙ b.stands) in
      let info : a.info ≡ b.info = info_once b.node a.info b.info (subst (λ (n : UNode). IsHeadOf program n a.info) node a.head) b.head in
      let members : l.members ≡ m.members = numbers_one l.members m.members a.members_ascend b.members_ascend
      (λ n c. (b.members n).1 (subst (λ (i : LoopInfo). IsMemberNumber program nodes b.node i n) info (subst (λ (x : UNode). IsMemberNumber program nodes x a.info n) node ((a.members n).0 c))))
      (λ n c. (a.members n).1 (subst (λ (i : LoopInfo). IsMemberNumber program nodes a.node i n) (sym info) (subst (λ (x : UNode). IsMemberNumber program nodes x b.info n) (sym node) ((b.members n).0 c)))) in
      let back : l.back ≡ m.back = numbers_one l.back m.back a.back_ascends b.back_ascends
      (λ n c. let k = (a.back n).0 c in (b.back n).1 (record { edge = k.edge; stands = k.stands; into = k.into ∙ e; inside = subst (λ (x : List ℕ). Contains x k.edge.from) members k.inside }))
      (λ n c. let k = (b.back n).0 c in (a.back n).1 (record { edge = k.edge; stands = k.stands; into = k.into ∙ sym e; inside = subst (λ (x : List ℕ). Contains x k.edge.from) (sym members) k.inside })) in
      let entries : l.entries ≡ m.entries = numbers_one l.entries m.entries a.entries_ascend b.entries_ascend
      (λ n c. let k = (a.entries n).0 c in (b.entries n).1 (record { edge = k.edge; stands = k.stands; into = k.into ∙ e; outside = λ h. k.outside (subst (λ (x : List ℕ). Contains x k.edge.from) (sym members) h) }))
      (λ n c. let k = (b.entries n).0 c in (a.entries n).1 (record { edge = k.edge; stands = k.stands; into = k.into ∙ sym e; outside = λ h. k.outside (subst (λ (x : List ℕ). Contains x k.edge.from) members h) })) in
      let most = a.maxcount ∙ ap (λ (i : LoopInfo). i.maxcount) info ∙ sym b.maxcount in
      let total = a.totalcount ∙ ap (λ (i : LoopInfo). i.totalcount) info ∙ sym b.totalcount in
      λ i. record { head = e i; members = members i; back = back i; entries = entries i; maxcount = most i; totalcount = total i }

  loops_in : (nodes : List UNode) (edges : List Edge) (xs ys : List ULoop) → AreLoops program nodes edges xs → AreLoops program nodes edges ys
      → (l : ULoop) → Contains xs l → Contains ys l
  loops_in nodes edges xs ys a b l c =
      let is = All-contains (λ l. IsLoop program nodes edges l) xs l a.each c in
      let k = b.whole l.head (record { node = is.node; info = is.info; stands = is.stands; head = is.head }) in
      let other = All-contains (λ l. IsLoop program nodes edges l) ys k.1 b.each (k.0, k.2, k.3) in
      subst (λ (m : ULoop). Contains ys m) (loop_once nodes edges k.1 l other is k.4) (k.0, k.2, k.3)

  pub one : (u v : Unfolded) → IsUnfolding program u → IsUnfolding program v → u ≡ v
  one u v a b =
      let p : u.program ≡ v.program = a.kept ∙ sym b.kept in
      let nodes : u.nodes ≡ v.nodes = one_list IsNodeBefore node_through node_apart u.nodes v.nodes a.nodes.ascending b.nodes.ascending
      (λ n c. b.nodes.whole n (All-contains (λ n. IsReached program n) u.nodes n a.nodes.reached c))
      (λ n c. a.nodes.whole n (All-contains (λ n. IsReached program n) v.nodes n b.nodes.reached c)) in
      let s : a.start.node ≡ b.start.node = begins_once program order a.start.node b.start.node [] program.start a.start.starts b.start.starts in
      let start : u.start ≡ v.start = node_once v.nodes u.start v.start b.start.node b.nodes.ascending
      (subst (λ (l : List UNode). slice_get l u.start ≡ Some b.start.node) nodes (a.start.stands ∙ ap (λ (n : UNode). Some n) s)) b.start.stands in
      let ue = subst (λ (l : List UNode). AreEdges program l u.edges) nodes a.edges in
      let edges : u.edges ≡ v.edges = one_list IsEdgeBefore edge_through edge_apart u.edges v.edges ue.ascending b.edges.ascending
      (λ e c. b.edges.whole e (All-contains (λ e. IsEdge program v.nodes e) u.edges e ue.each c))
      (λ e c. ue.whole e (All-contains (λ e. IsEdge program v.nodes e) v.edges e b.edges.each c)) in
      let ul = subst (λ (l : List Edge). AreLoops program v.nodes l u.loops) edges (subst (λ (l : List UNode). AreLoops program l u.edges u.loops) nodes a.loops) in
      let loops : u.loops ≡ v.loops = one_list (λ l m. l.head < m.head) (λ l m n h k. omega (arith, h, k)) (λ l m e h. omega (arith, h, ap (λ (x : ULoop). x.head) e)) u.loops v.loops ul.ascending b.loops.ascending
      (loops_in v.nodes v.edges u.loops v.loops ul b.loops) (loops_in v.nodes v.edges v.loops u.loops b.loops ul) in
      λ i. record { program = p i; start = start i; nodes = nodes i; edges = edges i; loops = loops i }

pub unfolding_is_one : (program : Program) (u v : Unfolded) → IsBuilt program → IsUnfolding program u → IsUnfolding program v → u ≡ v
unfolding_is_one program u v built a b = one program (in_order program built) u v a b
