-- Two loops of an unfolding that share a member and have as many members as each other are one.
use Rattle.std.proofs.Common.{◌≡◌, ℕ, ◌<◌, ◌++◌, List, [], ◌∷◌, length, map, slice_get, refl, sym, ap, subst, ◌∙◌, inl, inr, arith, length-append}
use Rattle.std.specs.Prelude.{◌⊎◌, AllPairs, Contains, Some}
use Rattle.std.proofs.lemmas.Bool.{cases_eq, cases_order}
use Rattle.wx_base.specs.declared.facts.Facts.{Facts}
use Rattle.wx_base.specs.declared.image.Image.{Image}
use Rattle.wx_base.specs.declared.machine.Machine.{Machine}
use Rattle.wx_base.specs.Functions as functions
use Rattle.wx_base.specs.Functions.{ways_at}
use Rattle.wx_base.specs.Monitor as monitor
use Rattle.wx_base.specs.Paths.{IsHead, IsMember as IsMemberOf, Path}
use Rattle.wx_base.specs.Paths.Path.{here, further}
use Rattle.flow_block.specs.declared.block.Block.{Block}
use Rattle.flow_graph.specs.declared.program.Function.{Function}
use Rattle.flow_graph.specs.declared.program.Program.{Program}
use Rattle.flow_graph.specs.Program.{IsProgram, bounded_loop, judged_function}
use Rattle.graph_loops.specs.Laws.{HeadsAreOnPaths, LoopsAreNested}
use Rattle.flow_ctx.specs.declared.unfolded.Call.{Call}
use Rattle.flow_ctx.specs.declared.unfolded.ULoop.{ULoop}
use Rattle.flow_ctx.specs.declared.unfolded.UNode.{UNode}
use Rattle.flow_ctx.specs.declared.unfolded.Unfolded.{Unfolded}
use Rattle.flow_ctx.specs.Nodes.{IsBlockAt}
use Rattle.flow_ctx.specs.Order.{IsCallBefore, IsChainBefore, IsNodeBefore}
use Rattle.flow_ctx.specs.Unfolding.{IsLoop, IsMember, IsUnfolding}
use Rattle.flow_ctx.specs.Unfolding.IsMember.{own, within}
use Rattle.loop_laws.specs.Laws.{LoopsOfOneSizeAreOne}
use Rattle.loop_laws.proofs.Lists.{mapped, not_longer, one_element, one_key, paired, place_of, the_one}
use Rattle.loop_laws.proofs.Nodes.{function_at, head_is_member, loop_here, loop_of, same_block, same_entry}
use Rattle.loop_laws.proofs.BlockWays.{one_more}
use Rattle.loop_laws.proofs.NestLemmas.{smaller_loops_are_within}

-- ---- two heads of a graph

-- a path to one vertex avoids another one, or a path leads to that and avoids the first
either : (leads : ℕ → List ℕ) (g h : ℕ) → (g ≡ h → ⊥) → {a b : ℕ} → b ≡ g → Path leads [] a b → Path leads (h ∷ []) a g ⊎ Path leads (g ∷ []) a h
either leads g h apart is (here b n) = inl (subst (λ (x : ℕ). Path leads (h ∷ []) x g) (sym is) (here g (λ k. apart (sym (the_one h g k)))))
either leads g h apart {a} is (further {b = b} n e p) = elim (cases_eq a g) [
  | inl at_g ↦ inl (subst (λ (x : ℕ). Path leads (h ∷ []) x g) (sym at_g) (here g (λ k. apart (sym (the_one h g k)))))
  | inr not_g ↦ elim (cases_eq a h) [
    | inl at_h ↦ inr (subst (λ (x : ℕ). Path leads (g ∷ []) x h) (sym at_h) (here h (λ k. apart (the_one g h k))))
    | inr not_h ↦ elim (either leads g h apart is p) [
      | inl q ↦ inl (further (λ k. not_h (sym (the_one h a k))) e q)
      | inr q ↦ inr (further (λ k. not_g (sym (the_one g a k))) e q)
    ]
  ]
]

-- two heads that are members of each other's loops are one
one_head : HeadsAreOnPaths → (leads : ℕ → List ℕ) (entry g h : ℕ) → IsHead leads entry g → IsMemberOf leads entry h g → IsMemberOf leads entry g h → g ≡ h
one_head law leads entry g h head in_h in_g = elim (cases_eq g h) [
  | inl e ↦ e
  | inr apart ↦ elim (either leads g h apart refl (one_more leads head.back.reached head.back.edge)) [
    | inl p ↦ absurd (law leads entry h g in_h p)
    | inr p ↦ absurd (law leads entry g h in_g p)
  ]
]

-- ---- a node has one number

no_call_before : (c : Call) → IsCallBefore c c → ⊥
no_call_before c (inl h) = absurd (omega (arith, h))
no_call_before c (inr h) = let less : c.entry < c.entry = h.1 in absurd (omega (arith, less))

no_chain_before : (chain : List Call) → IsChainBefore chain chain → ⊥
no_chain_before [] h = h
no_chain_before (c ∷ chain) (inl h) = no_call_before c h
no_chain_before (c ∷ chain) (inr h) = no_chain_before chain h.1

no_node_before : (n : UNode) → IsNodeBefore n n → ⊥
no_node_before n (inl h) = no_chain_before n.chain h
no_node_before n (inr h) = let less : n.block < n.block = h.1 in absurd (omega (arith, less))

one_number : (nodes : List UNode) (i j : ℕ) (n : UNode) → AllPairs IsNodeBefore nodes → slice_get nodes i ≡ Some n → slice_get nodes j ≡ Some n → i ≡ j
one_number nodes i j n pairs e f = elim (cases_order i j) [
  | inl is ↦ is
  | inr (inl less) ↦ absurd (no_node_before n (paired IsNodeBefore nodes i j n n pairs less e f))
  | inr (inr other) ↦ absurd (no_node_before n (paired IsNodeBefore nodes j i n n pairs other f e))
]

module _ (image : Image) (facts : Facts) (first : ℕ) (machine : Machine) (program : Program) (built : IsProgram image facts first machine program)
    (u : Unfolded) (unfolds : IsUnfolding program u) where
  -- a node is told by its chain and by where its block begins
  same_number : (i j : ℕ) (n m : UNode) (f g : Function) (b c : Block) → slice_get u.nodes i ≡ Some n → slice_get u.nodes j ≡ Some m → IsBlockAt program n f b → IsBlockAt program m g c
      → n.chain ≡ m.chain → b.start ≡ c.start → i ≡ j
  same_number i j n m f g b c at_i at_j is at chains starts =
      let entries = same_entry program n m f g b c chains is at in
      let places : n.function ≡ m.function =
      one_key (λ (h : monitor.Function). h.entry) (map judged_function program.functions) n.function m.function (judged_function f) (judged_function g) built.rules.functions.ascending
      (mapped judged_function program.functions n.function f is.function_stands) (mapped judged_function program.functions m.function g at.function_stands) entries in
      let functions : f ≡ g = one_element program.functions m.function f g (ap (slice_get program.functions) (sym places) ∙ is.function_stands) at.function_stands in
      let block : slice_get g.blocks n.block ≡ Some b = ap (λ (h : Function). slice_get h.blocks n.block) (sym functions) ∙ is.block_stands in
      let blocks : n.block ≡ m.block =
      one_key (λ (d : Block). d.start) g.blocks n.block m.block b c (function_at image facts first machine program built m.function g at.function_stands).blocks.ascending block at.block_stands starts in
      let nodes : n ≡ m = λ i. record { chain = chains i; function = places i; block = blocks i } in
      one_number u.nodes i j m unfolds.nodes.ascending (at_i ∙ ap Some nodes) at_j

-- ---- heads of loops that are within each other

-- where the head of a loop is a member of another
data HeadLies (program : Program) (u : Unfolded) (l m : ULoop) (inner : IsLoop program u.nodes u.edges l) (outer : IsLoop program u.nodes u.edges m) : Type 0 where
  level : inner.node.chain ≡ outer.node.chain → Contains outer.info.members inner.info.head → HeadLies program u l m inner outer
  deeper : (call : Call) (calls : List Call) → inner.node.chain ≡ outer.node.chain ++ call ∷ calls → HeadLies program u l m inner outer

module _ (program : Program) (u : Unfolded) (l m : ULoop) (inner : IsLoop program u.nodes u.edges l) (outer : IsLoop program u.nodes u.edges m) where
  lies_by : (k : UNode) → k ≡ inner.node → IsMember program outer.node outer.info k → HeadLies program u l m inner outer
  lies_by k is (own g c at e listed) =
      let blocks = same_block program k inner.node g inner.head.function c inner.head.block is at inner.head.is in
      level (ap (λ (n : UNode). n.chain) (sym is) ∙ e) (subst (λ a. Contains outer.info.members a) (ap (λ (b : Block). b.start) blocks ∙ inner.head.head) listed)
  lies_by k is (within call calls e listed) = deeper call calls (ap (λ (n : UNode). n.chain) (sym is) ∙ e)

  head_lies : Contains m.members l.head → HeadLies program u l m inner outer
  head_lies c = let it = (outer.members l.head).0 c in lies_by it.node (one_element u.nodes l.head it.node inner.node it.stands inner.stands) it.member

module _ (law : HeadsAreOnPaths) (image : Image) (facts : Facts) (first : ℕ) (machine : Machine) (program : Program) (built : IsProgram image facts first machine program)
    (u : Unfolded) (unfolds : IsUnfolding program u) (l m : ULoop) (one : IsLoop program u.nodes u.edges l) (other : IsLoop program u.nodes u.edges m) where
  same_heads : HeadLies program u l m one other → HeadLies program u m l other one → l.head ≡ m.head
  same_heads (level chain c) (level _ d) =
      let entry = same_entry program other.node one.node other.head.function one.head.function other.head.block one.head.block (sym chain) other.head.is one.head.is in
      let there : functions.IsLoop image facts one.head.function.entry (bounded_loop other.info) =
      subst (λ (e : ℕ). functions.IsLoop image facts e (bounded_loop other.info)) entry (loop_here image facts first machine program built u m other) in
      let mine = loop_here image facts first machine program built u l one in
      let is : one.info.head ≡ other.info.head =
      one_head law (ways_at image facts) one.head.function.entry one.info.head other.info.head mine.head (there.members one.info.head c) (mine.members other.info.head d) in
      same_number image facts first machine program built u unfolds l.head m.head one.node other.node one.head.function other.head.function one.head.block other.head.block
      one.stands other.stands one.head.is other.head.is chain (one.head.head ∙ is ∙ sym other.head.head)
  same_heads (level chain c) (deeper call calls e) = absurd (not_longer one.node.chain call calls (chain ∙ e))
  same_heads (deeper call calls e) (level chain c) = absurd (not_longer other.node.chain call calls (chain ∙ e))
  same_heads (deeper call calls e) (deeper d ds f) =
      absurd (omega (arith, ap length e, ap length f, length-append other.node.chain (call ∷ calls), length-append one.node.chain (d ∷ ds)))

pub loops_of_one_size_are_one : LoopsAreNested → HeadsAreOnPaths → LoopsOfOneSizeAreOne
loops_of_one_size_are_one nests law image facts first machine program u l m node built unfolds c d in_l in_m size =
    let one = loop_of program u l unfolds c in
    let other = loop_of program u m unfolds d in
    let out = smaller_loops_are_within nests image facts first machine program u l m node built unfolds c d in_l in_m (omega (arith, size)) in
    let back = smaller_loops_are_within nests image facts first machine program u m l node built unfolds d c in_m in_l (omega (arith, size)) in
    let heads = same_heads law image facts first machine program built u unfolds l m one other
    (head_lies program u l m one other (out.members l.head (head_is_member image facts first machine program built u l one)))
    (head_lies program u m l other one (back.members m.head (head_is_member image facts first machine program built u m other))) in
    let p = place_of u.loops l c in
    let q = place_of u.loops m d in
    let places = one_key (λ (k : ULoop). k.head) u.loops p.place q.place l m unfolds.loops.ascending p.stands q.stands heads in
    one_element u.loops q.place l m (ap (slice_get u.loops) (sym places) ∙ p.stands) q.stands
