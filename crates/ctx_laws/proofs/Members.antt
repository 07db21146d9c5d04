-- The members of a loop of an unfolding, and where its edges come from.
use Rattle.std.proofs.Common.{◌≡◌, ℕ, zero, suc, ◌<◌, ◌==◌, ◌++◌, ◌↔◌, true, false, List, [], ◌∷◌, length, get_or, slice_get, refl, sym, ap, subst, ◌∙◌, inl, inr, arith, length-append}
use Rattle.std.specs.Prelude.{◌⊎◌, Contains}
use Rattle.std.proofs.lemmas.Bool.{false≢true, cases_Bool, eq-eqb, eqb-true}
use Rattle.std.proofs.lemmas.List.Folds.{Any-from_list_any, list_any_at}
use Rattle.wx_base.specs.declared.facts.Facts.{Facts}
use Rattle.wx_base.specs.declared.image.Image.{Image}
use Rattle.wx_base.specs.declared.machine.Machine.{Machine}
use Rattle.wx_base.specs.Functions as functions
use Rattle.wx_base.specs.Functions.{ways_at}
use Rattle.wx_base.specs.Monitor.{is_one_of}
use Rattle.wx_base.specs.Paths as paths
use Rattle.wx_base.specs.Paths.{Path}
use Rattle.wx_base.specs.Paths.Path.{here}
use Rattle.flow_block.specs.declared.block.Block.{Block}
use Rattle.flow_block.specs.Blocks.{IsBlock, last_of_block}
use Rattle.flow_block.specs.Sites.{behind}
use Rattle.flow_graph.specs.declared.program.Function.{Function}
use Rattle.flow_graph.specs.declared.program.Program.{Program}
use Rattle.flow_graph.specs.Program.{bounded_loop}
use Rattle.flow_graph.specs.Refusals.{IsSoundProgram}
use Rattle.graph_loops.specs.Laws.{HeadsAreOnPaths, LoopsAreEnteredAtHeads}
use Rattle.flow_laws.specs.Programs.{BlocksLieInLoops, EndsInMemory}
use Rattle.flow_ctx.specs.declared.unfolded.Call.{Call}
use Rattle.flow_ctx.specs.declared.unfolded.ULoop.{ULoop}
use Rattle.flow_ctx.specs.declared.unfolded.UNode.{UNode}
use Rattle.flow_ctx.specs.declared.unfolded.Unfolded.{Unfolded}
use Rattle.flow_ctx.specs.Nodes.{IsBlockAt, entry_after, last_address}
use Rattle.flow_ctx.specs.Unfolding.{IsLoop, IsMember, IsUnfolding}
use Rattle.flow_ctx.specs.Unfolding.IsMember.{own, within}
use Rattle.ctx_laws.proofs.Lists.{EndsWith, ends_with, first, later, not_longer, one_element}
use Rattle.ctx_laws.proofs.Programs.{IsFunctionAt, block_is, loop_is}
use Rattle.ctx_laws.proofs.Nodes.{IsNodeAt, function_of, same_node}

-- ---- lists of numbers

pub one_of : (xs : List ℕ) (a : ℕ) → Contains xs a → is_one_of xs a ≡ true
one_of xs a c = list_any_at (λ x. x == a) xs c.0 a c.1 (eq-eqb _ a c.2)

pub of_one : (xs : List ℕ) (a : ℕ) → is_one_of xs a ≡ true → Contains xs a
of_one xs a e =
    let any = Any-from_list_any (λ x. x == a) xs e in
    let c : Contains xs any.1 = (any.0, any.2, any.3) in
    subst (λ (y : ℕ). Contains xs y) (eqb-true any.1 a any.4) c

pub none_of : (xs : List ℕ) (a : ℕ) → (Contains xs a → ⊥) → is_one_of xs a ≡ false
none_of xs a n = elim (cases_Bool (is_one_of xs a)) [ inl e ↦ absurd (n (of_one xs a e)) | inr e ↦ e ]

-- whether a number is in a list can be told
pub decided : (xs : List ℕ) (a : ℕ) → Contains xs a ⊎ (Contains xs a → ⊥)
decided xs a = elim (cases_Bool (is_one_of xs a)) [ inl e ↦ inl (of_one xs a e) | inr e ↦ inr (λ c. false≢true (sym e ∙ one_of xs a c)) ]

-- the last instruction of a block stands at one of its places
record IsPlaceOf (start count : ℕ) : Type 0 where
  place : ℕ
  below : place < count
  is : last_of_block start count ≡ behind start place

last_place : (start count : ℕ) → 0 < count → IsPlaceOf start count
last_place start zero h = absurd (omega arith)
last_place start (suc n) h = record { place = n; below = omega arith; is = refl }

-- ---- members

module _ (image : Image) (facts : Facts) (start : ℕ) (machine : Machine) (program : Program) (sound : IsSoundProgram image facts start machine program)
    (u : Unfolded) (unfolds : IsUnfolding program u) (l : ULoop) (loop : IsLoop program u.nodes u.edges l) where
  abbrev NodeAt : ℕ → UNode → Function → Block → Type 0
  NodeAt number node f b = IsNodeAt image facts start machine program sound.is u unfolds number node f b

  -- the entry of the loop's function
  abbrev home : ℕ
  home = loop.head.function.entry

  pub head_at : NodeAt l.head loop.node loop.head.function loop.head.block
  head_at = record { stands = loop.stands; is = loop.head.is }

  pub function_head : IsFunctionAt image facts start machine program sound.is loop.node.function loop.head.function
  function_head = function_of image facts start machine program sound.is u unfolds l.head loop.node loop.head.function loop.head.block head_at

  pub loop_here : functions.IsLoop image facts home (bounded_loop loop.info)
  loop_here = loop_is image facts start machine program sound.is loop.node.function loop.head.function loop.info function_head loop.head.listed

  -- the head's node
  pub record IsHeadNode (m : UNode) (g : Function) (c : Block) : Type 0 where
    pub chain : m.chain ≡ loop.node.chain
    pub function : g ≡ loop.head.function
    pub start_is : c.start ≡ loop.info.head

  pub is_head : (number : ℕ) (m : UNode) (g : Function) (c : Block) → NodeAt number m g c → number ≡ l.head → IsHeadNode m g c
  is_head number m g c at e =
      let nodes : m ≡ loop.node = one_element u.nodes l.head m loop.node (ap (slice_get u.nodes) (sym e) ∙ at.stands) loop.stands in
      let functions : g ≡ loop.head.function =
      one_element program.functions loop.node.function g loop.head.function (ap (λ (n : UNode). slice_get program.functions n.function) (sym nodes) ∙ at.is.function_stands) loop.head.is.function_stands in
      let blocks : c ≡ loop.head.block =
      one_element loop.head.function.blocks loop.node.block c loop.head.block (sym (λ i. slice_get (functions i).blocks (nodes i).block) ∙ at.is.block_stands) loop.head.is.block_stands in
      record { chain = ap (λ (n : UNode). n.chain) nodes; function = functions; start_is = ap (λ (b : Block). b.start) blocks ∙ loop.head.head }

  pub at_head : (number : ℕ) (m : UNode) (g : Function) (c : Block) → NodeAt number m g c → m.chain ≡ loop.node.chain → c.start ≡ loop.info.head → number ≡ l.head
  at_head number m g c at chain begins =
      same_node image facts start machine program sound.is u unfolds number l.head m loop.node g loop.head.function c loop.head.block at head_at chain (begins ∙ sym loop.head.head)

  -- how a node is a member
  pub data IsIn (n : UNode) (b : Block) : Type 0 where
    as_own : n.chain ≡ loop.node.chain → Contains loop.info.members b.start → IsIn n b
    as_within : (call : Call) (calls : List Call) → n.chain ≡ loop.node.chain ++ call ∷ calls → Contains loop.info.members call.site → IsIn n b

  in_by : (n : UNode) (f : Function) (b : Block) (k : UNode) → IsBlockAt program n f b → k ≡ n → IsMember program loop.node loop.info k → IsIn n b
  in_by n f b k at same (own g c is chain listed) =
      let functions : g ≡ f = one_element program.functions n.function g f (ap (λ (x : UNode). slice_get program.functions x.function) (sym same) ∙ is.function_stands) at.function_stands in
      let blocks : c ≡ b = one_element f.blocks n.block c b (sym (λ i. slice_get (functions i).blocks (same i).block) ∙ is.block_stands) at.block_stands in
      as_own (ap (λ (x : UNode). x.chain) (sym same) ∙ chain) (subst (λ (d : Block). Contains loop.info.members d.start) blocks listed)
  in_by n f b k at same (within call calls chain listed) = as_within call calls (ap (λ (x : UNode). x.chain) (sym same) ∙ chain) listed

  pub is_in : (number : ℕ) (n : UNode) (f : Function) (b : Block) → NodeAt number n f b → Contains l.members number → IsIn n b
  is_in number n f b at c =
      let m = (loop.members number).0 c in
      in_by n f b m.node at.is (one_element u.nodes number m.node n m.stands at.stands) m.member

  pub in_own : (number : ℕ) (n : UNode) (f : Function) (b : Block) → NodeAt number n f b → n.chain ≡ loop.node.chain → Contains loop.info.members b.start → Contains l.members number
  in_own number n f b at chain listed = (loop.members number).1 (record { node = n; stands = at.stands; member = own f b at.is chain listed })

  pub in_within : (number : ℕ) (n : UNode) (f : Function) (b : Block) (call : Call) (calls : List Call) → NodeAt number n f b → n.chain ≡ loop.node.chain ++ call ∷ calls → Contains loop.info.members call.site → Contains l.members number
  in_within number n f b call calls at chain listed = (loop.members number).1 (record { node = n; stands = at.stands; member = within call calls chain listed })

  -- a member's chain is the head's, or goes on from it
  pub no_shorter : (n : UNode) (b : Block) (call : Call) → n.chain ++ call ∷ [] ≡ loop.node.chain → IsIn n b → ⊥
  no_shorter n b call e (as_own chain listed) = not_longer n.chain call [] (chain ∙ sym e)
  no_shorter n b call e (as_within c calls chain listed) =
      absurd (omega (arith, ap length e, ap length chain, length-append n.chain (call ∷ []), length-append loop.node.chain (c ∷ calls)))

  entry_same : (n : UNode) (f : Function) (b : Block) → IsBlockAt program n f b → n.chain ≡ loop.node.chain → f.entry ≡ home
  entry_same n f b is chain = is.entry ∙ ap (entry_after program.start) chain ∙ sym loop.head.is.entry

  -- ---- where members lie

  module _ (paths_law : HeadsAreOnPaths) (edges_law : LoopsAreEnteredAtHeads) (blocks_law : BlocksLieInLoops) (ends : EndsInMemory image) where
    member_of : (a : ℕ) → Contains loop.info.members a → paths.IsMember (ways_at image facts) home loop.info.head a
    member_of a c = loop_here.members a c

    listed_of : (a : ℕ) → paths.IsMember (ways_at image facts) home loop.info.head a → Contains loop.info.members a
    listed_of a m = loop_here.whole a m

    -- the first and the last instruction of a block are members together
    pub along_block : (number : ℕ) (n : UNode) (f : Function) (b : Block) → NodeAt number n f b → n.chain ≡ loop.node.chain → Contains loop.info.members b.start ↔ Contains loop.info.members (last_address b)
    along_block number n f b at chain =
        let place = function_of image facts start machine program sound.is u unfolds number n f b at in
        let block : IsBlock image facts machine home b =
        subst (λ (e : ℕ). IsBlock image facts machine e b) (entry_same n f b at.is chain) (block_is image facts start machine program sound.is n.function f n.block b place at.is.block_stands) in
        let last = last_place b.start (length b.insns) block.count.some in
        let law = blocks_law image facts start machine program home loop.info.head b last.place ends sound function_head.entry loop_here.head block last.below in (
          λ c. subst (λ (a : ℕ). Contains loop.info.members a) (sym last.is) (listed_of (behind b.start last.place) (law.0 (member_of b.start c))),
          λ c. listed_of b.start (law.1 (member_of (behind b.start last.place) (subst (λ (a : ℕ). Contains loop.info.members a) last.is c))),
        )

    -- a node of the head's chain is a member exactly if its last instruction is
    pub own_source : (number : ℕ) (n : UNode) (f : Function) (b : Block) → NodeAt number n f b → n.chain ≡ loop.node.chain → Contains l.members number ↔ Contains loop.info.members (last_address b)
    own_source number n f b at chain = (λ c. own_in (is_in number n f b at c), λ c. in_own number n f b at chain ((along_block number n f b at chain).1 c))
      where
        own_in : IsIn n b → Contains loop.info.members (last_address b)
        own_in (as_own e listed) = (along_block number n f b at chain).0 listed
        own_in (as_within call calls e listed) = absurd (not_longer loop.node.chain call calls (sym chain ∙ e))

    -- a node whose chain is longer by one call is a member exactly if the call is
    pub back_source : (number : ℕ) (n : UNode) (f : Function) (b : Block) (call : Call) → NodeAt number n f b → n.chain ≡ loop.node.chain ++ call ∷ [] → Contains l.members number ↔ Contains loop.info.members call.site
    back_source number n f b call at chain = (λ c. back_in (is_in number n f b at c), λ c. in_within number n f b call [] at chain c)
      where
        by_end : (c : Call) (cs : List Call) → Contains loop.info.members c.site → EndsWith loop.node.chain c loop.node.chain call → Contains loop.info.members call.site
        by_end c cs listed (first same one) = subst (λ (d : Call). Contains loop.info.members d.site) one listed
        by_end c cs listed (later rest same) = absurd (not_longer loop.node.chain c rest same)

        back_in : IsIn n b → Contains loop.info.members call.site
        back_in (as_own e listed) = absurd (not_longer loop.node.chain call [] (sym e ∙ chain))
        back_in (as_within c cs e listed) = by_end c cs listed (ends_with loop.node.chain c cs loop.node.chain call (sym e ∙ chain))

    -- into a member that is not the head a way leads from members alone
    pub way_in : (from to : ℕ) → Path (ways_at image facts) [] home from → Contains (ways_at image facts from) to → Contains loop.info.members to → (to ≡ loop.info.head → ⊥) → Contains loop.info.members from
    way_in from to path way listed other = elim (decided loop.info.members from) [
      | inl c ↦ c
      | inr n ↦ absurd (other (edges_law (ways_at image facts) home loop.info.head from to path (λ m. n (listed_of from m)) (member_of to listed) way))
    ]

    -- where a function begins is no member but the head
    pub entry_in : Contains loop.info.members home → (home ≡ loop.info.head → ⊥) → ⊥
    entry_in listed other =
        paths_law (ways_at image facts) home loop.info.head home (member_of home listed) (here home (λ c. other (sym (the_one c))))
      where
        the_one : Contains (loop.info.head ∷ []) home → loop.info.head ≡ home
        the_one h = let e : h.0 ≡ 0 = omega (arith, h.1) in subst (λ (k : ℕ). get_or (loop.info.head ∷ []) k home ≡ home) e h.2
