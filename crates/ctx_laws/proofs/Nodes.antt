-- The nodes, edges and loops of an unfolding by their numbers.
use Rattle.std.proofs.Common.{◌≡◌, ℕ, ◌<◌, ◌++◌, Bool, List, [], ◌∷◌, slice_get, refl, sym, ap, ◌∙◌, inl, inr, arith}
use Rattle.std.specs.Prelude.{Contains, Some}
use Rattle.wx_base.specs.declared.facts.Facts.{Facts}
use Rattle.wx_base.specs.declared.image.Image.{Image}
use Rattle.wx_base.specs.declared.machine.Machine.{Machine}
use Rattle.flow_block.specs.declared.block.Block.{Block}
use Rattle.flow_block.specs.Blocks.{Begins}
use Rattle.flow_graph.specs.declared.program.Function.{Function}
use Rattle.flow_graph.specs.declared.program.LoopInfo.{LoopInfo}
use Rattle.flow_graph.specs.declared.program.Program.{Program}
use Rattle.flow_graph.specs.Program.{IsProgram}
use Rattle.flow_ctx.specs.declared.unfolded.Call.{Call}
use Rattle.flow_ctx.specs.declared.unfolded.Edge.{Edge}
use Rattle.flow_ctx.specs.declared.unfolded.ULoop.{ULoop}
use Rattle.flow_ctx.specs.declared.unfolded.UNode.{UNode}
use Rattle.flow_ctx.specs.declared.unfolded.Unfolded.{Unfolded}
use Rattle.flow_ctx.specs.Nodes.{BeginsAt, IsBlockAt, IsBlockOf, IsReached, Leads, entry_after}
use Rattle.flow_ctx.specs.Nodes.IsReached.{along}
use Rattle.flow_ctx.specs.Order.{IsCallBefore, IsChainBefore, IsNodeBefore}
use Rattle.flow_ctx.specs.Unfolding.{IsEdge, IsLoop, IsUnfolding}
use Rattle.ctx_laws.proofs.Lists.{all_at, all_in, one_element, one_place, place_of}
use Rattle.ctx_laws.proofs.Programs.{IsFunctionAt, function_at, has_block, one_block, one_function}

-- ---- the order of nodes

no_call_before : (c : Call) → IsCallBefore c c → ⊥
no_call_before c (inl h) = absurd (omega arith)
no_call_before c (inr h) = let less : c.entry < c.entry = h.1 in absurd (omega arith)

no_chain_before : (chain : List Call) → IsChainBefore chain chain → ⊥
no_chain_before [] h = h
no_chain_before (c ∷ chain) (inl h) = no_call_before c h
no_chain_before (c ∷ chain) (inr h) = no_chain_before chain h.1

no_node_before : (n : UNode) → IsNodeBefore n n → ⊥
no_node_before n (inl h) = no_chain_before n.chain h
no_node_before n (inr h) = let less : n.block < n.block = h.1 in absurd (omega arith)

-- the entry of the function that a call led to
pub entry_behind : (start : ℕ) (chain : List Call) (call : Call) → entry_after start (chain ++ call ∷ []) ≡ call.entry
entry_behind start [] call = refl
entry_behind start (c ∷ chain) call = entry_behind c.entry chain call

module _ (image : Image) (facts : Facts) (first : ℕ) (machine : Machine) (program : Program) (built : IsProgram image facts first machine program)
    (u : Unfolded) (unfolds : IsUnfolding program u) where
  abbrev FunctionAt : ℕ → Function → Type 0
  FunctionAt place f = IsFunctionAt image facts first machine program built place f

  -- the node with a number, with its function and block
  pub record IsNodeAt (number : ℕ) (node : UNode) (f : Function) (b : Block) : Type 0 where
    pub stands : slice_get u.nodes number ≡ Some node
    pub is : IsBlockAt program node f b

  pub block_of : (number : ℕ) (node : UNode) (f : Function) (b : Block) → IsNodeAt number node f b → IsBlockOf u number b
  block_of number node f b at = record {
    node = node;
    function = f;
    stands = at.stands;
    function_stands = ap (λ (p : Program). slice_get p.functions node.function) unfolds.kept ∙ at.is.function_stands;
    block_stands = at.is.block_stands;
  }

  -- a number has one block
  pub one_block_of : (number : ℕ) (node : UNode) (f : Function) (b c : Block) → IsNodeAt number node f b → IsBlockOf u number c → c ≡ b
  one_block_of number node f b c at of =
      let nodes : of.node ≡ node = one_element u.nodes number of.node node of.stands at.stands in
      let functions : of.function ≡ f =
      one_element program.functions node.function of.function f
      (sym (λ i. slice_get (unfolds.kept i).functions (nodes i).function) ∙ of.function_stands) at.is.function_stands in
      one_element f.blocks node.block c b (sym (λ i. slice_get (functions i).blocks (nodes i).block) ∙ of.block_stands) at.is.block_stands

  pub function_of : (number : ℕ) (node : UNode) (f : Function) (b : Block) → IsNodeAt number node f b → FunctionAt node.function f
  function_of number node f b at = function_at image facts first machine program built node.function f at.is.function_stands

  -- a node of a chain is told by where its block begins
  pub same_node : (i j : ℕ) (n m : UNode) (f g : Function) (b c : Block) → IsNodeAt i n f b → IsNodeAt j m g c → n.chain ≡ m.chain → b.start ≡ c.start → i ≡ j
  same_node i j n m f g b c at there chains starts =
      let entries : f.entry ≡ g.entry = at.is.entry ∙ ap (entry_after program.start) chains ∙ sym there.is.entry in
      let places : n.function ≡ m.function = one_function image facts first machine program built n.function m.function f g at.is.function_stands there.is.function_stands entries in
      let functions : f ≡ g = one_element program.functions m.function f g (ap (slice_get program.functions) (sym places) ∙ at.is.function_stands) there.is.function_stands in
      let block : slice_get g.blocks n.block ≡ Some b = ap (λ (h : Function). slice_get h.blocks n.block) (sym functions) ∙ at.is.block_stands in
      let blocks : n.block ≡ m.block = one_block image facts first machine program built m.function g n.block m.block b c (function_of j m g c there) block there.is.block_stands starts in
      let nodes : n ≡ m = λ i. record { chain = chains i; function = places i; block = blocks i } in
      one_place IsNodeBefore u.nodes i j m unfolds.nodes.ascending (no_node_before m) (at.stands ∙ ap Some nodes) there.stands

  -- ---- edges

  -- an edge from a node to the one of a chain whose block begins at an address
  pub record HasEdge (from : ℕ) (taken : Bool) (chain : List Call) (address : ℕ) : Type 0 where
    pub number : ℕ
    pub edge : Edge
    pub stands : slice_get u.edges number ≡ Some edge
    pub from_is : edge.from ≡ from
    pub taken_is : edge.taken ≡ taken
    pub node : UNode
    pub function : Function
    pub block : Block
    pub at : IsNodeAt edge.to node function block
    pub chain_is : node.chain ≡ chain
    pub start : block.start ≡ address

  pub has_edge : (from : ℕ) (n : UNode) (f : Function) (b : Block) (taken : Bool) (to : UNode) (chain : List Call) (address : ℕ)
      → IsNodeAt from n f b → BeginsAt program to chain address → Leads program n taken to → HasEdge from taken chain address
  has_edge from n f b taken to chain address at begins leads =
      let reached = all_at (λ m. IsReached program m) u.nodes from n unfolds.nodes.reached at.stands in
      let there = place_of u.nodes to (unfolds.nodes.whole to (along n taken to reached leads)) in
      let edge : Edge = record { from = from; to = there.place; taken = taken } in
      let is_edge : IsEdge program u.nodes edge = record { source = n; target = to; from = at.stands; to = there.stands; leads = leads } in
      let numbered = place_of u.edges edge (unfolds.edges.whole edge is_edge) in
      record {
        number = numbered.place;
        edge = edge;
        stands = numbered.stands;
        from_is = refl;
        taken_is = refl;
        node = to;
        function = begins.function;
        block = begins.block;
        at = record { stands = there.stands; is = begins.is };
        chain_is = begins.has;
        start = begins.start;
      }

  -- a place in a chain, where a block of the function begins
  pub record HasPlace (chain : List Call) (address : ℕ) : Type 0 where
    pub node : UNode
    pub begins : BeginsAt program node chain address

  pub has_place : (place : ℕ) (f : Function) (chain : List Call) (address : ℕ) → FunctionAt place f → f.entry ≡ entry_after program.start chain
      → Begins image facts machine f.entry address → HasPlace chain address
  has_place place f chain address at entry begins =
      let block = has_block image facts first machine program built place f address at begins in
      record {
        node = record { chain = chain; function = place; block = block.place };
        begins = record {
          has = refl;
          function = f;
          block = block.block;
          is = record { function_stands = at.stands; entry = entry; block_stands = block.stands };
          start = block.start;
        };
      }

  -- ---- loops

  -- a loop, with the node of its head and the function's loop
  pub record IsLoopAt (l : ULoop) (node : UNode) (f : Function) (b : Block) (info : LoopInfo) : Type 0 where
    pub at : IsNodeAt l.head node f b
    pub listed : Contains f.loops info
    pub start : b.start ≡ info.head

  pub record HasLoop (l : ULoop) : Type 0 where
    pub loop : IsLoop program u.nodes u.edges l
    pub function : Function
    pub block : Block
    pub at : IsLoopAt l loop.node function block loop.info

  pub has_loop : (l : ULoop) → Contains u.loops l → HasLoop l
  has_loop l c =
      let loop = all_in (λ m. IsLoop program u.nodes u.edges m) u.loops l unfolds.loops.each c in
      record {
        loop = loop;
        function = loop.head.function;
        block = loop.head.block;
        at = record { at = record { stands = loop.stands; is = loop.head.is }; listed = loop.head.listed; start = loop.head.head };
      }
