-- The blocks of the nodes of an unfolding.
use Rattle.std.proofs.Common.{◌≡◌, ℕ, Bool, List, slice_get, sym, ap, subst, ◌∙◌}
use Rattle.std.specs.Prelude.{All, Some}
use Rattle.std.proofs.lemmas.Option.{get_or_from_slice_get, slice_get_within}
use Rattle.wx_base.specs.declared.facts.Facts.{Facts}
use Rattle.wx_base.specs.declared.image.Image.{Image}
use Rattle.wx_base.specs.declared.machine.Machine.{Machine}
use Rattle.flow_block.specs.declared.block.Block.{Block}
use Rattle.flow_block.specs.Blocks.{AreBlocks, IsBlock}
use Rattle.flow_graph.specs.declared.program.Function.{Function}
use Rattle.flow_graph.specs.declared.program.Program.{Program}
use Rattle.flow_graph.specs.Program.{IsProgram}
use Rattle.flow_ctx.specs.declared.unfolded.Call.{Call}
use Rattle.flow_ctx.specs.declared.unfolded.Edge.{Edge}
use Rattle.flow_ctx.specs.declared.unfolded.UNode.{UNode}
use Rattle.flow_ctx.specs.declared.unfolded.Unfolded.{Unfolded}
use Rattle.flow_ctx.specs.Nodes.{BeginsAt, IsBlockAt, IsBlockOf, IsReached, Leads}
use Rattle.flow_ctx.specs.Nodes.IsReached.{start, along}
use Rattle.flow_ctx.specs.Nodes.Leads.{next, jump, call, ret}
use Rattle.flow_ctx.specs.Unfolding.{IsEdge, IsUnfolding}
use Rattle.class_laws.proofs.Lists.{one_element}

module _ {X : Type 0} where
  pub all_at : (P : X → Type 0) (xs : List X) (k : ℕ) (x : X) → All P xs → slice_get xs k ≡ Some x → P x
  all_at P xs k x all e = subst P (get_or_from_slice_get xs k x x e) (all k x (slice_get_within xs k x e))

-- a number has one block
pub one_block : (u : Unfolded) (number : ℕ) (b c : Block) → IsBlockOf u number b → IsBlockOf u number c → b ≡ c
one_block u number b c p q =
    let nodes : p.node ≡ q.node = one_element u.nodes number p.node q.node p.stands q.stands in
    let functions : p.function ≡ q.function =
    one_element u.program.functions q.node.function p.function q.function (ap (λ (n : UNode). slice_get u.program.functions n.function) (sym nodes) ∙ p.function_stands) q.function_stands in
    one_element q.function.blocks q.node.block b c (sym (λ i. slice_get (functions i).blocks (nodes i).block) ∙ p.block_stands) q.block_stands

-- a block of a function of the program
pub record IsSomeBlock (image : Image) (facts : Facts) (machine : Machine) (block : Block) : Type 0 where
  pub entry : ℕ
  pub is : IsBlock image facts machine entry block

-- a node with its block
pub record HasBlock (u : Unfolded) (number : ℕ) : Type 0 where
  pub block : Block
  pub is : IsBlockOf u number block

module _ (image : Image) (facts : Facts) (first : ℕ) (machine : Machine) (program : Program) (built : IsProgram image facts first machine program)
    (u : Unfolded) (unfolds : IsUnfolding program u) where
  pub block_is : (number : ℕ) (block : Block) → IsBlockOf u number block → IsSomeBlock image facts machine block
  block_is number block of =
      let stands : slice_get program.functions of.node.function ≡ Some of.function = ap (λ (p : Program). slice_get p.functions of.node.function) (sym unfolds.kept) ∙ of.function_stands in
      let blocks = all_at (λ (f : Function). AreBlocks image facts machine f.entry f.blocks) program.functions of.node.function of.function built.blocks stands in
      record {
        entry = of.function.entry;
        is = all_at (λ (b : Block). IsBlock image facts machine of.function.entry b) of.function.blocks of.node.block block blocks.each of.block_stands;
      }

  -- a node that is reached has a block
  record HasBlockAt (node : UNode) : Type 0 where
    function : Function
    block : Block
    is : IsBlockAt program node function block

  begun : (node : UNode) (chain : List Call) (address : ℕ) → BeginsAt program node chain address → HasBlockAt node
  begun node chain address begins = record { function = begins.function; block = begins.block; is = begins.is }

  led : (from : UNode) (taken : Bool) (to : UNode) → Leads program from taken to → HasBlockAt to
  led from taken to (next f b address _ is e begins) = begun to _ _ begins
  led from taken to (jump f b address _ is c begins) = begun to _ _ begins
  led from taken to (call f b entry _ is c begins) = begun to _ _ begins
  led from taken to (ret f b callers last _ is r e begins) = begun to _ _ begins

  reached : (node : UNode) → IsReached program node → HasBlockAt node
  reached node (start _ begins) = begun node _ _ begins
  reached node (along from taken _ r leads) = led from taken node leads

  pub has_block : (number : ℕ) (node : UNode) → slice_get u.nodes number ≡ Some node → HasBlock u number
  has_block number node stands =
      let at = reached node (all_at (λ (n : UNode). IsReached program n) u.nodes number node unfolds.nodes.reached stands) in
      record {
        block = at.block;
        is = record {
          node = node;
          function = at.function;
          stands = stands;
          function_stands = ap (λ (p : Program). slice_get p.functions node.function) unfolds.kept ∙ at.is.function_stands;
          block_stands = at.is.block_stands;
        };
      }

  pub start_block : HasBlock u u.start
  start_block = has_block u.start unfolds.start.node unfolds.start.stands

  pub target_block : (number : ℕ) (edge : Edge) → slice_get u.edges number ≡ Some edge → HasBlock u edge.to
  target_block number edge stands =
      let is = all_at (λ (e : Edge). IsEdge program u.nodes e) u.edges number edge unfolds.edges.each stands in
      has_block edge.to is.target is.to
