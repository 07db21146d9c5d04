-- The nodes and loops of an unfolding, and what they are in the program.
use Rattle.std.proofs.Common.{◌≡◌, ℕ, Bool, List, map, slice_get, sym, ap, subst, ◌∙◌, inl}
use Rattle.std.specs.Prelude.{Contains, Some}
use Rattle.wx_base.specs.declared.facts.Facts.{Facts}
use Rattle.wx_base.specs.declared.image.Image.{Image}
use Rattle.wx_base.specs.declared.machine.Machine.{Machine}
use Rattle.wx_base.specs.Functions as functions
use Rattle.wx_base.specs.Functions.{AreLoops, IsEntry}
use Rattle.wx_base.specs.Monitor as monitor
use Rattle.flow_block.specs.declared.block.Block.{Block}
use Rattle.flow_block.specs.Blocks.{AreBlocks, IsBlock}
use Rattle.flow_graph.specs.declared.program.Function.{Function}
use Rattle.flow_graph.specs.declared.program.LoopInfo.{LoopInfo}
use Rattle.flow_graph.specs.declared.program.Program.{Program}
use Rattle.flow_graph.specs.Program.{IsProgram, bounded_loop, judged_function}
use Rattle.flow_ctx.specs.declared.unfolded.ULoop.{ULoop}
use Rattle.flow_ctx.specs.declared.unfolded.UNode.{UNode}
use Rattle.flow_ctx.specs.declared.unfolded.Unfolded.{Unfolded}
use Rattle.flow_ctx.specs.Nodes.{BeginsAt, IsBlockAt, IsReached, Leads, entry_after}
use Rattle.flow_ctx.specs.Nodes.IsReached.{start, along}
use Rattle.flow_ctx.specs.Nodes.Leads.{next, jump, call, ret}
use Rattle.flow_ctx.specs.Unfolding.{IsLoop, IsUnfolding}
use Rattle.flow_ctx.specs.Unfolding.IsMember.{own}
use Rattle.loop_laws.proofs.Lists.{all_at, all_in, mapped, one_element, place_of}

-- ---- blocks of nodes

-- a node has one function, and one block
pub same_block : (program : Program) (n m : UNode) (f g : Function) (b c : Block) → n ≡ m → IsBlockAt program n f b → IsBlockAt program m g c → b ≡ c
same_block program n m f g b c same is at =
    let functions : f ≡ g = one_element program.functions m.function f g (ap (λ (k : UNode). slice_get program.functions k.function) (sym same) ∙ is.function_stands) at.function_stands in
    one_element g.blocks m.block b c (sym (λ i. slice_get (functions i).blocks (same i).block) ∙ is.block_stands) at.block_stands

-- functions that one chain of calls led to have one entry
pub same_entry : (program : Program) (n m : UNode) (f g : Function) (b c : Block) → n.chain ≡ m.chain → IsBlockAt program n f b → IsBlockAt program m g c → f.entry ≡ g.entry
same_entry program n m f g b c same is at = is.entry ∙ ap (entry_after program.start) same ∙ sym at.entry

pub record HasBlock (program : Program) (node : UNode) : Type 0 where
  pub function : Function
  pub block : Block
  pub is : IsBlockAt program node function block

begun : (program : Program) (node : UNode) (chain : List _) (address : ℕ) → BeginsAt program node chain address → HasBlock program node
begun program node chain address b = record { function = b.function; block = b.block; is = b.is }

led_to : (program : Program) (from : UNode) (taken : Bool) (to : UNode) → Leads program from taken to → HasBlock program to
led_to program from taken to (next f b address _ is e begins) = begun program to from.chain address begins
led_to program from taken to (jump f b address _ is e begins) = begun program to from.chain address begins
led_to program from taken to (call f b entry _ is e begins) = begun program to _ entry begins
led_to program from taken to (ret f b callers last _ is e chain begins) = begun program to callers _ begins

pub has_block : (program : Program) (node : UNode) → IsReached program node → HasBlock program node
has_block program node (start _ begins) = begun program node _ _ begins
has_block program node (along from taken _ reached leads) = led_to program from taken node leads

-- ---- loops

pub loop_of : (program : Program) (u : Unfolded) (l : ULoop) → IsUnfolding program u → Contains u.loops l → IsLoop program u.nodes u.edges l
loop_of program u l unfolds c = all_in (λ m. IsLoop program u.nodes u.edges m) u.loops l unfolds.loops.each c

module _ (image : Image) (facts : Facts) (first : ℕ) (machine : Machine) (program : Program) (built : IsProgram image facts first machine program) where
  abbrev judged : List monitor.Function
  judged = map judged_function program.functions

  -- a function of the program
  pub record IsFunctionAt (place : ℕ) (f : Function) : Type 0 where
    pub entry : IsEntry image facts first f.entry
    pub loops : AreLoops image facts f.entry (map bounded_loop f.loops)
    pub blocks : AreBlocks image facts machine f.entry f.blocks

  pub function_at : (place : ℕ) (f : Function) → slice_get program.functions place ≡ Some f → IsFunctionAt place f
  function_at place f e =
      let there = mapped judged_function program.functions place f e in
      record {
        entry = all_at (λ g. IsEntry image facts first g.entry) judged place (judged_function f) built.rules.functions.entries there;
        loops = all_at (λ g. AreLoops image facts g.entry g.loops) judged place (judged_function f) built.rules.functions.loops there;
        blocks = all_at (λ g. AreBlocks image facts machine g.entry g.blocks) program.functions place f built.blocks e;
      }

  pub block_is : (node : UNode) (f : Function) (b : Block) → IsBlockAt program node f b → IsBlock image facts machine f.entry b
  block_is node f b at =
      all_at (λ c. IsBlock image facts machine f.entry c) f.blocks node.block b (function_at node.function f at.function_stands).blocks.each at.block_stands

  pub loop_is : (place : ℕ) (f : Function) (info : LoopInfo) → IsFunctionAt place f → Contains f.loops info → functions.IsLoop image facts f.entry (bounded_loop info)
  loop_is place f info at c =
      let there = place_of f.loops info c in
      all_at (λ l. functions.IsLoop image facts f.entry l) (map bounded_loop f.loops) there.place (bounded_loop info) at.loops.each (mapped bounded_loop f.loops there.place info there.stands)

  module _ (u : Unfolded) (l : ULoop) (loop : IsLoop program u.nodes u.edges l) where
    -- the entry of the loop's function
    abbrev pub home : ℕ
    home = loop.head.function.entry

    -- the function's loop
    pub loop_here : functions.IsLoop image facts home (bounded_loop loop.info)
    loop_here =
        let at = function_at loop.node.function loop.head.function loop.head.is.function_stands in
        loop_is loop.node.function loop.head.function loop.info at loop.head.listed

    pub head_is_member : Contains l.members l.head
    head_is_member =
        let c : Contains loop.info.members loop.head.block.start = subst (λ a. Contains loop.info.members a) (sym loop.head.head) (loop_here.whole loop.info.head (inl (λ i. loop.info.head))) in
        (loop.members l.head).1 (record { node = loop.node; stands = loop.stands; member = own loop.head.function loop.head.block loop.head.is (λ i. loop.node.chain) c })
