-- From what a block hands on to what its node does.
use Rattle.std.proofs.Common.{◌≡◌, ℕ, Bool, List, Result, Ok, Err, IfOk, sym, subst, ◌∙◌}
use Rattle.std.proofs.lemmas.Option.{same_Some}
use Rattle.wx_base.specs.declared.machine.Machine.{Machine}
use Rattle.xdd_table.specs.declared.node.Dd.{Dd}
use Rattle.xdd_table.specs.declared.node.Node.{Node}
use Rattle.flow_block.specs.declared.block.Block.{Block}
use Rattle.flow_ctx.specs.declared.unfolded.Unfolded.{Unfolded}
use Rattle.flow_ctx.specs.Nodes.{HasBlock, IsBlockOf}
use Rattle.pipe_time.specs.declared.vector.Vector.{Vector}
use Rattle.pipe_block.specs.declared.diagrams.Leaving.{Leaving}
use Rattle.pipe_block.specs.Leavings.{IsFinishOf, IsLeaving, IsLeavingAt}
use Rattle.node_exits.specs.declared.work.Work.{Work}
use Rattle.node_exits.specs.NodeExits.{IsAnswer, IsNodeFinish}

-- a node that has a block has one
block_of : (u : Unfolded) (node : ℕ) (h : HasBlock u node) → IsBlockOf u node h.block
block_of u node h = record {
  node = h.node;
  function = h.function;
  stands = h.stands;
  function_stands = h.function_stands;
  block_stands = h.block_stands;
}

pub finish_is : {E : Type 0} (nodes : List Node) (u : Unfolded) (m : Machine) (node : ℕ) (from : Vector) (r : Result Dd E) → HasBlock u node
    → ((b : Block) → IsBlockOf u node b → IfOk r (IsFinishOf nodes m from.slots b)) → IfOk r (IsNodeFinish nodes u m node from)
finish_is nodes u m node from (Ok d) h all = record {
  diagram = (all h.block (block_of u node h)).diagram;
  each = λ b f is. (all b is).times f;
}
finish_is nodes u m node from (Err e) h all = tt

-- what the block hands on stands in the list of answers once, by whichever block the node has
pub answer_is : {E : Type 0} (nodes : List Node) (u : Unfolded) (m : Machine) (node : ℕ) (from : Vector) (taken : Bool) (work : Work) (r : Result ℕ E) → HasBlock u node
    → ((b : Block) → IsBlockOf u node b → IfOk r (IsLeavingAt nodes work.memo.leavings m from.slots b taken)) → IfOk r (IsAnswer nodes u m node from taken work)
answer_is nodes u m node from taken work (Ok number) h all =
    let first = all h.block (block_of u node h) in
    record {
      leaving = first.leaving;
      listed = first.stands;
      is = record {
        diagrams = first.is.diagrams;
        each = λ b is.
            let other = all b is in
            let same : other.leaving ≡ first.leaving = same_Some other.leaving first.leaving (sym other.stands ∙ first.stands) in
            subst (λ (l : Leaving). IsLeaving nodes m from.slots b taken l) same other.is;
      };
    }
answer_is nodes u m node from taken work (Err e) h all = tt
