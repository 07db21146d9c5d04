-- How a run follows an unfolding: from instruction to instruction in the block of a node, and from node to node along
-- edges. This project's own.
use Rattle.std.specs.Prelude.{◌≡◌, ◌<◌, ◌≤◌, ◌↔◌, ◌⊎◌, ℕ, suc, false, List, [], ◌∷◌, ◌++◌, map, length}
use Rattle.std.specs.Prelude.{slice_get, Contains, Some}
use Rattle.wx_base.specs.Monitor.{Frame, OpenCall, chain_of}
use Rattle.wx_base.specs.Run.{Executed, Run}
use Rattle.arm_code.specs.declared.insn.Insn.{Insn}
use Rattle.arm_code.specs.Encoding.{decoded}
use Rattle.flow_block.specs.declared.block.Block.{Block}
use Rattle.flow_block.specs.Sites.{behind}
use Rattle.flow_ctx.specs.declared.unfolded.Call.{Call}
use Rattle.flow_ctx.specs.declared.unfolded.Edge.{Edge}
use Rattle.flow_ctx.specs.declared.unfolded.ULoop.{ULoop}
use Rattle.flow_ctx.specs.declared.unfolded.UNode.{UNode}
use Rattle.flow_ctx.specs.declared.unfolded.Unfolded.{Unfolded}
use Rattle.flow_ctx.specs.Nodes.{IsBlockOf}
use Rattle.flow_ctx.specs.Stays.{IsWalk, StaysInLoop, Takes}

-- An instruction was executed as the one with an index in the block of a node: it is that one, and stood at its
-- address. Only the last of a block may have jumped.
pub record IsExecutedIn (u : Unfolded) (number index : ℕ) (i : Executed) : Type 0 where
  pub block : Block
  pub is : IsBlockOf u number block
  pub insn : Insn
  pub stands : slice_get block.insns index ≡ Some insn
  pub means : decoded i.done.entry.word ≡ Some insn
  pub address : i.address ≡ behind block.start index
  pub straight : suc index < length block.insns → i.done.entry.taken ≡ false

-- The edge with a number leads on from the node: all instructions of the node's block were executed, the last of them
-- this one, and the edge is a taken one exactly if it jumped.
pub record LeadsOn (u : Unfolded) (number : ℕ) (edge : Edge) (index : ℕ) (i : Executed) : Type 0 where
  pub stands : slice_get u.edges number ≡ Some edge
  pub block : Block
  pub is : IsBlockOf u edge.from block
  pub whole : index ≡ length block.insns
  pub taken : edge.taken ≡ i.done.entry.taken

-- Executed instructions follow the unfolding: along a walk from the start to the node with a number, and so many
-- instructions of that node's block since the run came to it. What was executed and the walk have their newest first.
pub data Follows (u : Unfolded) : List Executed → List ℕ → ℕ → ℕ → Type 0 where
  begins : Follows u [] [] u.start 0
  executes : (i : Executed) (executed : List Executed) (walk : List ℕ) (number index : ℕ)
      → Follows u executed walk number index → IsExecutedIn u number index i
      → Follows u (i ∷ executed) walk number (suc index)
  moves : (i : Executed) (executed : List Executed) (walk : List ℕ) (index number : ℕ) (edge : Edge)
      → Follows u (i ∷ executed) walk edge.from index → LeadsOn u number edge index i
      → Follows u (i ∷ executed) (number ∷ walk) edge.to 0

-- an open call, as nodes name it
abbrev pub call_of : OpenCall → Call
call_of call = record { site = call.site; entry = call.callee }

-- the open calls that frames tell, the oldest first
abbrev pub calls_of : List Frame → List Call
calls_of frames = map call_of (chain_of frames)

-- the frame, among those of a run, of the function that a chain of calls led to
pub record IsFrameOf (frames : List Frame) (chain : List Call) (frame : Frame) : Type 0 where
  pub younger : List Frame
  pub older : List Frame
  pub are : frames ≡ younger ++ frame ∷ older
  pub calls : calls_of (frame ∷ older) ≡ chain

-- the counter for a loop's head, in the frame of the head's chain, is this number
pub record IsCounted (u : Unfolded) (frames : List Frame) (l : ULoop) (count : ℕ) : Type 0 where
  pub head : UNode
  pub stands : slice_get u.nodes l.head ≡ Some head
  pub block : Block
  pub is : IsBlockOf u l.head block
  pub frame : Frame
  pub of : IsFrameOf frames head.chain frame
  pub counter : frame.counter block.start ≡ count

-- a loop has its head at an address
pub record HasHeadAt (u : Unfolded) (l : ULoop) (address : ℕ) : Type 0 where
  pub block : Block
  pub is : IsBlockOf u l.head block
  pub start : block.start ≡ address

-- the edge with a number is a back edge of a loop with its head at an address
pub record IsBackTo (u : Unfolded) (address number : ℕ) : Type 0 where
  pub l : ULoop
  pub listed : Contains u.loops l
  pub head : HasHeadAt u l address
  pub back : Contains l.back number

-- the edges are all these
pub record AreAllBackTo (u : Unfolded) (address : ℕ) (edges : List ℕ) : Type 0 where
  pub exact : (number : ℕ) → Contains edges number ↔ IsBackTo u address number

-- behind a walk the run is in a stay of the loop
pub record IsInStay (u : Unfolded) (l : ULoop) (walk : List ℕ) : Type 0 where
  pub since : List ℕ
  pub count : ℕ
  pub stays : StaysInLoop u l walk since count

-- One part of a walk is behind an earlier one, which leads to the node with a number.
pub record IsPartTo (u : Unfolded) (walk earlier : List ℕ) (number : ℕ) : Type 0 where
  pub later : List ℕ
  pub are : walk ≡ later ++ earlier
  pub leads : IsWalk u earlier number

-- A run follows the unfolding: its instructions do, and its last one is of the node's block. Wherever its walk came
-- to a member of a loop it was in a stay of it, and no stay took more back edges than the loop's bound. At its end
-- the frames count the back edges of the stays that last, and the totals those into each head in the whole run, which
-- are within the bound on that.
pub record IsFollowing (u : Unfolded) (run : Run) : Type 0 where
  pub walk : List ℕ
  pub node : ℕ
  pub index : ℕ
  pub follows : Follows u run.executed walk node index
  pub inside : (run.executed ≡ []) ⊎ (0 < index)
  pub stays : (l : ULoop) (earlier : List ℕ) (number : ℕ) → Contains u.loops l → IsPartTo u walk earlier number
      → Contains l.members number → IsInStay u l earlier
  pub bounds : (l : ULoop) (earlier since : List ℕ) (number count : ℕ) → Contains u.loops l → IsPartTo u walk earlier number
      → StaysInLoop u l earlier since count → count ≤ l.maxcount
  pub counts : (l : ULoop) (since : List ℕ) (count : ℕ) → Contains u.loops l → StaysInLoop u l walk since count
      → IsCounted u run.watch.frames l count
  pub totals : (address : ℕ) (edges : List ℕ) (count : ℕ) → AreAllBackTo u address edges → Takes edges walk count
      → run.watch.totals address ≡ count
  pub most : (l : ULoop) (address total : ℕ) (edges : List ℕ) (count : ℕ) → Contains u.loops l → HasHeadAt u l address
      → l.totalcount ≡ Some total → AreAllBackTo u address edges → Takes edges walk count → count ≤ total
