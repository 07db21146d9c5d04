-- That runs follow the unfolding of their program. This project's own.
use Rattle.std.specs.Prelude.{◌≡◌, ℕ, ◌++◌, List, Contains}
use Rattle.wx_base.specs.declared.facts.Facts.{Facts}
use Rattle.wx_base.specs.declared.image.Image.{Image}
use Rattle.wx_base.specs.declared.machine.Machine.{Machine}
use Rattle.wx_base.specs.Run.{Executed, IsStart, Start, run_of}
use Rattle.flow_graph.specs.declared.program.Program.{Program}
use Rattle.flow_graph.specs.Program.{rules_of}
use Rattle.flow_graph.specs.Refusals.{IsSoundProgram}
use Rattle.flow_ctx.specs.declared.unfolded.ULoop.{ULoop}
use Rattle.flow_ctx.specs.declared.unfolded.Unfolded.{Unfolded}
use Rattle.flow_ctx.specs.Stays.{IsWalk, StaysInLoop}
use Rattle.flow_ctx.specs.Unfolding.{IsUnfolding}
use Rattle.flow_laws.specs.Programs.{EndsInMemory}
use Rattle.ctx_laws.specs.Following.{Follows, IsFollowing}

-- Every run from a start of the image, cut anywhere, follows the unfolding. No premise says that it obeys: what a run
-- has executed are the instructions up to a move that breaks a rule.
abbrev pub RunsFollowUnfoldings : Type 0
RunsFollowUnfoldings = (image : Image) (facts : Facts) (entry : ℕ) (machine : Machine) (program : Program) (u : Unfolded)
    (start : Start) (n : ℕ) → EndsInMemory image → IsSoundProgram image facts entry machine program
    → IsUnfolding program u → IsStart machine image entry start
    → IsFollowing u (run_of machine image (rules_of facts program) entry start n)

-- what is followed is a walk
abbrev pub FollowedWalksAreWalks : Type 0
FollowedWalksAreWalks = (u : Unfolded) (executed : List Executed) (walk : List ℕ) (node index : ℕ)
    → Follows u executed walk node index → IsWalk u walk node

-- what was executed, when a run that follows had just walked so far
pub record WasExecuted (u : Unfolded) (executed : List Executed) (since : List ℕ) : Type 0 where
  pub later : List Executed
  pub before : List Executed
  pub node : ℕ
  pub are : executed ≡ later ++ before
  pub follows : Follows u before since node 0

-- each earlier part of a walk has the part of what was executed that belongs to it
abbrev pub WalksTellExecuted : Type 0
WalksTellExecuted = (u : Unfolded) (executed : List Executed) (later since : List ℕ) (node index : ℕ)
    → Follows u executed (later ++ since) node index → WasExecuted u executed since

-- two stays are one
pub record IsOneStay (since other : List ℕ) (count number : ℕ) : Type 0 where
  pub since_is : since ≡ other
  pub count_is : count ≡ number

-- a walk has at most one stay in a loop
abbrev pub StaysAreOne : Type 0
StaysAreOne = (program : Program) (u : Unfolded) (l : ULoop) (walk since other : List ℕ) (count number : ℕ)
    → IsUnfolding program u → Contains u.loops l → StaysInLoop u l walk since count → StaysInLoop u l walk other number
    → IsOneStay since other count number

-- while a stay lasts the walk is at a member
abbrev pub StaysAreAtMembers : Type 0
StaysAreAtMembers = (image : Image) (facts : Facts) (entry : ℕ) (machine : Machine) (program : Program) (u : Unfolded)
    (l : ULoop) (walk since : List ℕ) (count node : ℕ) → IsSoundProgram image facts entry machine program
    → IsUnfolding program u → Contains u.loops l → IsWalk u walk node → StaysInLoop u l walk since count
    → Contains l.members node
