-- What is said of unfoldings. This project's own.
use Rattle.std.specs.Prelude.{◌≡◌, ◌<◌, ℕ, length}
use Rattle.wx_base.specs.declared.facts.Facts.{Facts}
use Rattle.wx_base.specs.declared.image.Image.{Image}
use Rattle.wx_base.specs.declared.machine.Machine.{Machine}
use Rattle.flow_graph.specs.declared.program.Program.{Program}
use Rattle.flow_graph.specs.Program.{IsProgram}
use Rattle.flow_graph.specs.Refusals.{IsSoundProgram}
use Rattle.flow_ctx.specs.declared.unfolded.Unfolded.{Unfolded}
use Rattle.flow_ctx.specs.Nodes.{HasBlock}
use Rattle.flow_ctx.specs.Unfolding.{IsUnfolding}

-- the program is one that an image has with facts, from a start and on a machine, and no cause stands against it
pub record IsBuilt (program : Program) : Type 0 where
  pub image : Image
  pub facts : Facts
  pub start : ℕ
  pub machine : Machine
  pub is : IsSoundProgram image facts start machine program

-- such a program has at most one unfolding
abbrev pub UnfoldingIsOne : Type 0
UnfoldingIsOne = (program : Program) (u v : Unfolded) → IsBuilt program → IsUnfolding program u → IsUnfolding program v → u ≡ v

-- the program is one that some image has with facts, from a start, on this machine
pub record IsBuiltOn (machine : Machine) (program : Program) : Type 0 where
  pub image : Image
  pub facts : Facts
  pub start : ℕ
  pub is : IsProgram image facts start machine program

-- the unfolding of a program that was built for this machine
pub record IsUnfoldedOn (machine : Machine) (u : Unfolded) : Type 0 where
  pub built : IsBuiltOn machine u.program
  pub unfolded : IsUnfolding u.program u

-- each node of an unfolding has a block
abbrev pub NodesHaveBlocks : Type 0
NodesHaveBlocks = (program : Program) (u : Unfolded) (number : ℕ) → IsUnfolding program u → number < length u.nodes → HasBlock u number
