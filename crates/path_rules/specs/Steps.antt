-- Steps of walks over pairs of a node and a vector: what an edge weighs from a vector under a combination, before the prices of
-- back edges, and what the end of a walk weighs. This project's own.
use Rattle.std.specs.Prelude.{◌≡◌, ◌⊎◌, ℕ, ◌+◌, List, Any, slice_get, Some, if◌then◌else◌, ℤ, pos, ◌-ℤ◌, ◌≤ℤ◌}
use Rattle.wx_base.specs.declared.machine.Machine.{Machine}
use Rattle.wx_base.specs.Monitor.{is_one_of}
use Rattle.wx_base.specs.Blocks.{Exit, exit_from, finish_from}
use Rattle.xdd_table.specs.Diagram.{Combination}
use Rattle.pipe_time.specs.declared.vector.Vector.{Vector}
use Rattle.pipe_block.specs.Events.{entries_of}
use Rattle.flow_block.specs.declared.block.Block.{Block}
use Rattle.flow_ctx.specs.declared.scope.Scope.TheVariants.{Loop}
use Rattle.flow_ctx.specs.declared.unfolded.Edge.{Edge}
use Rattle.flow_ctx.specs.declared.unfolded.Unfolded.{Unfolded}
use Rattle.cache_class.specs.declared.class.Class.{Class}
use Rattle.cache_class.specs.declared.class.Classes.{Classes}
use Rattle.cache_class.specs.Allowed.{IsAllowed}
use Rattle.cert_text.specs.declared.certificate.Charge.{Charge}
use Rattle.cert_rules.specs.Prices.{charges_in, missed, sum_places}
use Rattle.cert_rules.specs.Rules.{IsClassed}
use Rattle.state_families.specs.declared.family_set.FamilySet.{FamilySet}
use Rattle.state_families.specs.declared.family_set.Joined.{Joined}
use Rattle.path_rules.specs.Pairs.{IsVertex}

-- the greatest of some numbers
pub record IsMost (Is : ℤ → Type 0) (number : ℤ) : Type 0 where
  pub is : Is number
  pub most : (other : ℤ) → Is other → other ≤ℤ number

-- the node is joined
abbrev pub IsJoined : List Joined → ℕ → Type 0
IsJoined joined node = Any (λ j. j.node ≡ node) joined

-- an exit into a node arrives at a vector of it: at the one that equals it, or at the one of a joined node, which covers it
abbrev pub ArrivesAt : List Joined → ℕ → List ℕ → Vector → Type 0
ArrivesAt joined node slots v = IsJoined joined node ⊎ (v.slots ≡ slots)

-- the charges of the loops that an edge enters
abbrev pub entry_charges : List Charge → Unfolded → ℕ → ℕ
entry_charges charges u edge =
    sum_places (λ number l. if is_one_of l.entries edge then charges_in charges (Loop number) else 0) 0 u.loops

-- What an edge weighs with the exit of a block at a combination: the exit's cost and the charges of the loops that the edge enters, less
-- the charges of the groups that miss. What back edges are priced at comes on top.
abbrev pub step_weight : List Charge → Unfolded → ℕ → Combination → Block → List Class → Exit → ℤ
step_weight charges u edge f block kinds exit =
    pos (exit.cost + entry_charges charges u edge) -ℤ pos (missed charges f block kinds)

-- A step along an edge, from a vertex to the vertex that the exit under an allowed combination arrives at, and what it weighs.
pub record IsStep (u : Unfolded) (m : Machine) (classes : Classes) (f : FamilySet) (charges : List Charge) (number from to : ℕ) (weight : ℤ)
    : Type 0 where
  pub edge : Edge
  pub block : Block
  pub kinds : List Class
  pub source : Vector
  pub target : Vector
  pub combination : Combination
  pub stands : slice_get u.edges number ≡ Some edge
  pub classed : IsClassed u classes edge.from block kinds
  pub leaves : IsVertex f.vectors from edge.from source
  pub comes : IsVertex f.vectors to edge.to target
  pub allowed : IsAllowed kinds combination
  pub arrives : ArrivesAt f.joined edge.to (exit_from m source.slots (entries_of block combination) edge.taken).slots target
  pub is : weight
      ≡ step_weight charges u number combination block kinds (exit_from m source.slots (entries_of block combination) edge.taken)

-- what a walk weighs besides that ends in a node with a vector, under an allowed combination: the finish, less the charges of the groups
-- that miss
pub record IsEnd (u : Unfolded) (m : Machine) (classes : Classes) (charges : List Charge) (node : ℕ) (v : Vector) (weight : ℤ) : Type 0 where
  pub block : Block
  pub kinds : List Class
  pub combination : Combination
  pub classed : IsClassed u classes node block kinds
  pub allowed : IsAllowed kinds combination
  pub is : weight
      ≡ pos (finish_from m v.slots (entries_of block combination)) -ℤ pos (missed charges combination block kinds)
