-- What holds of the graph of an unfolding. This project's own.
use Rattle.std.specs.Prelude.{ℕ, ◌<◌, List, length, pos, ◌≤ℤ◌}
use Rattle.wx_base.specs.declared.facts.Facts.{Facts}
use Rattle.wx_base.specs.declared.image.Image.{Image}
use Rattle.wx_base.specs.declared.machine.Machine.{Machine}
use Rattle.flow_graph.specs.Refusals.{IsSoundProgram}
use Rattle.flow_laws.specs.Programs.{EndsInMemory}
use Rattle.flow_ctx.specs.declared.unfolded.Unfolded.{Unfolded}
use Rattle.flow_ctx.specs.Unfolding.{IsUnfolding}
use Rattle.cache_class.specs.declared.class.Classes.{Classes}
use Rattle.cert_text.specs.declared.certificate.Charge.{Charge}
use Rattle.state_families.specs.declared.family_set.FamilySet.{FamilySet}
use Rattle.path_graph.specs.declared.graph.Graph.{Graph}
use Rattle.path_graph.specs.Conditions.{IsGraph}
use Rattle.path_graph.specs.Graph.{finish_at}
use Rattle.path_rules.specs.Made.{IsProblem}
use Rattle.path_rules.specs.Weights.{AreWeights}

-- The graph meets what the path problem asks of its arcs and loops: each closed walk lies in a loop, since the edges that it goes along
-- are a closed walk of the unfolding.
abbrev pub GraphIsSound : Type 0
GraphIsSound = (image : Image) (facts : Facts) (entry : ℕ) (m : Machine) (u : Unfolded) (classes : Classes) (f : FamilySet)
    (charges : List Charge) (order addresses : List ℕ) (g : Graph) → EndsInMemory image → IsSoundProgram image facts entry m u.program
    → IsUnfolding u.program u → IsProblem u m classes f charges order addresses g → IsGraph g

-- No finish is below 0: where every event hits that may, no charge is taken off.
abbrev pub FinishesAreNatural : Type 0
FinishesAreNatural = (u : Unfolded) (m : Machine) (classes : Classes) (f : FamilySet) (charges : List Charge) (order addresses : List ℕ)
    (g : Graph) (v : ℕ) → AreWeights u m classes f charges order addresses g → v < length g.finish → pos 0 ≤ℤ finish_at g v
