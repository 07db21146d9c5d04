-- The certificate that an unfolding makes: the vectors of its nodes with their potentials, the charges, and the prices of the choice of
-- totals. Its bound is the value of the path problem. This project's own.
use Rattle.std.specs.Prelude.{◌≡◌, ℕ, ◌+◌, ◌<◌, ◌≤◌, ◌==◌, List, [], ◌∷◌, length, slice_get, slice_index, Some, if◌then◌else◌}
use Rattle.wx_base.specs.declared.machine.Machine.{Machine}
use Rattle.pipe_time.specs.declared.vector.Vector.{Vector}
use Rattle.flow_ctx.specs.declared.scope.Scope.TheVariants.{Run, Loop}
use Rattle.flow_ctx.specs.declared.unfolded.Unfolded.{Unfolded}
use Rattle.cache_class.specs.declared.class.Classes.{Classes}
use Rattle.cert_text.specs.declared.certificate.CertVector.{CertVector}
use Rattle.cert_text.specs.declared.certificate.Charge.{Charge}
use Rattle.cert_text.specs.declared.certificate.TotalPrice.{TotalPrice}
use Rattle.cert_text.specs.declared.certificate.Certificate.{Certificate}
use Rattle.cert_rules.specs.Prices.{charges_in, sum_places}
use Rattle.cert_rules.specs.Rules.{greatest_number}
use Rattle.state_families.specs.declared.family_set.FamilySet.{FamilySet}
use Rattle.state_families.specs.Families.{AreFamilies}
use Rattle.state_charges.specs.Charges.{AreCharges}
use Rattle.path_graph.specs.declared.graph.Graph.{Graph}
use Rattle.path_problem.specs.declared.choice.Choice.{Choice}
use Rattle.path_problem.specs.declared.path_error.PathError.TheVariants.{LoopLarge, VertexLarge}
use Rattle.path_problem.specs.Choice.{IsChosen, IsTooLarge, path_value}
use Rattle.path_rules.specs.Pairs.{IsVertex}
use Rattle.path_rules.specs.Loops.{AreTotals, IsLoopOrder}
use Rattle.path_rules.specs.Weights.{AreWeights}

-- ---- the path problem
-- everything that the path problem of an unfolding on a machine is made of
pub record IsProblem (u : Unfolded) (m : Machine) (classes : Classes) (f : FamilySet) (charges : List Charge) (order addresses : List ℕ)
    (g : Graph) : Type 0 where
  pub families : AreFamilies u m classes f
  pub charges_are : AreCharges u m classes f.vectors charges
  pub order_is : IsLoopOrder u order
  pub totals : AreTotals u addresses
  pub graph : AreWeights u m classes f charges order addresses g

-- the charges of the loop that has the start as its head, if there is one
abbrev pub start_charges : List Charge → Unfolded → ℕ
start_charges charges u = sum_places (λ number l. if l.head == u.start then charges_in charges (Loop number) else 0) 0 u.loops

-- the value of the path problem: that of the choice, and the charges that a run brings from its start
abbrev pub problem_value : Unfolded → List Charge → Graph → Choice → ℕ
problem_value u charges g choice = path_value g choice.prices choice.potentials + charges_in charges Run + start_charges charges u

-- ---- the certificate
-- the vectors of a node with the potentials from a vertex on
abbrev pub family_with : List ℕ → ℕ → List Vector → List CertVector
family_with potentials vertex [] = []
family_with potentials vertex (v ∷ vectors) =
    record { potential = slice_index potentials vertex; slots = v } ∷ family_with potentials (vertex + 1) vectors

-- those of some nodes
abbrev pub families_with : List ℕ → ℕ → List (List Vector) → List (List CertVector)
families_with potentials vertex [] = []
families_with potentials vertex (family ∷ families) =
    family_with potentials vertex family ∷ families_with potentials (vertex + length family) families

-- the prices of totals that are not 0, with their addresses
abbrev pub listed_totals : List ℕ → List ℕ → List TotalPrice
listed_totals [] prices = []
listed_totals (address ∷ addresses) [] = []
listed_totals (address ∷ addresses) (price ∷ prices) =
    if price == 0 then listed_totals addresses prices
    else record { address = address; amount = price } ∷ listed_totals addresses prices

-- a multiplier for each loop: its price, which the graph has at its place in the order
pub record AreMultipliers (order prices multipliers : List ℕ) : Type 0 where
  pub long : length multipliers ≡ length order
  pub each : (place number : ℕ) → slice_get order place ≡ Some number → slice_index multipliers number ≡ slice_index prices place

-- the certificate has the vectors, potentials, charges, prices and value of the path problem
pub record IsMadeOf (u : Unfolded) (f : FamilySet) (charges : List Charge) (order addresses : List ℕ) (g : Graph) (choice : Choice)
    (c : Certificate) : Type 0 where
  pub families : c.families ≡ families_with choice.potentials 0 f.vectors
  pub charges_are : c.charges ≡ charges
  pub multipliers : AreMultipliers order choice.prices.loops c.multipliers
  pub totals : c.totals ≡ listed_totals addresses choice.prices.totals
  pub bound : c.bound ≡ problem_value u charges g choice

-- The certificate that the path problem of an unfolding makes, and its vectors, of which some stand for all of a joined node.
pub record IsMade (u : Unfolded) (m : Machine) (classes : Classes) (f : FamilySet) (c : Certificate) : Type 0 where
  pub charges : List Charge
  pub order : List ℕ
  pub addresses : List ℕ
  pub graph : Graph
  pub choice : Choice
  pub problem : IsProblem u m classes f charges order addresses graph
  pub chosen : IsChosen graph choice
  pub made : IsMadeOf u f charges order addresses graph choice c
  pub small : c.bound ≤ greatest_number

-- ---- no certificate
-- the choice needs too large a price for the loop with a number
pub record IsLoopTooLarge (u : Unfolded) (m : Machine) (classes : Classes) (number : ℕ) : Type 0 where
  pub f : FamilySet
  pub charges : List Charge
  pub order : List ℕ
  pub addresses : List ℕ
  pub graph : Graph
  pub place : ℕ
  pub problem : IsProblem u m classes f charges order addresses graph
  pub large : IsTooLarge graph (LoopLarge place)
  pub stands : slice_get order place ≡ Some number

-- a vector of a node, which is the first that has one, has too large a potential
pub record IsNodeTooLarge (u : Unfolded) (m : Machine) (classes : Classes) (node : ℕ) : Type 0 where
  pub f : FamilySet
  pub charges : List Charge
  pub order : List ℕ
  pub addresses : List ℕ
  pub graph : Graph
  pub vertex : ℕ
  pub vector : Vector
  pub problem : IsProblem u m classes f charges order addresses graph
  pub large : IsTooLarge graph (VertexLarge vertex)
  pub is : IsVertex f.vectors vertex node vector

-- the value of the path problem is too large
pub record IsBoundTooLarge (u : Unfolded) (m : Machine) (classes : Classes) : Type 0 where
  pub f : FamilySet
  pub charges : List Charge
  pub order : List ℕ
  pub addresses : List ℕ
  pub graph : Graph
  pub choice : Choice
  pub problem : IsProblem u m classes f charges order addresses graph
  pub chosen : IsChosen graph choice
  pub large : greatest_number < problem_value u charges graph choice
