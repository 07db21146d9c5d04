-- What is known when the first nodes were judged. This project's own.
use Rattle.std.specs.Prelude.{◌≡◌, ℕ, ◌<◌, List, length, Option, Some, None}
use Rattle.wx_base.specs.declared.machine.Machine.{Machine}
use Rattle.xdd_table.specs.declared.node.Dd.{Dd}
use Rattle.xdd_table.specs.declared.node.Node.{Node}
use Rattle.flow_ctx.specs.declared.unfolded.Unfolded.{Unfolded}
use Rattle.cache_class.specs.declared.class.Classes.{Classes}
use Rattle.cert_text.specs.declared.certificate.Certificate.{Certificate}
use Rattle.cert_rules.specs.Rules.{PaysEdges, PaysFinish}
use Rattle.cert_check.specs.declared.refused.Refused.{Refused}
use Rattle.cert_check.specs.Judging.{NamesFirst}
use Rattle.cert_check.specs.Places.{Along, AreNodeCosts, AreNodeFinishes}

-- the finishes from the vectors of the first so many nodes, each of which pays for its own
pub record HasFinishes (nodes : List Node) (u : Unfolded) (m : Machine) (classes : Classes) (c : Certificate) (count : ℕ)
    (finishes : List (List Dd)) : Type 0 where
  pub long : length finishes ≡ count
  pub along : Along (λ node family ds. AreNodeFinishes nodes u m node family ds) c.families finishes
  pub pays : (node place : ℕ) → node < count → PaysFinish u m classes c node place

-- the costs along the edges of the first so many nodes, whose vectors pay for them
pub record HasCosts (nodes : List Node) (u : Unfolded) (m : Machine) (classes : Classes) (c : Certificate) (count : ℕ)
    (costs : List (List (List Dd))) : Type 0 where
  pub long : length costs ≡ count
  pub along : Along (λ node family ds. AreNodeCosts nodes u m node family ds) c.families costs
  pub pays : (node place : ℕ) → node < count → PaysEdges u m classes c node place

-- the same, or what is told of the first vector that does not pay for an edge
abbrev pub HasCostsOr : List Node → Unfolded → Machine → Classes → Certificate → ℕ → List (List (List Dd)) → Option Refused → Type 0
HasCostsOr nodes u m classes c count costs None = HasCosts nodes u m classes c count costs
HasCostsOr nodes u m classes c count costs (Some refused) = NamesFirst (PaysEdges u m classes c) 3 refused
