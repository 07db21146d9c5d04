-- Which rule a certificate breaks first, and where. This project's own.
use Rattle.std.specs.Prelude.{◌≡◌, ℕ, ◌<◌, ◌⊎◌}
use Rattle.wx_base.specs.declared.machine.Machine.{Machine}
use Rattle.flow_ctx.specs.declared.unfolded.Unfolded.{Unfolded}
use Rattle.cache_class.specs.declared.class.Classes.{Classes}
use Rattle.cert_text.specs.declared.certificate.Certificate.{Certificate}
use Rattle.cert_rules.specs.Rules.{HasShape, HasSmallNumbers, HasStart, PaysFinish, PaysEdges, HasBound}

-- a vector of a node comes before another: its node's number is less, or its place among the vectors of the one node is
abbrev pub IsEarlier : ℕ → ℕ → ℕ → ℕ → Type 0
IsEarlier node place other_node other_place = (node < other_node) ⊎ ((node ≡ other_node) × (place < other_place))

-- something holds for all vectors of all nodes
pub record HoldsForAll (P : ℕ → ℕ → Type 0) : Type 0 where
  pub each : (node place : ℕ) → P node place

-- it fails for a vector of a node, and holds for all before it
pub record FailsFirst (P : ℕ → ℕ → Type 0) (node place : ℕ) : Type 0 where
  pub fails : P node place → ⊥
  pub before : (earlier_node earlier_place : ℕ) → IsEarlier earlier_node earlier_place node place → P earlier_node earlier_place

-- The first rule that is broken, by its number, with the node and the vector where there is one. The rules are tried in this order.
pub data IsBroken (u : Unfolded) (m : Machine) (classes : Classes) (c : Certificate) : ℕ → ℕ → ℕ → Type 0 where
  shape : (HasShape u classes c → ⊥) → IsBroken u m classes c 0 0 0
  numbers : HasShape u classes c → (HasSmallNumbers c → ⊥) → IsBroken u m classes c 4 0 0
  start : HasShape u classes c → HasSmallNumbers c → (HasStart u c → ⊥) → IsBroken u m classes c 1 0 0
  finish : (node place : ℕ) → HasShape u classes c → HasSmallNumbers c → HasStart u c
      → FailsFirst (PaysFinish u m classes c) node place → IsBroken u m classes c 2 node place
  edge : (node place : ℕ) → HasShape u classes c → HasSmallNumbers c → HasStart u c → HoldsForAll (PaysFinish u m classes c)
      → FailsFirst (PaysEdges u m classes c) node place → IsBroken u m classes c 3 node place
  bound : HasShape u classes c → HasSmallNumbers c → HasStart u c → HoldsForAll (PaysFinish u m classes c)
      → HoldsForAll (PaysEdges u m classes c) → (HasBound u c → ⊥) → IsBroken u m classes c 5 0 0
