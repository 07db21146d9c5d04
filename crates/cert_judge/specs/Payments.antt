-- When a vector of a certificate pays for what follows it, at every combination that the classes of its block's events
-- allow. This project's own.
use Rattle.std.specs.Prelude.{◌≡◌, ℕ, ◌+◌, ◌≤◌, List, slice_get, Some}
use Rattle.wx_base.specs.Vector.{Covers}
use Rattle.cache_class.specs.declared.class.Class.{Class}
use Rattle.cache_class.specs.Allowed.{IsAllowed}
use Rattle.cert_text.specs.declared.certificate.CertVector.{CertVector}
use Rattle.xdd_table.specs.declared.node.Node.{Node}
use Rattle.xdd_table.specs.Diagram.{Combination, time}
use Rattle.pipe_block.specs.declared.diagrams.Outcome.{Outcome}
use Rattle.pipe_block.specs.declared.diagrams.Leaving.{Leaving}

-- the finish, which is the diagram at a place, is never more than what is offered
pub record PaysForFinish (nodes : List Node) (classes : List Class) (offered : Combination → ℕ) (finish : ℕ)
    : Type 0 where
  pub each : (f : Combination) → IsAllowed classes f → time nodes f finish ≤ offered f

-- the vector covers the slots, and what is given is enough for what is needed and its potential
pub record LeadsOn (next : CertVector) (needed given : ℕ) (slots : List ℕ) : Type 0 where
  pub covers : Covers next.slots.slots slots
  pub enough : needed + next.potential ≤ given

-- Some vector of the family covers the slots, and what is offered, with what is paid on going back, is enough for the
-- cost, what is due on entering loops, and that vector's potential.
pub record PaysInto (family : List CertVector) (entering returning offer cost : ℕ) (slots : List ℕ) : Type 0 where
  pub place : ℕ
  pub next : CertVector
  pub listed : slice_get family place ≡ Some next
  pub leads : LeadsOn next (cost + entering) (offer + returning) slots

-- what is offered always pays for what a block hands on; `Pays` says this of an offer, a cost and slots
pub record PaysForEdge (nodes : List Node) (classes : List Class) (offered : Combination → ℕ) (leaving : Leaving)
    (Pays : ℕ → ℕ → List ℕ → Type 0) : Type 0 where
  pub each : (f : Combination) (o : Outcome) → IsAllowed classes f
      → slice_get leaving.list (time nodes f leaving.place.place) ≡ Some o → Pays (offered f) o.cost o.vector.slots

-- of the pair at a position, if there is one, the second, as what is charged, pays for the outcome at the first
pub record PairPays (pairs : List (ℕ × ℕ)) (outcomes : List Outcome) (Pays : ℕ → ℕ → List ℕ → Type 0) (i : ℕ)
    : Type 0 where
  pub each : (x : ℕ × ℕ) (o : Outcome) → slice_get pairs i ≡ Some x → slice_get outcomes x.0 ≡ Some o
      → Pays x.1 o.cost o.vector.slots

-- all pairs do
pub record AllPay (pairs : List (ℕ × ℕ)) (outcomes : List Outcome) (Pays : ℕ → ℕ → List ℕ → Type 0) : Type 0 where
  pub each : (i : ℕ) → PairPays pairs outcomes Pays i
