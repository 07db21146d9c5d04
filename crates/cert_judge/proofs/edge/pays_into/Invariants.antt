use Rattle.std.proofs.Common.{◌≡◌, ℕ, ◌<◌, slice_get, Some}
use Rattle.cert_text.specs.declared.certificate.CertVector.{CertVector}
use Rattle.cert_judge.specs.Payments.{LeadsOn}
use Rattle.cert_judge.proofs.edge.pays_into.Given as goal

abbrev pub invariant-loop-next : goal.invariant-loop-next
invariant-loop-next l =
    (place : ℕ) (next : CertVector) → place < l.next-index → slice_get l.crossing.family.now place ≡ Some next
    → LeadsOn next l.needed l.given l.outcome.vector.slots → ⊥
