-- Which vector breaks a rule first: in a family, in all nodes, and of all rules.
use Rattle.std.proofs.Common.{◌≡◌, ℕ, ◌+◌, ◌<◌, ◌≤◌, List, length, slice_get, Some, sym, ap, subst, ◌∙◌, inl, inr, arith}
use Rattle.std.proofs.lemmas.Bool.{cases_lt}
use Rattle.std.proofs.lemmas.Option.{same_Some, slice_get_within}
use Rattle.wx_base.specs.declared.machine.Machine.{Machine}
use Rattle.flow_ctx.specs.declared.unfolded.Unfolded.{Unfolded}
use Rattle.cache_class.specs.declared.class.Classes.{Classes}
use Rattle.cache_class.specs.Classes.{AreClasses}
use Rattle.cert_text.specs.declared.certificate.CertVector.{CertVector}
use Rattle.cert_text.specs.declared.certificate.Certificate.{Certificate}
use Rattle.cert_rules.specs.Rules.{HasShape, HasSmallNumbers, HasStart, PaysFinish, PaysEdges}
use Rattle.cert_rules.specs.Judged.{HoldsForAll, IsBroken, finish, edge}
use Rattle.cert_check.specs.declared.refused.Refused.{Refused}
use Rattle.cert_check.specs.declared.refused.Refused.TheVariants.{Rejected, NoMemory}
use Rattle.cert_check.specs.Answers.{IsRefusal}
use Rattle.cert_check.specs.Judging.{Breaks, FailsAt, FamilyPays, NamesFirst, NamesPlace}

-- the place of the first vector that lacks a property
pub family_fails : (P : CertVector → Type 0) (family : List CertVector) (place : ℕ) (v : CertVector) → slice_get family place ≡ Some v → (P v → ⊥)
    → ((earlier : ℕ) → earlier < place → FamilyPays P family earlier) → FailsAt (FamilyPays P family) place
family_fails P family place v at fails before = record { fails = λ pays. fails (pays.each v at); before = before }

-- one place more, and all places
pub family_more : (P : CertVector → Type 0) (family : List CertVector) (place : ℕ) (v : CertVector) → slice_get family place ≡ Some v → P v
    → ((earlier : ℕ) → earlier < place → FamilyPays P family earlier) → (earlier : ℕ) → earlier < place + 1 → FamilyPays P family earlier
family_more P family place v at pays before earlier l = elim (cases_lt earlier place) [
  | inl less ↦ before earlier less
  | inr g ↦
      let same : place ≡ earlier = omega (arith, l, g) in
      record { each = λ w there. subst P (same_Some v w (sym at ∙ (ap (λ k. slice_get family k) same ∙ there))) pays }
]

pub family_all : (P : CertVector → Type 0) (family : List CertVector) (count : ℕ) → length family ≤ count
    → ((earlier : ℕ) → earlier < count → FamilyPays P family earlier) → (place : ℕ) → FamilyPays P family place
family_all P family count g before place = elim (cases_lt place count) [
  | inl less ↦ before place less
  | inr beyond ↦ record { each = λ v at. absurd (omega (arith, g, beyond, slice_get_within family place v at)) }
]

-- two properties that say the same have the same first place
pub names_alike : (P Q : ℕ → Type 0) (rule node : ℕ) → ((n : ℕ) → P n → Q n) → ((n : ℕ) → Q n → P n) → (r : Refused)
    → NamesPlace P rule node r → NamesPlace Q rule node r
names_alike P Q rule node to back (Rejected named at place) h =
    (h.0, (h.1.0, record { fails = λ q. h.1.1.fails (back place q); before = λ earlier l. to earlier (h.1.1.before earlier l) }))
names_alike P Q rule node to back NoMemory h = h

-- the first place of a node is the first of all where earlier nodes break nothing
pub names_first : (P : ℕ → ℕ → Type 0) (rule node : ℕ) → ((earlier place : ℕ) → earlier < node → P earlier place) → (r : Refused)
    → NamesPlace (P node) rule node r → NamesFirst P rule r
names_first P rule node earlier (Rejected named at place) h =
    let same : node ≡ at = sym h.1.0 in (
      h.0,
      record {
        fails = λ p. h.1.1.fails (subst (λ n. P n place) (sym same) p);
        before = λ n k is. elim is [
          | inl l ↦ earlier n k (omega (arith, l, same))
          | inr e ↦
              let here : node ≡ n = omega (arith, e.0, same) in
              subst (λ j. P j k) here (h.1.1.before k e.1)
        ];
      },
    )
names_first P rule node earlier NoMemory h = h

-- one node more, and all nodes
pub nodes_more : (P : ℕ → ℕ → Type 0) (node : ℕ) → ((earlier place : ℕ) → earlier < node → P earlier place) → ((place : ℕ) → P node place)
    → (earlier place : ℕ) → earlier < node + 1 → P earlier place
nodes_more P node before here earlier place l = elim (cases_lt earlier node) [
  | inl less ↦ before earlier place less
  | inr g ↦ let same : node ≡ earlier = omega (arith, l, g) in subst (λ n. P n place) same (here place)
]

pub nodes_all : (P : ℕ → ℕ → Type 0) (count : ℕ) → ((earlier place : ℕ) → earlier < count → P earlier place) → ((node place : ℕ) → count ≤ node → P node place)
    → HoldsForAll P
nodes_all P count before beyond = record {
  each = λ node place. elim (cases_lt node count) [
    | inl less ↦ before node place less
    | inr g ↦ beyond node place g
  ];
}

-- a vector that breaks the rule on ends, or on edges, breaks the first rule that is broken
module _ (u : Unfolded) (m : Machine) (classes : Classes) (c : Certificate) (shape : HasShape u classes c) (small : HasSmallNumbers c) (start : HasStart u c) where
  pub finish_breaks : (r : Refused) → NamesFirst (PaysFinish u m classes c) 2 r → Breaks u m classes c r
  finish_breaks (Rejected named node place) h = subst (λ n. IsBroken u m classes c n node place) (sym h.0) (finish node place shape small start h.1)
  finish_breaks NoMemory h = h

  pub edge_breaks : HoldsForAll (PaysFinish u m classes c) → (r : Refused) → NamesFirst (PaysEdges u m classes c) 3 r → Breaks u m classes c r
  edge_breaks all (Rejected named node place) h = subst (λ n. IsBroken u m classes c n node place) (sym h.0) (edge node place shape small start all h.1)
  edge_breaks all NoMemory h = h

-- what breaks a rule for the classes of the events is a refusal
pub breaks_refuses : (u : Unfolded) (m : Machine) (classes : Classes) (c : Certificate) → AreClasses u m classes → (r : Refused)
    → Breaks u m classes c r → IsRefusal u m c r
breaks_refuses u m classes c are (Rejected rule node place) b = record { classes = classes; are = are; broken = b }
breaks_refuses u m classes c are NoMemory b = b
