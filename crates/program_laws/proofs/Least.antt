-- Where some cause stands, one is the first.
use Rattle.std.proofs.Common.{◌≡◌, inl, inr, ⊎_elim, ℕ, zero, suc, ◌<◌, ◌≤◌, refl, sym, ◌∙◌, arith}
use Rattle.std.proofs.lemmas.Bool.{cases_lt}
use Rattle.wx_base.specs.declared.facts.Facts.{Facts}
use Rattle.wx_base.specs.declared.image.Image.{Image}
use Rattle.wx_base.specs.declared.machine.Machine.{Machine}
use Rattle.flow_graph.specs.declared.error.FlowError.{FlowError}
use Rattle.flow_graph.specs.Refusals.{IsCause, IsFirst, rank, address_of, target_of}

-- of the numbers that have something there is a least
least : (P : ℕ → Type 0) (limit n : ℕ) → n < limit → P n → ((m : ℕ) → P m → ((k : ℕ) → k < m → P k → ⊥) → ⊥) → ⊥
least P zero n below p stop = omega (arith, below)
least P (suc limit) n below p stop = stop n p (λ k less q. least P limit k (omega (arith, below, less)) q stop)

module _ (image : Image) (facts : Facts) (start : ℕ) (machine : Machine) (no_first : (e : FlowError) → IsFirst image facts start machine e → ⊥) where
  -- causes of a kind, of these those at an address, and of these those with a target
  abbrev OfRank : ℕ → Type 0
  OfRank r = (e : FlowError) × IsCause image facts start machine e × (rank e ≡ r)

  abbrev At : ℕ → ℕ → Type 0
  At r a = (e : FlowError) × IsCause image facts start machine e × (rank e ≡ r) × (address_of e ≡ a)

  abbrev With : ℕ → ℕ → ℕ → Type 0
  With r a t = (e : FlowError) × IsCause image facts start machine e × (rank e ≡ r) × (address_of e ≡ a) × (target_of e ≡ t)

  least_of_all : (r a t : ℕ) → ((k : ℕ) → k < r → OfRank k → ⊥) → ((k : ℕ) → k < a → At r k → ⊥) → ((k : ℕ) → k < t → With r a k → ⊥) → With r a t → ⊥
  least_of_all r a t no_rank no_address no_target w =
      no_first w.0
      (record {
        cause = w.1;
        first = λ other cause.
            ⊎_elim (λ less. inl less)
            (λ most.
            let ranks : rank other ≡ r = same_by (rank w.0) r (rank other) w.2 most (λ less. no_rank (rank other) less (other, cause, refl)) in
            inr (
              w.2 ∙ sym ranks,
              ⊎_elim (λ less. inl less)
                  (λ most_address.
                  let addresses : address_of other ≡ a = same_by (address_of w.0) a (address_of other) w.3 most_address (λ less. no_address (address_of other) less (other, cause, ranks, refl)) in
                  inr (w.3 ∙ sym addresses, not_below (target_of w.0) t (target_of other) w.4 (λ less. no_target (target_of other) less (other, cause, ranks, addresses, refl))))
                  (cases_lt (address_of w.0) (address_of other)),
            ))
            (cases_lt (rank w.0) (rank other));
      })
    where
      not_below : (x y z : ℕ) → x ≡ y → (z < y → ⊥) → x ≤ z
      not_below x y z e none = ⊎_elim (λ less. absurd (none less)) (λ most. omega (arith, e, most)) (cases_lt z y)

      same_by : (x y z : ℕ) → x ≡ y → z ≤ x → (z < y → ⊥) → z ≡ y
      same_by x y z e most none = ⊎_elim (λ less. absurd (none less)) (λ more. omega (arith, e, most, more)) (cases_lt z y)

  pub none_stands : (e : FlowError) → IsCause image facts start machine e → ⊥
  none_stands e cause =
      least OfRank (suc (rank e)) (rank e) (omega arith) (e, cause, refl)
      (λ r of no_rank.
      least (At r) (suc (address_of of.0)) (address_of of.0) (omega arith) (of.0, of.1, of.2, refl)
      (λ a at no_address.
      least (With r a) (suc (target_of at.0)) (target_of at.0) (omega arith) (at.0, at.1, at.2, at.3, refl)
      (λ t w no_target. least_of_all r a t no_rank no_address no_target w)))
