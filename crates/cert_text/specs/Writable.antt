-- Certificates that have a text. This project's own.
use Rattle.std.specs.Prelude.{◌≡◌, ℕ, ◌<◌, ◌≤◌, ◌^◌, Bool, true, ◌&&◌, List, [], ◌∷◌, length, All, Option, Some, None, nat_lt, if◌then◌else◌, ◌==◌}
use Rattle.cert_items.specs.Said.{most, FitsScope}
use Rattle.cert_items.specs.Order.{is_scope_less}
use Rattle.cert_text.specs.declared.certificate.CertVector.{CertVector}
use Rattle.cert_text.specs.declared.certificate.Charge.{Charge}
use Rattle.cert_text.specs.declared.certificate.TotalPrice.{TotalPrice}
use Rattle.cert_text.specs.declared.certificate.Certificate.{Certificate}
use Rattle.cert_text.specs.Pool.{is_before, HasVectors}

-- whether the value comes behind another, if there is one
abbrev pub comes_behind : {A : Type 0} → (A → A → Bool) → Option A → A → Bool
comes_behind less None value = true
comes_behind less (Some last) value = less last value

-- whether each value comes behind the one before it, and the first behind this one
abbrev pub ascend_behind : {A : Type 0} → (A → A → Bool) → Option A → List A → Bool
ascend_behind less last [] = true
ascend_behind less last (value ∷ values) = comes_behind less last value && ascend_behind less (Some value) values

-- each value comes behind the one before it
abbrev pub Ascend : {A : Type 0} → (A → A → Bool) → List A → Type 0
Ascend less values = ascend_behind less None values ≡ true

-- whether the charge comes before the other: by line, then by scope
abbrev pub is_charge_before : Charge → Charge → Bool
is_charge_before a b = if nat_lt a.line b.line then true else (a.line == b.line) && is_scope_less a.scope b.scope

-- whether the total comes before the other
abbrev pub is_total_before : TotalPrice → TotalPrice → Bool
is_total_before a b = nat_lt a.address b.address

-- the numbers of a vector are in their ranges
pub record IsFitVector (v : CertVector) : Type 0 where
  pub potential : v.potential ≤ most
  pub size : length v.slots.slots ≡ 35
  pub slots : All (λ value. value ≤ most) v.slots.slots

-- the vectors of a node ascend as lists of their slots
pub record IsFitFamily (family : List CertVector) : Type 0 where
  pub fit : All IsFitVector family
  pub ascend : Ascend is_before family

-- the numbers of a charge are in their ranges
pub record IsFitCharge (charge : Charge) : Type 0 where
  pub line : charge.line < 2 ^ 32
  pub scope : FitsScope charge.scope
  pub amount : charge.amount ≤ most

-- the numbers of a total are in their ranges, and it has a price
pub record IsFitTotal (total : TotalPrice) : Type 0 where
  pub address : total.address < 2 ^ 32
  pub some : 0 < total.amount
  pub amount : total.amount ≤ most

-- the certificate has a text: what a text lists in order is in order, and all numbers are in their ranges
pub record IsWritable (c : Certificate) : Type 0 where
  pub nodes : length c.families < 2 ^ 32
  pub vectors : (count : ℕ) → HasVectors c.families count → count < 2 ^ 32
  pub families : All IsFitFamily c.families
  pub charges : All IsFitCharge c.charges
  pub charge_order : Ascend is_charge_before c.charges
  pub loops : length c.multipliers < 2 ^ 32
  pub multipliers : All (λ amount. amount ≤ most) c.multipliers
  pub totals : All IsFitTotal c.totals
  pub total_order : Ascend is_total_before c.totals
  pub bound : c.bound ≤ most
