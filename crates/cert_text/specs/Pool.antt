-- The different vectors of a certificate. This project's own format.
use Rattle.std.specs.Prelude.{◌≡◌, ℕ, ◌+◌, Bool, true, List, [], ◌∷◌, length, All, if◌then◌else◌}
use Rattle.std.specs.List.{list_any}
use Rattle.std.specs.List.Sorted.{IsStrictlySortedBy}
use Rattle.std.specs.Ordering.{nat_cmp, is_eq}
use Rattle.std.specs.Cmp.Lexicographic.{slice_cmp}
use Rattle.cert_items.specs.Order.{is_less}
use Rattle.cert_text.specs.declared.certificate.CertVector.{CertVector}

-- whether two lists of slots are one
abbrev pub is_same : List ℕ → List ℕ → Bool
is_same a b = is_eq (slice_cmp nat_cmp a b)

-- whether the vector comes before the other as a list of its slots
abbrev pub is_before : CertVector → CertVector → Bool
is_before a b = is_less (slice_cmp nat_cmp a.slots.slots b.slots.slots)

-- whether the slots are those of one of these vectors
abbrev pub is_listed : List ℕ → List (List ℕ) → Bool
is_listed slots pool = list_any (is_same slots) pool

-- each vector of the node is one of these
abbrev pub Lists : List (List ℕ) → List CertVector → Type 0
Lists pool family = All (λ v. is_listed v.slots.slots pool ≡ true) family

-- whether a vector of the node has these slots
abbrev pub is_of : List ℕ → List CertVector → Bool
is_of slots family = list_any (λ v. is_same slots v.slots.slots) family

-- whether a vector of some node has these slots
abbrev pub is_used : List ℕ → List (List CertVector) → Bool
is_used slots families = list_any (is_of slots) families

-- the slots of the different vectors of all nodes, sorted as lists
pub record IsPool (families : List (List CertVector)) (pool : List (List ℕ)) : Type 0 where
  pub sorted : IsStrictlySortedBy (slice_cmp nat_cmp) pool
  pub same : (slots : List ℕ) → is_listed slots pool ≡ is_used slots families

-- how many different vectors there are
pub record HasVectors (families : List (List CertVector)) (count : ℕ) : Type 0 where
  pub pool : List (List ℕ)
  pub different : IsPool families pool
  pub counted : count ≡ length pool

-- the place of a vector among those that are sorted: how many of them come before it
abbrev pub place_in : List (List ℕ) → List ℕ → ℕ
place_in [] slots = 0
place_in (first ∷ pool) slots = if is_less (slice_cmp nat_cmp first slots) then place_in pool slots + 1 else 0
