-- Which fault is told.
use Rattle.std.proofs.Common.{◌≡◌, ℕ, ◌⊎◌, inl, inr, Bool, true, Option, Some, None, List, [], ◌∷◌, length, get_or, refl, sym, ◌∙◌}
use Rattle.std.specs.Prelude.{position, MatchOption}
use Rattle.std.proofs.lemmas.Iterator.Adapters.{position_from-zero}
use Rattle.std.proofs.lemmas.List.Quantifiers.{position-Some}
use Rattle.std.proofs.lemmas.Option.{slice_get_read}
use Rattle.machine_desc.specs.declared.fault.Fault.{Fault}
use Rattle.machine_desc.specs.declared.fault.Fault.TheVariants.{Missing, Kind, Range}
use Rattle.machine_desc.specs.declared.fault.Faulty.{Faulty}
use Rattle.machine_desc.specs.Causes.{IsFirst, IsWorst, IsWorstAt, first_of, is_kind, is_missing, is_range, refusal_in, refusal_of}

-- where no element passes, the first does not
none_first : {A : Type 0} (p : A → Bool) (x : A) (xs : List A) → position p (x ∷ xs) ≡ None → p x ≡ true → ⊥
none_first p x xs none passes = let e = sym (position_from-zero p (x ∷ xs)) ∙ none in let h = rw passes at e in cc

some_sort : (f : Fault) → (is_missing f ≡ true) ⊎ ((is_kind f ≡ true) ⊎ (is_range f ≡ true))
some_sort Missing = inl refl
some_sort Kind = inr (inl refl)
some_sort (Range value) = inr (inr refl)

pub no_fault : (found : List Faulty) → first_of is_missing found ≡ None → first_of is_kind found ≡ None → first_of is_range found ≡ None → found ≡ []
no_fault [] a b c = refl
no_fault (f ∷ fs) a b c = elim (some_sort f.fault) [
  | inl h ↦ absurd (none_first (λ (x : Faulty). is_missing x.fault) f fs a h)
  | inr r ↦ elim r [
    | inl h ↦ absurd (none_first (λ (x : Faulty). is_kind x.fault) f fs b h)
    | inr h ↦ absurd (none_first (λ (x : Faulty). is_range x.fault) f fs c h)
  ]
]

pub last_sort : (found : List Faulty) (place : Option ℕ) → first_of is_missing found ≡ None → first_of is_kind found ≡ None → place ≡ first_of is_range found
    → MatchOption place (found ≡ []) (λ k. IsWorstAt found k)
last_sort found None a b c = no_fault found a b (sym c)
last_sort found (Some k) a b c = inr (inr (a, b, sym c))

found_at : (sort : Fault → Bool) (found : List Faulty) (f : Faulty) (place : ℕ) → first_of sort found ≡ Some place → f ≡ get_or found place f
    → (sort f.fault ≡ true) × IsFirst sort found f.key f.fault
found_at sort found f place first there =
    let facts = position-Some (λ (x : Faulty). sort x.fault) found place f first in
    (rw (← there) at facts.1, record { place = place; first = first; there = slice_get_read found (length found) place f refl facts.0 there })

told_missing : (found : List Faulty) (key : List ℕ) (fault : Fault) → is_missing fault ≡ true → IsFirst is_missing found key fault → IsWorst found (refusal_in key fault)
told_missing found key Missing t h = h
told_missing found key Kind t h = absurd cc
told_missing found key (Range value) t h = absurd cc

told_kind : (found : List Faulty) (key : List ℕ) (fault : Fault) → is_kind fault ≡ true → first_of is_missing found ≡ None → IsFirst is_kind found key fault → IsWorst found (refusal_in key fault)
told_kind found key Missing t a h = absurd cc
told_kind found key Kind t a h = (a, h)
told_kind found key (Range value) t a h = absurd cc

told_range : (found : List Faulty) (key : List ℕ) (fault : Fault) → is_range fault ≡ true → first_of is_missing found ≡ None → first_of is_kind found ≡ None → IsFirst is_range found key fault → IsWorst found (refusal_in key fault)
told_range found key Missing t a b h = absurd cc
told_range found key Kind t a b h = absurd cc
told_range found key (Range value) t a b h = (a, b, h)

-- the fault at that place is told
pub told : (found : List Faulty) (f : Faulty) (place : ℕ) → IsWorstAt found place → f ≡ get_or found place f → IsWorst found (refusal_of f)
told found f place (inl h) there = let facts = found_at is_missing found f place h there in told_missing found f.key f.fault facts.0 facts.1
told found f place (inr (inl h)) there = let facts = found_at is_kind found f place h.1 there in told_kind found f.key f.fault facts.0 h.0 facts.1
told found f place (inr (inr h)) there = let facts = found_at is_range found f place h.2 there in told_range found f.key f.fault facts.0 h.0 h.1 facts.1
