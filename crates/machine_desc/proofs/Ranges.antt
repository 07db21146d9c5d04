-- What the keys of a document in which none has a fault hold.
use Rattle.std.proofs.Common.{◌≡◌, ℕ, zero, suc, ◌^◌, ◌≤◌, ℤ, pos, negsuc, Bool, true, false, not, ◌&&◌, ◌||◌, Option, Some, None, List, [], ◌∷◌, ◌++◌, map, is_some, refl, sym, ap, subst, inl, inr, arith}
use Rattle.std.specs.Prelude.{int_le, slice_get, unwrap_or, option_and_then, if◌then◌else◌}
use Rattle.std.specs.List.{list_any}
use Rattle.std.specs.Ordering.{int_eq}
use Rattle.std.proofs.lemmas.Bool.{cases_Bool, and_parts, false≢true}
use Rattle.std.specs.Cmp.{signed_Decides}
use Rattle.std.proofs.lemmas.Int.{ints}
use Rattle.toml.specs.Data.{Data, get, as_integer, as_table}
use Rattle.wx_base.specs.Machine.{Between, IsPowerOfTwo}
use Rattle.machine_desc.specs.declared.fault.Fault.{Fault}
use Rattle.machine_desc.specs.declared.fault.Fault.TheVariants.{Range}
use Rattle.machine_desc.specs.declared.keys.Wanted.{Wanted}
use Rattle.machine_desc.specs.declared.keys.Wanted.TheVariants.{Number, Table}
use Rattle.machine_desc.specs.Keys.{Row, row, rows, number, power}
use Rattle.machine_desc.specs.Faults.{is_within, is_power_of_two, number_fault, kind_fault, fault_of, fault_in}
use Rattle.machine_desc.specs.Document.{gathered, gathered_items, holder, dotted, integer_in, elements, listed, row_faults, element_faults, faults}
use Rattle.machine_desc.specs.Values.{natural, integer_at, number_at}

pub nil_parts : {A : Type 0} (xs ys : List A) → xs ++ ys ≡ [] → (xs ≡ []) × (ys ≡ [])
nil_parts [] ys h = (refl, h)
nil_parts (x ∷ xs) ys h = absurd cc

pub gathered_nil : {A B : Type 0} (f : A → List B) (xs : List A) (i : ℕ) (x : A) → gathered f xs ≡ [] → slice_get xs i ≡ Some x → f x ≡ []
gathered_nil f [] i x h at = absurd cc
gathered_nil {A = A} f (y ∷ xs) zero x h at =
    let same : y ≡ x = cc in
    subst (λ (z : A). f z ≡ []) same (nil_parts (f y) (gathered f xs) h).0
gathered_nil f (y ∷ xs) (suc i) x h at = gathered_nil f xs i x (nil_parts (f y) (gathered f xs) h).1 at

pub listed_nil : (key : List ℕ) (fault : Option Fault) → listed key fault ≡ [] → fault ≡ None
listed_nil key None h = refl
listed_nil key (Some fault) h = absurd cc

-- no key of the table has a fault
pub row_right : (d : Data) (i : ℕ) (r : Row) → faults d ≡ [] → slice_get rows i ≡ Some r → fault_in r (holder d r.table) ≡ None
unfolding faults
row_right d i r h at =
    listed_nil (dotted r.table r.name) _ (gathered_nil (row_faults d) rows i r (nil_parts (gathered (row_faults d) rows) (gathered_items element_faults 0 (elements d)) h).0 at)

pub none_from : (b : Bool) (f : Fault) → (if b then None else Some f) ≡ None → b ≡ true
none_from true f h = refl
none_from false f h = absurd cc

number_read : (low high : ℤ) (p : Bool) (z : Option ℤ) → number_fault low high p z ≡ None → is_within low high p (unwrap_or z (pos 0)) ≡ true
number_read low high p None h = absurd cc
number_read low high p (Some z) h = none_from (is_within low high p z) (Range z) h

number_found : (low high : ℤ) (p : Bool) (o : Option Data) → fault_of (Number low high p) o ≡ None → is_within low high p (unwrap_or (option_and_then as_integer o) (pos 0)) ≡ true
number_found low high p None h = absurd cc
number_found low high p (Some d) h = number_read low high p (as_integer d) h

-- a number in a table
pub number_in_table : (t name : List ℕ) (low high : ℤ) (p : Bool) (d : Data) → is_some (as_table d) ≡ true → fault_in (row t name (Number low high p)) (Some d) ≡ None → is_within low high p (integer_in name d) ≡ true
number_in_table t name low high p d table h = number_found low high p (get name d) (rw table at h)

pub right_kind : (b : Bool) → kind_fault b ≡ None → b ≡ true
right_kind true h = refl
right_kind false h = absurd cc

-- a number in what stands where a table should be
pub number_in_holder : (t name : List ℕ) (low high : ℤ) (p : Bool) (o : Option Data) → fault_of Table o ≡ None → fault_in (row t name (Number low high p)) o ≡ None → is_within low high p (integer_at name o) ≡ true
number_in_holder t name low high p None table h = absurd cc
number_in_holder t name low high p (Some d) table h = number_in_table t name low high p d (right_kind (is_some (as_table d)) table) h

-- what a table at the top holds, and what kind it has
pub top_right : (t name : List ℕ) (w : Wanted) (d : Data) → is_some (as_table d) ≡ true → fault_in (row t name w) (Some d) ≡ None → fault_of w (get name d) ≡ None
top_right t name w d table h = rw table at h

-- bounds of a number
pub bounds : (low high : ℕ) (p : Bool) (z : ℤ) → is_within (pos low) (pos high) p z ≡ true → Between low high (natural z)
bounds low high p (pos n) h =
    let parts = and_parts (int_le (pos low) (pos n) && int_le (pos n) (pos high)) (not p || is_power_of_two (pos n)) h in
    let ends = and_parts (int_le (pos low) (pos n)) (int_le (pos n) (pos high)) parts.0 in
    let first : int_le (pos low) (pos n) ≡ true = ends.0 in
    let second : int_le (pos n) (pos high) ≡ true = ends.1 in
    (grind (arith, ints), grind (arith, ints))
bounds low high p (negsuc n) h =
    let parts = and_parts (int_le (pos low) (negsuc n) && int_le (negsuc n) (pos high)) (not p || is_power_of_two (negsuc n)) h in
    let ends = and_parts (int_le (pos low) (negsuc n)) (int_le (negsuc n) (pos high)) parts.0 in
    let first : int_le (pos low) (negsuc n) ≡ true = ends.0 in
    absurd (grind (arith, ints))

power_among : (ks : List ℕ) (z : ℤ) → list_any (λ q. int_eq q z) (map (λ k. pos (2 ^ k)) ks) ≡ true → IsPowerOfTwo (natural z)
power_among [] z h = absurd (false≢true h)
power_among (k ∷ ks) z h = elim (cases_Bool (int_eq (pos (2 ^ k)) z)) [
  | inl same ↦ let e : pos (2 ^ k) ≡ z = (signed_Decides (pos (2 ^ k)) z).0 same in (k, sym (ap natural e))
  | inr other ↦ power_among ks z (rw other at h)
]

-- a power of two
pub power_of_two : (low high : ℤ) (z : ℤ) → is_within low high true z ≡ true → IsPowerOfTwo (natural z)
unfolding is_power_of_two
power_of_two low high z h = power_among (0 ∷ 1 ∷ 2 ∷ 3 ∷ 4 ∷ 5 ∷ 6 ∷ 7 ∷ 8 ∷ 9 ∷ 10 ∷ []) z (and_parts (int_le low z && int_le z high) (is_power_of_two z) h).1

-- no number becomes greater than one that it was at most
pub natural_le : (a b : ℤ) → int_le a b ≡ true → natural a ≤ natural b
natural_le (pos m) (pos n) h = grind (arith, ints)
natural_le (pos m) (negsuc n) h = absurd (grind (arith, ints))
natural_le (negsuc m) b h = omega arith

-- a number at the top
pub top_number : (d : Data) (i : ℕ) (name : List ℕ) (low high : ℕ) (p : Bool) → is_some (as_table d) ≡ true → faults d ≡ [] → slice_get rows i ≡ Some (row [] name (Number (pos low) (pos high) p))
    → is_within (pos low) (pos high) p (integer_at name (holder d [])) ≡ true
top_number d i name low high p table h at = number_in_table [] name (pos low) (pos high) p d table (row_right d i (row [] name (Number (pos low) (pos high) p)) h at)

-- a number in a table of the top
pub inner_number : (d : Data) (i j : ℕ) (t name : List ℕ) (low high : ℕ) (p : Bool) → is_some (as_table d) ≡ true → faults d ≡ [] → slice_get rows i ≡ Some (row [] t Table)
    → slice_get rows j ≡ Some (row t name (Number (pos low) (pos high) p)) → holder d t ≡ get t d → is_within (pos low) (pos high) p (integer_at name (holder d t)) ≡ true
inner_number d i j t name low high p table h at_table at_name here =
    let own : fault_of Table (holder d t) ≡ None = rw here (top_right [] t Table d table (row_right d i (row [] t Table) h at_table)) in
    number_in_holder t name (pos low) (pos high) p (holder d t) own (row_right d j (row t name (Number (pos low) (pos high) p)) h at_name)

pub top_in : (d : Data) (i : ℕ) (name : List ℕ) (low high : ℕ) → is_some (as_table d) ≡ true → faults d ≡ [] → slice_get rows i ≡ Some (row [] name (number low high)) → Between low high (number_at d [] name)
top_in d i name low high table h at = bounds low high false (integer_at name (holder d [])) (top_number d i name low high false table h at)

pub inner_in : (d : Data) (i j : ℕ) (t name : List ℕ) (low high : ℕ) (p : Bool) → is_some (as_table d) ≡ true → faults d ≡ [] → slice_get rows i ≡ Some (row [] t Table)
    → slice_get rows j ≡ Some (row t name (Number (pos low) (pos high) p)) → holder d t ≡ get t d → Between low high (number_at d t name)
inner_in d i j t name low high p table h at_table at_name here = bounds low high p (integer_at name (holder d t)) (inner_number d i j t name low high p table h at_table at_name here)

pub inner_power : (d : Data) (i j : ℕ) (t name : List ℕ) (low high : ℕ) → is_some (as_table d) ≡ true → faults d ≡ [] → slice_get rows i ≡ Some (row [] t Table)
    → slice_get rows j ≡ Some (row t name (power low high)) → holder d t ≡ get t d → IsPowerOfTwo (number_at d t name)
inner_power d i j t name low high table h at_table at_name here = power_of_two (pos low) (pos high) (integer_at name (holder d t)) (inner_number d i j t name low high true table h at_table at_name here)
