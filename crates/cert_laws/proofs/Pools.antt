-- The different vectors of a certificate, sorted, and its text.
use Rattle.std.proofs.Common.{◌≡◌, ℕ, Bool, true, false, ◌||◌, List, [], ◌∷◌, length, refl, sym, ap, ◌∙◌}
use Rattle.std.specs.List.{AllByRecursion}
use Rattle.std.specs.List.Sorted.{IsStrictlySortedBy}
use Rattle.std.specs.Ordering.{nat_cmp, is_eq, ordering_reverse}
use Rattle.std.specs.Cmp.Lexicographic.{slice_cmp}
use Rattle.std.specs.declared.cmp.Ordering.{Ordering}
use Rattle.std.specs.declared.cmp.Ordering.TheVariants.{Less, Equal, Greater}
use Rattle.std.proofs.lemmas.Cmp.{nat_list_cmp_total}
use Rattle.std.proofs.lemmas.Map.Text.{is_eq-slice_cmp}
use Rattle.std.proofs.lemmas.Slice.Eq.{bytes_eq-Decides}
use Rattle.cert_text.specs.declared.certificate.CertVector.{CertVector}
use Rattle.cert_text.specs.Pool.{IsPool, is_listed, is_of, is_same, is_used}
use Rattle.cert_text.specs.Written.{items_of, text_of}
use Rattle.cert_laws.specs.Laws.{HasText}

abbrev compare : List ℕ → List ℕ → Ordering
compare a b = slice_cmp nat_cmp a b

-- ---- one list of slots more
abbrev put_by : Ordering → List ℕ → List ℕ → List (List ℕ) → List (List ℕ) → List (List ℕ)
put_by Less slots first pool rest = slots ∷ first ∷ pool
put_by Equal slots first pool rest = first ∷ pool
put_by Greater slots first pool rest = first ∷ rest

put : List ℕ → List (List ℕ) → List (List ℕ)
put slots [] = slots ∷ []
put slots (first ∷ pool) = put_by (compare slots first) slots first pool (put slots pool)

abbrev AreAbove : List ℕ → List (List ℕ) → Type 0
AreAbove low pool = AllByRecursion (λ slots. compare low slots ≡ Less) pool

-- all are above what is below the first of them
above_first : (low first : List ℕ) (pool : List (List ℕ)) → compare low first ≡ Less → AreAbove first pool → AreAbove low pool
above_first low first [] e all = tt
above_first low first (slots ∷ pool) e all = (nat_list_cmp_total.trans low first slots e all.0, above_first low first pool e all.1)

above_put : (low slots : List ℕ) (pool : List (List ℕ)) → compare low slots ≡ Less → AreAbove low pool → AreAbove low (put slots pool)
unfolding put
above_put low slots [] e all = (e, tt)
above_put low slots (first ∷ pool) e all = by (compare slots first) (above_put low slots pool e all.1)
  where
    by : (o : Ordering) → AreAbove low (put slots pool) → AreAbove low (put_by o slots first pool (put slots pool))
    by Less later = (e, all)
    by Equal later = all
    by Greater later = (all.0, later)

greater_less : (a b : List ℕ) → compare a b ≡ Greater → compare b a ≡ Less
greater_less a b e = by (compare b a) (sym (nat_list_cmp_total.antisymm a b) ∙ e)
  where
    by : (o : Ordering) → ordering_reverse o ≡ Greater → o ≡ Less
    by Less h = refl
    by Equal h = absurd (cc)
    by Greater h = absurd (cc)

abbrev AreSorted : List (List ℕ) → Type 0
AreSorted pool = IsStrictlySortedBy (slice_cmp nat_cmp) pool

sorted_put : (slots : List ℕ) (pool : List (List ℕ)) → AreSorted pool → AreSorted (put slots pool)
unfolding put IsStrictlySortedBy
sorted_put slots [] all = (tt, tt)
sorted_put slots (first ∷ pool) all = by (compare slots first) refl (sorted_put slots pool all.1)
  where
    by : (o : Ordering) → compare slots first ≡ o → AreSorted (put slots pool) → AreSorted (put_by o slots first pool (put slots pool))
    by Less e later = ((e, above_first slots first pool e all.0), all)
    by Equal e later = all
    by Greater e later = (above_put first slots pool (greater_less slots first e) all.0, later)

-- ---- which lists it has
same_listed : (a b : Bool) → a ≡ b → (r : Bool) → (b || r) ≡ (a || (b || r))
same_listed a true e r = by a
  where
    by : (x : Bool) → true ≡ (x || true)
    by true = refl
    by false = refl
same_listed a false e r = ap (λ (x : Bool). x || r) (sym e)

swapped : (a b r : Bool) → (b || (a || r)) ≡ (a || (b || r))
swapped true true r = refl
swapped true false r = refl
swapped false true r = refl
swapped false false r = refl

equal_same : (a b : List ℕ) → compare a b ≡ Equal → a ≡ b
equal_same a b e = (bytes_eq-Decides a b).0 (sym (is_eq-slice_cmp a b) ∙ ap is_eq e)

listed_put : (q slots : List ℕ) (pool : List (List ℕ)) → is_listed q (put slots pool) ≡ (is_same q slots || is_listed q pool)
unfolding put
listed_put q slots [] = refl
listed_put q slots (first ∷ pool) = by (compare slots first) refl (listed_put q slots pool)
  where
    by : (o : Ordering) → compare slots first ≡ o → is_listed q (put slots pool) ≡ (is_same q slots || is_listed q pool)
        → is_listed q (put_by o slots first pool (put slots pool)) ≡ (is_same q slots || (is_same q first || is_listed q pool))
    by Less e later = refl
    by Equal e later = same_listed (is_same q slots) (is_same q first) (ap (is_same q) (equal_same slots first e)) (is_listed q pool)
    by Greater e later = ap (λ (x : Bool). is_same q first || x) later ∙ swapped (is_same q slots) (is_same q first) (is_listed q pool)

or_joined : (a b c : Bool) → (a || (b || c)) ≡ ((a || b) || c)
or_joined true b c = refl
or_joined false b c = refl

-- ---- the vectors of nodes
put_family : List CertVector → List (List ℕ) → List (List ℕ)
put_family [] pool = pool
put_family (v ∷ family) pool = put v.slots.slots (put_family family pool)

sorted_family : (family : List CertVector) (pool : List (List ℕ)) → AreSorted pool → AreSorted (put_family family pool)
unfolding put_family
sorted_family [] pool all = all
sorted_family (v ∷ family) pool all = sorted_put v.slots.slots (put_family family pool) (sorted_family family pool all)

listed_family : (q : List ℕ) (family : List CertVector) (pool : List (List ℕ)) → is_listed q (put_family family pool) ≡ (is_of q family || is_listed q pool)
unfolding put_family
listed_family q [] pool = refl
listed_family q (v ∷ family) pool =
    listed_put q v.slots.slots (put_family family pool) ∙ ap (λ (x : Bool). is_same q v.slots.slots || x) (listed_family q family pool)
    ∙ or_joined (is_same q v.slots.slots) (is_of q family) (is_listed q pool)

pool_of : List (List CertVector) → List (List ℕ)
pool_of [] = []
pool_of (family ∷ families) = put_family family (pool_of families)

sorted_pool : (families : List (List CertVector)) → AreSorted (pool_of families)
unfolding pool_of IsStrictlySortedBy
sorted_pool [] = tt
sorted_pool (family ∷ families) = sorted_family family (pool_of families) (sorted_pool families)

listed_pool : (q : List ℕ) (families : List (List CertVector)) → is_listed q (pool_of families) ≡ is_used q families
unfolding pool_of
listed_pool q [] = refl
listed_pool q (family ∷ families) = listed_family q family (pool_of families) ∙ ap (λ (x : Bool). is_of q family || x) (listed_pool q families)

is_pool : (families : List (List CertVector)) → IsPool families (pool_of families)
is_pool families = record { sorted = sorted_pool families; same = λ q. listed_pool q families }

pub has_text : HasText
has_text c =
    let pool = pool_of c.families in (
      (text_of (items_of pool c), record { pool = pool; different = is_pool c.families; text = refl }),
      (length pool, record { pool = pool; different = is_pool c.families; counted = refl }),
    )
