-- Keys that stand for lists of slots: what a set of such keys says of the lists.
use Rattle.std.proofs.Common.{◌≡◌, ℕ, suc, ◌+◌, ◌<◌, Bool, true, false, cond, ◌||◌, List, [], ◌∷◌, ◌++◌, length, map, get_or, Some, refl, sym, ◌∙◌, ap, subst, arith, true≢false}
use Rattle.std.specs.Prelude.{slice_get}
use Rattle.std.specs.List.{list_any, position, AllByRecursion, IsDistinct, All}
use Rattle.std.specs.Str.{bytes_eq}
use Rattle.std.specs.Ordering.{is_eq, is_lt}
use Rattle.std.specs.declared.cmp.Ordering.{Ordering}
use Rattle.std.specs.declared.cmp.Ordering.TheVariants.{Less, Equal, Greater}
use Rattle.std.proofs.lemmas.List.{get_or-map, length-map}
use Rattle.std.proofs.lemmas.Map.Keys.{IsDistinct-head, IsDistinct-tail}
use Rattle.std.proofs.lemmas.Map.Text.{is_eq-slice_cmp}
use Rattle.std.specs.List.Sorted.{IsPermutation}
use Rattle.std.proofs.lemmas.List.Quantifiers.{position-Some}
use Rattle.std.proofs.lemmas.List.Sorted.{IsPermutation-map, list_any-IsPermutation}
use Rattle.std.proofs.lemmas.Option.{slice_get-get_or}
use Rattle.std.proofs.lemmas.List.Elements.{All-nil, All-cons}
use Rattle.cert_text.specs.declared.certificate.CertVector.{CertVector}
use Rattle.cert_text.specs.Pool.{is_same, is_listed, Lists, IsPool, place_in}
use Rattle.cert_text.proofs.PoolLemmas.{compare, AreSorted, same_is, greater_less, chain, above_all, sorted_nil, sorted_cons}
use Rattle.cert_text.proofs.PlaceLemmas.{AreListed, all_listed, place_of_get}

-- whether two keys stand for the same slots
abbrev pub is_equal : {K : Type 0} → (K → List ℕ) → K → K → Bool
is_equal f x y = bytes_eq (f x) (f y)

-- ---- what is listed
pub listed_as : {K : Type 0} (f : K → List ℕ) (q : List ℕ) (keys : List K) → list_any (λ y. bytes_eq q (f y)) keys ≡ is_listed q (map f keys)
listed_as f q [] = refl
listed_as f q (x ∷ keys) = rw (listed_as f q keys) (ap (λ b. b || is_listed q (map f keys)) (sym (is_eq-slice_cmp q (f x))))

-- one key more, at the end
listed_last : {K : Type 0} (f : K → List ℕ) (q : List ℕ) (keys : List K) (k : K) → is_listed q (map f (keys ++ k ∷ [])) ≡ (is_listed q (map f keys) || is_same q (f k))
listed_last f q [] k = or_nothing (is_same q (f k))
  where
    or_nothing : (b : Bool) → (b || false) ≡ (false || b)
    or_nothing true = refl
    or_nothing false = refl
listed_last f q (x ∷ keys) k = ap (λ b. is_same q (f x) || b) (listed_last f q keys k) ∙ sym (or_assoc (is_same q (f x)) (is_listed q (map f keys)) (is_same q (f k)))
  where
    or_assoc : (a b c : Bool) → ((a || b) || c) ≡ (a || (b || c))
    or_assoc true b c = refl
    or_assoc false b c = refl

-- a key that is there already
listed_there : {K : Type 0} (f : K → List ℕ) (q : List ℕ) (keys : List K) (k : K) (b : Bool) → is_same q (f k) ≡ b → list_any (is_equal f k) keys ≡ true → is_listed q (map f keys) ≡ (is_listed q (map f keys) || b)
listed_there f q keys k true e there =
    let here : is_listed q (map f keys) ≡ true = subst (λ z. is_listed z (map f keys) ≡ true) (sym (same_is q (f k) e)) (sym (listed_as f (f k) keys) ∙ there) in
    rw here refl
listed_there f q keys k false e there = nothing (is_listed q (map f keys))
  where
    nothing : (a : Bool) → a ≡ (a || false)
    nothing true = refl
    nothing false = refl

-- a key that is put behind the others unless it is there
pub listed_put : {K : Type 0} (f : K → List ℕ) (q : List ℕ) (keys : List K) (k : K) → is_listed q (map f (cond (list_any (is_equal f k) keys) keys (keys ++ k ∷ []))) ≡ (is_listed q (map f keys) || is_same q (f k))
listed_put f q keys k = by (list_any (is_equal f k) keys) refl
  where
    by : (b : Bool) → list_any (is_equal f k) keys ≡ b → is_listed q (map f (cond b keys (keys ++ k ∷ []))) ≡ (is_listed q (map f keys) || is_same q (f k))
    by true e = listed_there f q keys k (is_same q (f k)) refl e
    by false e = listed_last f q keys k

-- ---- the order of keys that differ
less_of : (a b : List ℕ) (o : Ordering) → compare a b ≡ o → is_lt (compare b a) ≡ false → bytes_eq a b ≡ false → compare a b ≡ Less
less_of a b Less e back apart = e
less_of a b Equal e back apart = absurd (true≢false (sym (ap is_eq e) ∙ is_eq-slice_cmp a b ∙ apart))
less_of a b Greater e back apart = absurd (true≢false (sym (ap is_lt (greater_less a b e)) ∙ back))

behind : (x y : List ℕ) (xs : List (List ℕ)) → compare x y ≡ Less → AllByRecursion (λ z. compare y z ≡ Less) xs → AllByRecursion (λ z. compare x z ≡ Less) xs
behind x y [] e all = tt
behind x y (z ∷ xs) e all = (chain x y z e all.0, behind x y xs e all.1)

-- keys that are sorted and differ stand for lists that are strictly sorted
pub strictly_sorted : {K : Type 0} (f : K → List ℕ) (keys : List K) → ((i : ℕ) (d : K) → i + 1 < length keys → is_lt (compare (f (get_or keys (i + 1) d)) (f (get_or keys i d))) ≡ false) → IsDistinct (is_equal f) keys → AreSorted (map f keys)
strictly_sorted f [] order apart = sorted_nil
strictly_sorted f (x ∷ []) order apart = sorted_cons (f x) [] tt sorted_nil
strictly_sorted f (x ∷ y ∷ keys) order apart =
    let rest = strictly_sorted f (y ∷ keys)
    (λ i d less.
    let next : suc i + 1 ≡ suc (i + 1) = omega arith in
    subst (λ n. is_lt (compare (f (get_or (x ∷ y ∷ keys) n d)) (f (get_or (x ∷ y ∷ keys) (suc i) d))) ≡ false) next (order (suc i) d (omega (arith, less))))
    (IsDistinct-tail (is_equal f) x (y ∷ keys) apart) in
    let less = less_of (f x) (f y) (compare (f x) (f y)) refl (order 0 x (omega arith)) (IsDistinct-head (is_equal f) x (y ∷ keys) apart).0 in
    sorted_cons (f x) (f y ∷ map f keys) (less, behind (f x) (f y) (map f keys) less (above_all (f y) (map f keys) rest)) rest

-- ---- the place of a key
-- the first key that stands for some slots is at their place
pub place_found : {K : Type 0} (f : K → List ℕ) (keys : List K) (q : List ℕ) (i : ℕ) → AreSorted (map f keys) → position (λ y. bytes_eq q (f y)) keys ≡ Some i → i ≡ place_in (map f keys) q
place_found f [] q i s found = absurd (cc)
place_found f (x ∷ keys) q i s found =
    let at = position-Some (λ y. bytes_eq q (f y)) (x ∷ keys) i x found in
    let same : q ≡ f (get_or (x ∷ keys) i x) = same_is q (f (get_or (x ∷ keys) i x)) (is_eq-slice_cmp q (f (get_or (x ∷ keys) i x)) ∙ at.1) in
    let inside : i < length (map f (x ∷ keys)) = subst (λ n. i < n) (sym (length-map (x ∷ keys) f)) at.0 in
    let here : slice_get (map f (x ∷ keys)) i ≡ Some q = slice_get-get_or (map f (x ∷ keys)) i (f x) inside ∙ ap Some (get_or-map f (x ∷ keys) i x (f x) at.0 ∙ sym same) in
    sym (place_of_get (map f (x ∷ keys)) i q s here)

-- ---- the vectors of nodes are listed
all_of : {X : Type 0} (P : X → Type 0) (xs : List X) → AllByRecursion P xs → All P xs
all_of P [] h = All-nil P
all_of P (x ∷ xs) h = All-cons P x xs h.0 (all_of P xs h.1)

each_of : (pool : List (List ℕ)) (families : List (List CertVector)) → AllByRecursion (AreListed pool) families → All (Lists pool) families
each_of pool [] h = All-nil (Lists pool)
each_of pool (family ∷ families) h = All-cons (Lists pool) family families (all_of (λ (v : CertVector). is_listed v.slots.slots pool ≡ true) family h.0) (each_of pool families h.1)

-- a pool lists the vectors of its nodes
pub nodes_listed : (pool : List (List ℕ)) (families : List (List CertVector)) → IsPool families pool → All (Lists pool) families
nodes_listed pool families p = each_of pool families (all_listed pool families (λ slots e. p.same slots ∙ e))

-- keys in another order list the same
pub listed_reordered : {K : Type 0} (f : K → List ℕ) (q : List ℕ) (keys others : List K) → IsPermutation keys others → is_listed q (map f others) ≡ is_listed q (map f keys)
listed_reordered f q keys others p = sym (list_any-IsPermutation (is_same q) (map f keys) (map f others) (IsPermutation-map f keys others p))
