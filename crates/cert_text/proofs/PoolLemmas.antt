-- Lists of slots in order, and the places in them.
use Rattle.std.proofs.Common.{◌≡◌, ℕ, zero, suc, ◌+◌, ◌<◌, ◌≤◌, Bool, true, false, ◌||◌, List, [], ◌∷◌, length, get_or, take, refl, sym, ◌∙◌, ap, subst, arith, true≢false}
use Rattle.std.specs.List.{AllByRecursion}
use Rattle.std.specs.List.Sorted.{IsStrictlySortedBy}
use Rattle.std.specs.Ordering.{nat_cmp, is_eq, ordering_reverse}
use Rattle.std.specs.Cmp.Lexicographic.{slice_cmp}
use Rattle.std.specs.declared.cmp.Ordering.{Ordering}
use Rattle.std.specs.declared.cmp.Ordering.TheVariants.{Less, Equal, Greater}
use Rattle.std.proofs.lemmas.Cmp.{nat_list_cmp_total}
use Rattle.std.proofs.lemmas.List.Folds.{list_any_more}
use Rattle.std.proofs.lemmas.Map.Keys.{Less-from_sorted}
use Rattle.std.proofs.lemmas.Map.Text.{is_eq-slice_cmp}
use Rattle.std.proofs.lemmas.Slice.Eq.{bytes_eq-Decides}
use Rattle.cert_items.specs.Order.{is_less}
use Rattle.cert_text.specs.declared.certificate.CertVector.{CertVector}
use Rattle.cert_text.specs.Pool.{is_same, is_listed, is_of, IsPool, HasVectors, place_in}

abbrev pub compare : List ℕ → List ℕ → Ordering
compare a b = slice_cmp nat_cmp a b

abbrev pub AreSorted : List (List ℕ) → Type 0
AreSorted pool = IsStrictlySortedBy (slice_cmp nat_cmp) pool

-- ---- the same slots
pub same_is : (a b : List ℕ) → is_same a b ≡ true → a ≡ b
same_is a b e = (bytes_eq-Decides a b).0 (sym (is_eq-slice_cmp a b) ∙ e)

pub same_self : (a : List ℕ) → is_same a a ≡ true
same_self a = is_eq-slice_cmp a a ∙ (bytes_eq-Decides a a).1 refl

equal_is : (o : Ordering) → is_eq o ≡ true → o ≡ Equal
equal_is Less e = absurd (true≢false (sym e))
equal_is Equal e = refl
equal_is Greater e = absurd (true≢false (sym e))

compare_self : (a : List ℕ) → compare a a ≡ Equal
compare_self a = equal_is (compare a a) (same_self a)

pub equal_same : (a b : List ℕ) → compare a b ≡ Equal → a ≡ b
equal_same a b e = same_is a b (ap is_eq e)

pub less_is : (o : Ordering) → is_less o ≡ true → o ≡ Less
less_is Less e = refl
less_is Equal e = absurd (true≢false (sym e))
less_is Greater e = absurd (true≢false (sym e))

reverse_less : (o : Ordering) → ordering_reverse o ≡ Less → o ≡ Greater
reverse_less Less e = absurd (cc)
reverse_less Equal e = absurd (cc)
reverse_less Greater e = refl

pub less_greater : (a b : List ℕ) → compare a b ≡ Less → compare b a ≡ Greater
less_greater a b e = reverse_less (compare b a) (sym (nat_list_cmp_total.antisymm a b) ∙ e)

reverse_greater : (o : Ordering) → ordering_reverse o ≡ Greater → o ≡ Less
reverse_greater Less e = refl
reverse_greater Equal e = absurd (cc)
reverse_greater Greater e = absurd (cc)

pub greater_less : (a b : List ℕ) → compare a b ≡ Greater → compare b a ≡ Less
greater_less a b e = reverse_greater (compare b a) (sym (nat_list_cmp_total.antisymm a b) ∙ e)

pub chain : (a b c : List ℕ) → compare a b ≡ Less → compare b c ≡ Less → compare a c ≡ Less
chain a b c e h = nat_list_cmp_total.trans a b c e h

-- ---- one order of a set of slots
pub not_listed : (x : List ℕ) (xs : List (List ℕ)) → AllByRecursion (λ y. compare x y ≡ Less) xs → is_listed x xs ≡ false
not_listed x [] all = refl
not_listed x (y ∷ xs) all = rw (all.0) (not_listed x xs all.1)

all_above : (x y : List ℕ) (xs : List (List ℕ)) → compare x y ≡ Less → AllByRecursion (λ z. compare y z ≡ Less) xs → AllByRecursion (λ z. compare x z ≡ Less) xs
all_above x y [] e all = all
all_above x y (z ∷ xs) e all = (chain x y z e all.0, all_above x y xs e all.1)

pub above_all : (x : List ℕ) (xs : List (List ℕ)) → AreSorted (x ∷ xs) → AllByRecursion (λ y. compare x y ≡ Less) xs
unfolding IsStrictlySortedBy
above_all x xs s = s.0

pub sorted_behind : (x : List ℕ) (xs : List (List ℕ)) → AreSorted (x ∷ xs) → AreSorted xs
unfolding IsStrictlySortedBy
sorted_behind x xs s = s.1

pub sorted_nil : AreSorted []
unfolding IsStrictlySortedBy
sorted_nil = tt

pub sorted_cons : (x : List ℕ) (xs : List (List ℕ)) → AllByRecursion (λ y. compare x y ≡ Less) xs → AreSorted xs → AreSorted (x ∷ xs)
unfolding IsStrictlySortedBy
sorted_cons x xs all s = (all, s)

pub first_listed : (x : List ℕ) (xs : List (List ℕ)) → is_listed x (x ∷ xs) ≡ true
first_listed x xs = rw (compare_self x) refl

-- a vector that comes before the first is not listed
pub lower : (x y : List ℕ) (ys : List (List ℕ)) → compare x y ≡ Less → AreSorted (y ∷ ys) → is_listed x (y ∷ ys) ≡ false
lower x y ys e s = not_listed x (y ∷ ys) (e, all_above x y ys e (above_all y ys s))

same_first : (x y : List ℕ) (xs ys : List (List ℕ)) (o : Ordering) → compare x y ≡ o → AreSorted (x ∷ xs) → AreSorted (y ∷ ys) → ((q : List ℕ) → is_listed q (x ∷ xs) ≡ is_listed q (y ∷ ys)) → x ≡ y
same_first x y xs ys Less e s t same = absurd (true≢false (sym (first_listed x xs) ∙ same x ∙ lower x y ys e t))
same_first x y xs ys Equal e s t same = equal_same x y e
same_first x y xs ys Greater e s t same = absurd (true≢false (sym (first_listed y ys) ∙ sym (same y) ∙ lower y x xs (greater_less x y e) s))

same_tail : (q x : List ℕ) (xs ys : List (List ℕ)) (b : Bool) → is_same q x ≡ b → AreSorted (x ∷ xs) → AreSorted (x ∷ ys) → is_listed q (x ∷ xs) ≡ is_listed q (x ∷ ys) → is_listed q xs ≡ is_listed q ys
same_tail q x xs ys true e s t h =
    let p : x ≡ q = sym (same_is q x e) in
    let one : is_listed q xs ≡ false = subst (λ z. is_listed z xs ≡ false) p (not_listed x xs (above_all x xs s)) in
    let two : is_listed q ys ≡ false = subst (λ z. is_listed z ys ≡ false) p (not_listed x ys (above_all x ys t)) in
    one ∙ sym two
same_tail q x xs ys false e s t h = sym (ap (λ b. b || is_listed q xs) e) ∙ h ∙ ap (λ b. b || is_listed q ys) e

pub one_order : (xs ys : List (List ℕ)) → AreSorted xs → AreSorted ys → ((q : List ℕ) → is_listed q xs ≡ is_listed q ys) → xs ≡ ys
one_order [] [] s t same = refl
one_order [] (y ∷ ys) s t same = absurd (true≢false (sym (first_listed y ys) ∙ sym (same y)))
one_order (x ∷ xs) [] s t same = absurd (true≢false (sym (first_listed x xs) ∙ same x))
one_order (x ∷ xs) (y ∷ ys) s t same =
    let first : y ≡ x = sym (same_first x y xs ys (compare x y) refl s t same) in
    let t2 : AreSorted (x ∷ ys) = subst (λ z. AreSorted (z ∷ ys)) first t in
    let same2 : (q : List ℕ) → is_listed q (x ∷ xs) ≡ is_listed q (x ∷ ys) = subst (λ z. (q : List ℕ) → is_listed q (x ∷ xs) ≡ is_listed q (z ∷ ys)) first same in
    let rest : xs ≡ ys = one_order xs ys (sorted_behind x xs s) (sorted_behind x ys t2) (λ q. same_tail q x xs ys (is_same q x) refl s t2 (same2 q)) in
    ap (λ l. x ∷ l) rest ∙ ap (λ z. z ∷ ys) (sym first)

pub one_pool : (families : List (List CertVector)) (a b : List (List ℕ)) → IsPool families a → IsPool families b → a ≡ b
one_pool families a b p q = one_order a b p.sorted q.sorted (λ slots. p.same slots ∙ sym (q.same slots))

pub one_number : (families : List (List CertVector)) (m n : ℕ) → HasVectors families m → HasVectors families n → m ≡ n
one_number families m n p q = p.counted ∙ ap length (one_pool families p.pool q.pool p.different q.different) ∙ sym q.counted

-- ---- places
-- the place is the one behind those that come before
pub place_at : (pool : List (List ℕ)) (slots : List ℕ) (i : ℕ) → i ≤ length pool → ((k : ℕ) (d : List ℕ) → k < i → compare (get_or pool k d) slots ≡ Less)
    → ((d : List ℕ) → i < length pool → is_less (compare (get_or pool i d) slots) ≡ false) → place_in pool slots ≡ i
place_at [] slots zero inside below from = refl
place_at [] slots (suc i) inside below from = absurd (omega (arith, inside))
place_at (x ∷ pool) slots zero inside below from = rw (from [] (omega arith)) refl
place_at (x ∷ pool) slots (suc i) inside below from =
    rw (below 0 [] (omega arith), place_at pool slots i (omega (arith, inside)) (λ k d less. below (suc k) d (omega (arith, less))) (λ d less. from d (omega (arith, less)))) (omega arith)

-- what the search for slots answers is their place
pub place_found : (pool : List (List ℕ)) (slots : List ℕ) (i : ℕ) → AreSorted pool → i < length pool → ((d : List ℕ) → compare (get_or pool i d) slots ≡ Equal) → place_in pool slots ≡ i
place_found pool slots i s inside here =
    place_at pool slots i (omega (arith, inside))
    (λ k d less. subst (λ z. compare (get_or pool k d) z ≡ Less) (equal_same (get_or pool i d) slots (here d)) (Less-from_sorted (slice_cmp nat_cmp) pool k i d s less inside))
    (λ d less. ap is_less (here d))

-- ---- a set that grows
or_assoc : (a b c : Bool) → ((a || b) || c) ≡ (a || (b || c))
or_assoc true b c = refl
or_assoc false b c = refl

-- one vector more
pub vector_added : (family : List CertVector) (i : ℕ) (d : CertVector) (slots q : List ℕ) (old now new : Bool) → i < length family → slots ≡ (get_or family i d).slots.slots → now ≡ (old || is_of q (take i family)) → new ≡ (now || is_same q slots)
    → new ≡ (old || is_of q (take (i + 1) family))
vector_added family i d slots q old now new inside here so step =
    let more : is_of q (take (i + 1) family) ≡ (is_of q (take i family) || is_same q (get_or family i d).slots.slots) = list_any_more (λ (v : CertVector). is_same q v.slots.slots) family i d inside in
    step ∙ ap (λ b. b || is_same q slots) so ∙ or_assoc old (is_of q (take i family)) (is_same q slots)
    ∙ ap (λ (z : List ℕ). old || (is_of q (take i family) || is_same q z)) here ∙ ap (λ b. old || b) (sym more)
