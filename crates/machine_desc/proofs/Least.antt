-- The least of some texts, found by comparing each with the least so far.
use Rattle.std.proofs.Common.{◌≡◌, ◌≢◌, ℕ, ◌+◌, ◌<◌, List, [], ◌∷◌, length, get_or, Ordering, Less, Equal, Greater, nat_cmp, refl, ap, sym, ◌∙◌, subst, arith, below_more, zero, suc}
use Rattle.std.proofs.lemmas.Cmp.{nat_list_cmp_total}
use Rattle.std.specs.Cmp.{tied_itself}
use Rattle.std.specs.Cmp.Lexicographic.{slice_cmp}
use Rattle.std.specs.Ordering.{ordering_reverse}
use Rattle.machine_desc.specs.Causes.{IsLeast}

abbrev pub against : List ℕ → List ℕ → Ordering
against = slice_cmp nat_cmp

pub flipped : (x y : List ℕ) (o : Ordering) → against x y ≡ o → against y x ≡ ordering_reverse o
flipped x y o e = nat_list_cmp_total.antisymm y x ∙ ap ordering_reverse e

-- what comes before the least so far is no greater than the others
below : (x y z : List ℕ) → against x y ≡ Less → against y z ≢ Greater → against x z ≢ Greater
below x y z less least more = least (flipped z y Less (nat_list_cmp_total.trans z x y (flipped x z Greater more) less))

itself : (x : List ℕ) → against x x ≢ Greater
itself x more = let e : Equal ≡ Greater = sym (tied_itself nat_list_cmp_total x) ∙ more in cc

not_before : (x y : List ℕ) → against x y ≢ Less → against y x ≢ Greater
not_before x y no_less more = no_less (flipped y x Greater more)

-- the least so far, and the first index
pub replaced : (keys : List (List ℕ)) (least index : ℕ) → against (get_or keys index []) (get_or keys least []) ≡ Less
    → ((k : ℕ) → k < index → against (get_or keys least []) (get_or keys k []) ≢ Greater)
    → (k : ℕ) → k < index + 1 → against (get_or keys index []) (get_or keys k []) ≢ Greater
replaced keys least index less h =
    below_more (λ k. against (get_or keys index []) (get_or keys k []) ≢ Greater) index (λ k small. below (get_or keys index []) (get_or keys least []) (get_or keys k []) less (h k small)) (itself (get_or keys index []))

pub stays : (keys : List (List ℕ)) (least index : ℕ) → against (get_or keys index []) (get_or keys least []) ≢ Less
    → ((k : ℕ) → k < index → against (get_or keys least []) (get_or keys k []) ≢ Greater)
    → (k : ℕ) → k < index + 1 → against (get_or keys least []) (get_or keys k []) ≢ Greater
stays keys least index no_less h =
    below_more (λ k. against (get_or keys least []) (get_or keys k []) ≢ Greater) index h (not_before (get_or keys index []) (get_or keys least []) no_less)

-- within a list it does not matter what stands past its end
pub any_default : {A : Type 0} (xs : List A) (i : ℕ) (d e : A) → i < length xs → get_or xs i d ≡ get_or xs i e
any_default [] i d e h = absurd (omega arith)
any_default (x ∷ xs) zero d e h = refl
any_default (x ∷ xs) (suc i) d e h = any_default xs i d e (omega arith)

-- the same for texts read from the list
pub replaced_by : (keys : List (List ℕ)) (least index : ℕ) (x y : List ℕ) → index < length keys → least < length keys → x ≡ get_or keys index x → y ≡ get_or keys least y → against x y ≡ Less
    → ((k : ℕ) → k < index → against (get_or keys least []) (get_or keys k []) ≢ Greater)
    → (k : ℕ) → k < index + 1 → against (get_or keys index []) (get_or keys k []) ≢ Greater
replaced_by keys least index x y i l ex ey less =
    let first : x ≡ get_or keys index [] = ex ∙ any_default keys index x [] i in
    let second : y ≡ get_or keys least [] = ey ∙ any_default keys least y [] l in
    replaced keys least index (subst (λ (t : List ℕ). against t (get_or keys least []) ≡ Less) first (subst (λ (t : List ℕ). against x t ≡ Less) second less))

pub stays_by : (keys : List (List ℕ)) (least index : ℕ) (x y : List ℕ) → index < length keys → least < length keys → x ≡ get_or keys index x → y ≡ get_or keys least y → against x y ≢ Less
    → ((k : ℕ) → k < index → against (get_or keys least []) (get_or keys k []) ≢ Greater)
    → (k : ℕ) → k < index + 1 → against (get_or keys least []) (get_or keys k []) ≢ Greater
stays_by keys least index x y i l ex ey no_less =
    let first : x ≡ get_or keys index [] = ex ∙ any_default keys index x [] i in
    let second : y ≡ get_or keys least [] = ey ∙ any_default keys least y [] l in
    stays keys least index (subst (λ (t : List ℕ). against t (get_or keys least []) ≢ Less) first (subst (λ (t : List ℕ). against x t ≢ Less) second no_less))

-- a list of one element has that as its least
pub alone : (keys : List (List ℕ)) (k : ℕ) → k < 1 → against (get_or keys 0 []) (get_or keys k []) ≢ Greater
alone keys zero h = itself (get_or keys 0 [])
alone keys (suc k) h = absurd (omega arith)

pub least_from : (keys : List (List ℕ)) (least : ℕ) (key : List ℕ) → least < length keys → key ≡ get_or keys least key
    → ((k : ℕ) → k < length keys → against (get_or keys least []) (get_or keys k []) ≢ Greater) → IsLeast keys key
least_from keys least key within there each =
    let same : get_or keys least [] ≡ key = any_default keys least [] key within ∙ sym there in record {
      place = least;
      within = within;
      there = same;
      least = subst (λ (t : List ℕ). (k : ℕ) → k < length keys → against t (get_or keys k []) ≢ Greater) same each;
    }
