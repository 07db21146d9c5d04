-- What is found in lists that ascend by a key.
use Rattle.std.proofs.Common.{◌≡◌, ℕ, zero, suc, ◌<◌, ◌≤◌, Bool, false, eqb, List, [], ◌∷◌, length, get_or, Option, Some, None, Result, Ok, Err, is_ok, AllPairs, sym, ap, ◌∙◌, refl, arith, ⊎_elim}
use Rattle.std.specs.List.{find}
use Rattle.std.specs.List.Sorted.{IsSearchInRange, IsBinarySearchResult, IsNonDecreasingBy}
use Rattle.std.specs.Ordering.{nat_cmp, ordering_index}
use Rattle.std.proofs.lemmas.Cmp.{ranked}
use Rattle.std.proofs.lemmas.List.Folds.{list_any_at, list_any_none}
use Rattle.std.proofs.lemmas.Bool.{eq-eqb, ne_eqb, cond-true, cond-false, cases_lt}
use Rattle.std.proofs.lemmas.Bool.Decides.{nat_tests}
use Rattle.std.specs.Option.{option_map_or}
use Rattle.std.proofs.lemmas.List.{get_or_read}
use Rattle.wx_base.specs.declared.facts.TargetFact.{TargetFact}
use Rattle.wx_base.specs.Facts.{AreAscending}
use Rattle.wx_base.specs.Monitor.{is_one_of, is_target}
use Rattle.run_machine.specs.Judging.{IsPlace}

higher : (k a b : ℕ) → a ≤ b → ordering_index (nat_cmp a k) ≤ ordering_index (nat_cmp b k)
higher k a b le = grind (arith, nat_tests)

comparisons_rise : {X : Type 0} (key : X → ℕ) (xs : List X) (k : ℕ) → AllPairs (λ a b. key a < key b) xs → IsNonDecreasingBy (λ y. ordering_index (nat_cmp (key y) k)) xs
comparisons_rise key xs k up i j d le within =
    let rises : key (get_or xs i d) ≤ key (get_or xs j d) = grind (arith, up i j d, λ (same : i ≡ j). ap (λ n. key (get_or xs n d)) same) in
    higher k (key (get_or xs i d)) (key (get_or xs j d)) rises

-- a binary search by a key ends at the key, or between two others
pub placed : {X : Type 0} (key : X → ℕ) (xs : List X) (k : ℕ) (r : Result ℕ ℕ) → AllPairs (λ a b. key a < key b) xs → IsSearchInRange r (length xs) → IsBinarySearchResult (λ y. nat_cmp (key y) k) xs r → IsPlace key xs k r
placed key xs k (Ok i) up within equal = (within, λ d. ranked _ k _ (sym (equal d)))
placed key xs k (Err i) up within parted =
    let parts = parted (comparisons_rise key xs k up) in
    (within, (λ j d lt. ranked _ k _ (sym (parts.0 j d (omega arith) lt))), λ j d le lt. ranked _ k _ (sym (parts.1 j d le lt)))

-- none has the key where it is missing
not_there : {X : Type 0} (key : X → ℕ) (xs : List X) (k i : ℕ) → IsPlace key xs k (Err i) → (j : ℕ) (d : X) → j < length xs → key (get_or xs j d) ≡ k → ⊥
not_there key xs k i place j d l e =
    ⊎_elim (λ b. omega (arith, place.1 j d b)) (λ a. omega (arith, place.2 j d a l)) (cases_lt j i)

-- so it decides whether a number is in a list
pub one_of : (xs : List ℕ) (k : ℕ) (r : Result ℕ ℕ) → AreAscending xs → IsPlace (λ x. x) xs k r → is_ok r ≡ is_one_of xs k
one_of xs k (Ok i) up place = sym (list_any_at (λ a. eqb a k) xs i 0 place.0 (eq-eqb _ k (place.1 0)))
one_of xs k (Err i) up place =
    sym (list_any_none (λ a. eqb a k) xs (λ j d lt. ne_eqb _ k (not_there (λ x. x) xs k i place j d lt)))

-- the first with a key, where one stands
pub find_there : {X : Type 0} (key : X → ℕ) (xs : List X) (k i : ℕ) (x : X) → AllPairs (λ a b. key a < key b) xs → i < length xs → ((d : X) → get_or xs i d ≡ x) → key x ≡ k → find (λ a. eqb (key a) k) xs ≡ Some x
find_there key [] k i x up lt at is = absurd (omega arith)
find_there key (y ∷ ys) k zero x up lt at is =
    cond-true _ (Some y) _ (eq-eqb (key y) k (ap key (at y) ∙ is)) ∙ ap Some (at y)
find_there key (y ∷ ys) k (suc i) x up lt at is =
    let below : key y < key (get_or ys i y) = up zero (suc i) y (omega arith) lt in
    let same : key (get_or ys i y) ≡ k = ap key (at y) ∙ is in
    cond-false _ (Some y) _ (ne_eqb (key y) k (λ e. absurd (omega arith)))
    ∙ find_there key ys k i x (λ a b d h l. up (suc a) (suc b) d (omega arith) (omega arith)) (omega arith) at is

-- and where none stands
pub find_absent : {X : Type 0} (key : X → ℕ) (xs : List X) (k : ℕ) → ((j : ℕ) (d : X) → j < length xs → key (get_or xs j d) ≡ k → ⊥) → find (λ a. eqb (key a) k) xs ≡ None
find_absent key [] k none = refl
find_absent key (y ∷ ys) k none =
    cond-false _ (Some y) _ (ne_eqb (key y) k (none zero y (omega arith)))
    ∙ find_absent key ys k (λ j d l. none (suc j) d (omega arith))

-- a place between two keys is that of none
pub find_between : {X : Type 0} (key : X → ℕ) (xs : List X) (k i : ℕ) → IsPlace key xs k (Err i) → find (λ a. eqb (key a) k) xs ≡ None
find_between key xs k i place = find_absent key xs k (not_there key xs k i place)

-- whether the facts list an address, from the fact on the instruction
pub target_there : (facts : List TargetFact) (from i to : ℕ) (fact : TargetFact) (answer : Bool) → AllPairs (λ f g. f.address < g.address) facts → IsPlace (λ f. f.address) facts from (Ok i) → fact ≡ get_or facts i fact → answer ≡ is_one_of fact.targets to → answer ≡ is_target facts from to
target_there facts from i to fact answer up place at same =
    let here : (d : TargetFact) → get_or facts i d ≡ fact = λ d. sym (get_or_read facts i fact place.0 at d) in
    let found : find (λ f. eqb f.address from) facts ≡ Some fact = find_there (λ f. f.address) facts from i fact up place.0 here (ap (λ (f : TargetFact). f.address) (sym (here fact)) ∙ place.1 fact) in
    same ∙ sym (ap (λ (o : Option TargetFact). is_one_of (option_map_or (λ f. f.targets) o []) to) found)

-- and where there is none
pub target_absent : (facts : List TargetFact) (from i to : ℕ) → IsPlace (λ f. f.address) facts from (Err i) → false ≡ is_target facts from to
target_absent facts from i to place =
    sym (ap (λ (o : Option TargetFact). is_one_of (option_map_or (λ f. f.targets) o []) to) (find_between (λ f. f.address) facts from i place))
