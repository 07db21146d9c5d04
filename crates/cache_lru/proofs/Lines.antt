-- The list of one set: what taking a line out leaves, and what an access keeps.
use Rattle.std.proofs.Common.{◌≡◌, ℕ, zero, suc, ◌+◌, ◌<◌, ◌≤◌, ◌-◌, Bool, true, false, cond, not, List, [], ◌∷◌, length, get_or, take, refl, sym, ap, subst, ◌∙◌, arith, eqb, ◌||◌}
use Rattle.std.proofs.lemmas.Bool.{or_parts, or_from, or_left, or_right, eq-eqb}
use Rattle.std.proofs.lemmas.List.{take_all, take_more, length-take}
use Rattle.std.proofs.lemmas.List.Edits.{length-remove}
use Rattle.std.proofs.lemmas.List.Elements.{All-from_recursion, recursion_from_All}
use Rattle.std.proofs.lemmas.Map.Keys.{IsDistinct-head, IsDistinct-tail, IsDistinct-cons, IsDistinct-push, apart_from_distinct}
use Rattle.std.specs.Cmp.{nat_eq_equiv}
use Rattle.std.specs.List.{AllByRecursion, list_any, filter, remove, IsDistinct}
use Rattle.wx_base.specs.declared.machine.Shape.{Shape}
use Rattle.wx_base.specs.Cache.{IsSet, set_of, touched}

-- a list without the line loses nothing
pub kept_all : (xs : List ℕ) (line : ℕ) → list_any (λ other. eqb other line) xs ≡ false → filter (λ other. not (eqb other line)) xs ≡ xs
kept_all [] line h = refl
kept_all (x ∷ xs) line h =
    let p = or_parts (eqb x line) (list_any (λ other. eqb other line) xs) h in
    rw p.0 (ap (λ rest. x ∷ rest) (kept_all xs line p.1))

apart_none : (xs : List ℕ) (line : ℕ) → AllByRecursion (λ y. eqb line y ≡ false) xs → list_any (λ other. eqb other line) xs ≡ false
apart_none [] line h = refl
apart_none (x ∷ xs) line h = or_from (eqb x line) (list_any (λ other. eqb other line) xs) (nat_eq_equiv.symm x line ∙ h.0) (apart_none xs line h.1)

-- of different lines, those other than the one at a place are all but that one
pub removed : (xs : List ℕ) (p line : ℕ) → IsDistinct eqb xs → p < length xs → get_or xs p 0 ≡ line → filter (λ other. not (eqb other line)) xs ≡ remove xs p
removed [] p line d h e = absurd (omega arith)
removed (x ∷ xs) zero line d h e =
    let P : ℕ → Type 0 = λ z. AllByRecursion (λ y. eqb z y ≡ false) xs in
    rw (eq-eqb x line e) (kept_all xs line (apart_none xs line (subst P e (IsDistinct-head eqb x xs d))))
removed (x ∷ xs) (suc p) line d h e =
    let P : ℕ → Type 0 = λ z. eqb x z ≡ false in
    let apart : eqb x line ≡ false = subst P e (apart_from_distinct eqb (x ∷ xs) 0 (suc p) 0 d (omega arith) h) in
    rw apart (ap (λ rest. x ∷ rest) (removed xs p line (IsDistinct-tail eqb x xs d) (omega arith) e))

-- the line at a place is held
pub held : (xs : List ℕ) (p line : ℕ) → p < length xs → get_or xs p 0 ≡ line → list_any (λ other. eqb other line) xs ≡ true
held [] p line h e = absurd (omega arith)
held (x ∷ xs) zero line h e = or_left (eqb x line) (list_any (λ other. eqb other line) xs) (eq-eqb x line e)
held (x ∷ xs) (suc p) line h e = or_right (eqb x line) (list_any (λ other. eqb other line) xs) (held xs p line (omega arith) e)

-- all but the line at a place fit into one way fewer
pub fits_without : (xs : List ℕ) (p line ways : ℕ) → IsDistinct eqb xs → p < length xs → get_or xs p 0 ≡ line → length xs ≤ ways
    → remove xs p ≡ take (ways - 1) (filter (λ other. not (eqb other line)) xs)
fits_without xs p line ways d h e fits = rw (removed xs p line d h e) (sym (take_all (ways - 1) (remove xs p) (omega (arith, length-remove xs p h))))

-- a line before the others takes one way
pub before_others : (ways line : ℕ) (xs : List ℕ) → 0 < ways → take ways (line ∷ xs) ≡ line ∷ take (ways - 1) xs
before_others zero line xs h = absurd (omega arith)
before_others (suc w) line xs h = let e : suc w - 1 ≡ w = omega arith in rw e refl

every-take : (P : ℕ → Type 0) (n : ℕ) (xs : List ℕ) → AllByRecursion P xs → AllByRecursion P (take n xs)
every-take P zero xs h = tt
every-take P (suc n) [] h = tt
every-take P (suc n) (x ∷ xs) h = (h.0, every-take P n xs h.1)

every-filter : (P : ℕ → Type 0) (test : ℕ → Bool) (xs : List ℕ) → AllByRecursion P xs → AllByRecursion P (filter test xs)
every-filter P test [] h = tt
every-filter P test (x ∷ xs) h = elim (test x) as (λ b. AllByRecursion P (cond b (x ∷ filter test xs) (filter test xs))) [
  | true ↦ (h.0, every-filter P test xs h.1)
  | false ↦ every-filter P test xs h.1
]

distinct-take : (n : ℕ) (xs : List ℕ) → IsDistinct eqb xs → IsDistinct eqb (take n xs)
unfolding IsDistinct
distinct-take zero xs d = tt
distinct-take (suc n) [] d = tt
distinct-take (suc n) (x ∷ xs) d = (every-take (λ y. eqb x y ≡ false) n xs d.0, distinct-take n xs d.1)

distinct-filter : (test : ℕ → Bool) (xs : List ℕ) → IsDistinct eqb xs → IsDistinct eqb (filter test xs)
unfolding IsDistinct
distinct-filter test [] d = tt
distinct-filter test (x ∷ xs) d = elim (test x) as (λ b. IsDistinct eqb (cond b (x ∷ filter test xs) (filter test xs))) [
  | true ↦ (every-filter (λ y. eqb x y ≡ false) test xs d.0, distinct-filter test xs d.1)
  | false ↦ distinct-filter test xs d.1
]

-- what is left of a list without the line is apart from the line
without : (line : ℕ) (xs : List ℕ) → AllByRecursion (λ y. eqb line y ≡ false) (filter (λ other. not (eqb other line)) xs)
without line [] = tt
without line (x ∷ xs) =
    let rest = filter (λ other. not (eqb other line)) xs in
    elim (eqb x line) as (λ b. eqb x line ≡ b → AllByRecursion (λ y. eqb line y ≡ false) (cond (not b) (x ∷ rest) rest)) [
      | true ↦ λ e. without line xs
      | false ↦ λ e. (nat_eq_equiv.symm line x ∙ e, without line xs)
    ] refl

-- an access leaves a list of different lines of the set, no longer than there are ways
pub touched_is_set : (shape : Shape) (set : ℕ) (lines : List ℕ) (line : ℕ) → IsSet shape set lines → set_of shape line ≡ set → IsSet shape set (touched shape.ways lines line)
touched_is_set shape set lines line s e =
    let test : ℕ → Bool = λ other. not (eqb other line) in
    let own : ℕ → Type 0 = λ other. set_of shape other ≡ set in
    record {
      fits = omega (arith, length-take shape.ways (line ∷ filter test lines));
      different = distinct-take shape.ways (line ∷ filter test lines) (IsDistinct-cons eqb line (filter test lines) (without line lines) (distinct-filter test lines s.different));
      own = All-from_recursion own (take shape.ways (line ∷ filter test lines)) (every-take own shape.ways (line ∷ filter test lines) (e, every-filter own test lines (recursion_from_All own lines s.own)));
    }

-- a second access of the line at once changes nothing
pub touched_again : (ways : ℕ) (lines : List ℕ) (line : ℕ) → 0 < ways → touched ways (touched ways lines line) line ≡ touched ways lines line
touched_again ways lines line h = again (filter (λ other. not (eqb other line)) lines) (without line lines)
  where
    again : (rest : List ℕ) → AllByRecursion (λ y. eqb line y ≡ false) rest → touched ways (take ways (line ∷ rest)) line ≡ take ways (line ∷ rest)
    again rest apart =
        let older = take (ways - 1) rest in
        let none : list_any (λ other. eqb other line) older ≡ false = apart_none older line (every-take (λ y. eqb line y ≡ false) (ways - 1) rest apart) in
        let same : filter (λ other. not (eqb other line)) (line ∷ older) ≡ older = rw (eq-eqb line line refl) (kept_all older line none) in
        let short : length (line ∷ older) ≤ ways = omega (arith, length-take (ways - 1) rest) in
        rw (before_others ways line rest h, same) (take_all ways (line ∷ older) short)

-- the line at a place is none of the earlier lines, if all are different
pub earlier_apart : (xs : List ℕ) (i : ℕ) → IsDistinct eqb xs → i < length xs → list_any (λ other. eqb other (get_or xs i 0)) (take i xs) ≡ false
earlier_apart [] i d h = absurd (omega arith)
earlier_apart (x ∷ xs) zero d h = refl
earlier_apart (x ∷ xs) (suc i) d h =
    or_from (eqb x (get_or xs i 0)) (list_any (λ other. eqb other (get_or xs i 0)) (take i xs))
    (apart_from_distinct eqb (x ∷ xs) 0 (suc i) 0 d (omega arith) h) (earlier_apart xs i (IsDistinct-tail eqb x xs d) (omega arith))

other_way : (xs : List ℕ) (line : ℕ) → list_any (eqb line) xs ≡ list_any (λ other. eqb other line) xs
other_way [] line = refl
other_way (x ∷ xs) line = λ i. nat_eq_equiv.symm line x i || other_way xs line i

-- one more line that is none of the earlier ones
pub distinct_more : (xs : List ℕ) (i : ℕ) → i < length xs → IsDistinct eqb (take i xs) → list_any (λ other. eqb other (get_or xs i 0)) (take i xs) ≡ false → IsDistinct eqb (take (i + 1) xs)
distinct_more xs i h d e = rw (take_more xs i 0 h) (IsDistinct-push nat_eq_equiv (take i xs) (get_or xs i 0) d (other_way (take i xs) (get_or xs i 0) ∙ e))

pub distinct_none : (xs : List ℕ) → IsDistinct eqb (take 0 xs)
unfolding IsDistinct
distinct_none xs = tt
