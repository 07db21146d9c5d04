-- The calls on a stay are those of the definitions.
use Rattle.std.proofs.Common.{◌≡◌, ℕ, zero, suc, ◌<◌, Bool, true, false, cond, not, ◌&&◌, ◌||◌, List, [], ◌∷◌, length, get_or, replicate, inl, inr, refl, sym, ap, ◌∙◌, arith, eqb, ltb}
use Rattle.std.proofs.lemmas.Bool.{cases_Bool, cases_eq, cases_lt, eq-eqb, ne_eqb, false≢true}
use Rattle.std.proofs.lemmas.List.{get_or_past, with_items_is}
use Rattle.std.proofs.lemmas.List.Elements.{All-get_or}
use Rattle.std.specs.Bool.{Decides}
use Rattle.std.specs.Global.{Vec}
use Rattle.std.specs.List.{All, filter}
use Rattle.std.specs.Vec.{with_items}
use Rattle.wx_base.specs.declared.machine.Shape.{Shape}
use Rattle.wx_base.specs.Facts.{AreAscending}
use Rattle.wx_base.specs.CacheStates.{Younger, younger_start, younger_accessed, younger_joined, YoungerCovers, is_kept, is_rival}
use Rattle.cache_ages.specs.Bounds.{beside, is_one_of}
use Rattle.cache_ages.proofs.Beside.{beside_absent, beside_at, beside_listed, one_at, apart_from}
use Rattle.cache_pers.specs.Stays.{is_set_at, is_set_in, noted}

pub same_younger : (a b : Younger) → ((x : ℕ) → a.known x ≡ b.known x) → ((x y : ℕ) → a.held x y ≡ b.held x y) → a ≡ b
same_younger a b p q = λ i. record { known = λ x. p x i; held = λ x y. q x y i }

-- what lists beside lines tell
abbrev pub younger_at : List ℕ → List Bool → List (List Bool) → Younger
younger_at lines known rows = record { known = beside false lines known; held = λ x. beside false lines (beside [] lines rows x) }

-- a Vec whose items were all written
pub written : {X : Type 0} (v : Vec X) (new : List X) → length new ≡ length v.items → (with_items v new).items ≡ new
written v new same = with_items_is v new (same ∙ sym v.ok.0)

-- two places of ascending lines are one as the lines are
same_place : (lines : List ℕ) (k at line : ℕ) → AreAscending lines → k < length lines → at < length lines → get_or lines at 0 ≡ line → eqb k at ≡ eqb (get_or lines k 0) line
same_place lines k at line up h g e = elim (cases_eq k at) [
  | inl same ↦ eq-eqb k at same ∙ sym (eq-eqb (get_or lines k 0) line (ap (λ n. get_or lines n 0) same ∙ e))
  | inr ne ↦
      let apart : get_or lines k 0 ≡ line → ⊥ = λ same. elim (cases_lt k at) [
        | inl lt ↦ omega (arith, up k at 0 lt g)
        | inr le ↦ omega (arith, up at k 0 (omega (arith, ne)) h)
      ] in
      ne_eqb k at ne ∙ sym (ne_eqb (get_or lines k 0) line apart)
]

no_row : (lines : List ℕ) (line : ℕ) → beside false lines [] line ≡ false
no_row [] line = refl
no_row (x ∷ lines) line = refl

-- entries that are all clear
clear_beside : (lines : List ℕ) (entries : List Bool) (line : ℕ) → ((k : ℕ) → is_set_at entries k ≡ false) → beside false lines entries line ≡ false
clear_beside [] entries line h = refl
clear_beside (x ∷ lines) [] line h = refl
clear_beside (x ∷ lines) (b ∷ entries) line h = elim (cases_Bool (eqb x line)) [
  | inl e ↦ rw e (h 0)
  | inr e ↦ rw e (clear_beside lines entries line (λ k. h (suc k)))
]

clear_row : (lines : List ℕ) (rows : List (List Bool)) (line : ℕ) → ((i k : ℕ) → is_set_in rows i k ≡ false) → (k : ℕ) → is_set_at (beside [] lines rows line) k ≡ false
clear_row [] rows line h k = refl
clear_row (x ∷ lines) [] line h k = refl
clear_row (x ∷ lines) (row ∷ rows) line h k = elim (cases_Bool (eqb x line)) [
  | inl e ↦ rw e (h 0 k)
  | inr e ↦ rw e (clear_row lines rows line (λ i. h (suc i)) k)
]

-- with all entries clear nothing is known
pub nothing_known : (lines : List ℕ) (known : List Bool) (rows : List (List Bool)) → ((k : ℕ) → is_set_at known k ≡ false) → ((i k : ℕ) → is_set_in rows i k ≡ false)
    → younger_at lines known rows ≡ younger_start
nothing_known lines known rows a b =
    same_younger (younger_at lines known rows) younger_start
    (λ x. clear_beside lines known x a) (λ x y. clear_beside lines (beside [] lines rows x) y (clear_row lines rows x b))

pub replicate_clear : (n k : ℕ) → is_set_at (replicate n false) k ≡ false
replicate_clear zero k = refl
replicate_clear (suc n) zero = refl
replicate_clear (suc n) (suc k) = replicate_clear n k

pub rows_clear : (m n i k : ℕ) → is_set_in (replicate m (replicate n false)) i k ≡ false
rows_clear zero n i k = refl
rows_clear (suc m) n zero k = replicate_clear n k
rows_clear (suc m) n (suc i) k = rows_clear m n i k

noted_absent : (same known rival : Bool) → cond same false (false || (known && rival && false)) ≡ false
noted_absent true known rival = refl
noted_absent false true true = refl
noted_absent false true false = refl
noted_absent false false rival = refl

noted_unknown : (same rival here : Bool) → cond same false (false || (false && rival && here)) ≡ false
noted_unknown true rival here = refl
noted_unknown false rival here = refl

-- what two rows have to do with each other at each place
record Rows (n : ℕ) (F : ℕ → Bool → Bool) (first second : List Bool) : Type 0 where
  first_count : length first ≡ n
  second_count : length second ≡ n
  each : (k : ℕ) → is_set_at second k ≡ F k (is_set_at first k)

module _ (shape : Shape) (lines : List ℕ) (known known' : List Bool) (rows rows' : List (List Bool)) (line at : ℕ) (up : AreAscending lines)
    (h : at < length lines) (e : get_or lines at 0 ≡ line) (kn : length known ≡ length lines) (kn' : length known' ≡ length lines)
    (rn : length rows ≡ length lines) (rn' : length rows' ≡ length lines)
    (square : All (λ row. length row ≡ length lines) rows) (square' : All (λ row. length row ≡ length lines) rows')
    (marked : (k : ℕ) → is_set_at known' k ≡ (eqb k at || is_set_at known k))
    (noted_each : (i k : ℕ) → i < length lines → is_set_in rows' i k ≡ noted shape (get_or lines i 0) (is_set_at known i) line (eqb k at) (is_set_in rows i k)) where
  row_there : (x : ℕ) → is_one_of lines x ≡ true
      → Rows (length lines) (λ k held. noted shape x (beside false lines known x) line (eqb k at) held) (beside [] lines rows x) (beside [] lines rows' x)
  row_there x one =
      beside_listed (λ n b row row'. Rows (length lines) (λ k held. noted shape n b line (eqb k at) held) row row') false [] [] lines known rows rows' kn rn rn'
      (λ k lt. record {
        first_count = All-get_or (λ row. length row ≡ length lines) rows k [] (omega arith) square;
        second_count = All-get_or (λ row. length row ≡ length lines) rows' k [] (omega arith) square';
        each = λ j. noted_each k j lt;
      }) x one

  -- an access
  pub accessed_is : younger_at lines known' rows' ≡ younger_accessed shape (younger_at lines known rows) line
  accessed_is =
      same_younger (younger_at lines known' rows')
      (younger_accessed shape (younger_at lines known rows) line)
      (λ x. elim (cases_Bool (is_one_of lines x)) [
        | inl one ↦ beside_listed (λ n b b' _. b' ≡ (eqb n line || b)) false false false lines known known' known' kn kn' kn'
            (λ k lt. marked k ∙ ap (λ t. t || is_set_at known k) (same_place lines k at line up lt h e)) x one
        | inr none ↦ beside_absent false lines known' x none
            ∙ sym (ap (λ b. eqb x line || b) (beside_absent false lines known x none) ∙ ap (λ b. b || false) (apart_from lines line x (one_at lines at line h e) none))
      ])
      (λ x y. elim (cases_Bool (is_one_of lines x)) [
        | inl one ↦
            let both = row_there x one in
            elim (cases_Bool (is_one_of lines y)) [
              | inl listed ↦ beside_listed (λ n b b' _. b' ≡ noted shape x (beside false lines known x) line (eqb n line) b) false false false
                  lines (beside [] lines rows x) (beside [] lines rows' x) (beside [] lines rows' x) both.first_count both.second_count both.second_count
                  (λ k lt. both.each k ∙ ap (λ t. noted shape x (beside false lines known x) line t (is_set_at (beside [] lines rows x) k)) (same_place lines k at line up lt h e)) y listed
              | inr none ↦ beside_absent false lines (beside [] lines rows' x) y none
                  ∙ sym (ap (λ b. noted shape x (beside false lines known x) line (eqb y line) b) (beside_absent false lines (beside [] lines rows x) y none)
                  ∙ ap (λ t. noted shape x (beside false lines known x) line t false) (apart_from lines line y (one_at lines at line h e) none)
                  ∙ noted_absent (eqb x line) (beside false lines known x) (is_rival shape x line))
            ]
        | inr none ↦
            ap (λ row. beside false lines row y) (beside_absent [] lines rows' x none) ∙ no_row lines y
            ∙ sym (ap (λ b. noted shape x b line (eqb y line) (beside false lines (beside [] lines rows x) y)) (beside_absent false lines known x none)
            ∙ ap (λ row. noted shape x false line (eqb y line) (beside false lines row y)) (beside_absent [] lines rows x none)
            ∙ ap (λ b. noted shape x false line (eqb y line) b) (no_row lines y)
            ∙ noted_unknown (eqb x line) (is_rival shape x line) (eqb y line))
      ])

-- each entry that is set in the first row is set in the second
record Within (n : ℕ) (first second : List Bool) : Type 0 where
  first_count : length first ≡ n
  second_count : length second ≡ n
  each : (k : ℕ) → is_set_at first k ≡ true → is_set_at second k ≡ true

-- two rows and what came of them
record Three (n : ℕ) (first second third : List Bool) : Type 0 where
  first_count : length first ≡ n
  second_count : length second ≡ n
  third_count : length third ≡ n
  each : (k : ℕ) → is_set_at third k ≡ (is_set_at first k || is_set_at second k)

module _ (lines : List ℕ) (a b c : List Bool) (ra rb rc : List (List Bool))
    (an : length a ≡ length lines) (bn : length b ≡ length lines) (cn : length c ≡ length lines)
    (ran : length ra ≡ length lines) (rbn : length rb ≡ length lines) (rcn : length rc ≡ length lines)
    (sa : All (λ row. length row ≡ length lines) ra) (sb : All (λ row. length row ≡ length lines) rb) (sc : All (λ row. length row ≡ length lines) rc) where
  -- a join
  pub joined_is : ((k : ℕ) → is_set_at c k ≡ (is_set_at a k || is_set_at b k))
      → ((i k : ℕ) → i < length lines → is_set_in rc i k ≡ (is_set_in ra i k || is_set_in rb i k))
      → younger_at lines c rc ≡ younger_joined (younger_at lines a ra) (younger_at lines b rb)
  joined_is p q =
      same_younger (younger_at lines c rc)
      (younger_joined (younger_at lines a ra)
      (younger_at lines b rb))
      (λ x. entry a b c an bn cn p x)
      (λ x y. elim (cases_Bool (is_one_of lines x)) [
        | inl one ↦
            let all = beside_listed (λ _ r s t. Three (length lines) r s t) [] [] [] lines ra rb rc ran rbn rcn
            (λ k lt. record {
              first_count = All-get_or (λ row. length row ≡ length lines) ra k [] (omega arith) sa;
              second_count = All-get_or (λ row. length row ≡ length lines) rb k [] (omega arith) sb;
              third_count = All-get_or (λ row. length row ≡ length lines) rc k [] (omega arith) sc;
              each = λ j. q k j lt;
            }) x one in
            entry (beside [] lines ra x) (beside [] lines rb x) (beside [] lines rc x) all.first_count all.second_count all.third_count all.each y
        | inr none ↦
            ap (λ row. beside false lines row y) (beside_absent [] lines rc x none) ∙ no_row lines y
            ∙ sym (ap (λ row. beside false lines row y || beside false lines (beside [] lines rb x) y) (beside_absent [] lines ra x none)
            ∙ ap (λ row. beside false lines [] y || beside false lines row y) (beside_absent [] lines rb x none)
            ∙ ap (λ t. t || t) (no_row lines y))
      ])
    where
      entry : (r s t : List Bool) → length r ≡ length lines → length s ≡ length lines → length t ≡ length lines
          → ((k : ℕ) → is_set_at t k ≡ (is_set_at r k || is_set_at s k))
          → (x : ℕ) → beside false lines t x ≡ (beside false lines r x || beside false lines s x)
      entry r s t rn sn tn each x = elim (cases_Bool (is_one_of lines x)) [
        | inl one ↦ beside_listed (λ _ u v w. w ≡ (u || v)) false false false lines r s t rn sn tn (λ k lt. each k) x one
        | inr none ↦ beside_absent false lines t x none ∙ sym (ap (λ u. u || beside false lines s x) (beside_absent false lines r x none) ∙ beside_absent false lines s x none)
      ]

  -- whether a second state covers the first: the third is the second again
  pub covered_decided : (r : Bool) (n : ℕ) → n ≡ length lines → AreAscending lines
      → Decides r ((i : ℕ) → i < n → is_set_at a i ≡ true → (is_set_at b i ≡ true) × ((k : ℕ) → is_set_in ra i k ≡ true → is_set_in rb i k ≡ true))
      → Decides r (YoungerCovers (younger_at lines b rb)
      (younger_at lines a ra))
  covered_decided r n count up decides = (
    λ t. record {
      known = λ x known. elim (cases_Bool (is_one_of lines x)) [
        | inl one ↦ beside_listed (λ _ u v _. u ≡ true → v ≡ true) false false false lines a b b an bn bn (λ k lt. λ set. (decides.0 t k (omega arith) set).0) x one known
        | inr none ↦ absurd (false≢true (sym (beside_absent false lines a x none) ∙ known))
      ];
      held = λ x y known held. elim (cases_Bool (is_one_of lines x)) [
        | inl one ↦
            let all = beside_listed (λ _ u v w. u ≡ true → Within (length lines) v w) false [] [] lines a ra rb an ran rbn
            (λ k lt. λ set. record {
              first_count = All-get_or (λ row. length row ≡ length lines) ra k [] (omega arith) sa;
              second_count = All-get_or (λ row. length row ≡ length lines) rb k [] (omega arith) sb;
              each = (decides.0 t k (omega arith) set).1;
            }) x one known in
            elim (cases_Bool (is_one_of lines y)) [
              | inl listed ↦ beside_listed (λ _ u v _. u ≡ true → v ≡ true) false false false lines (beside [] lines ra x) (beside [] lines rb x) (beside [] lines rb x)
                  all.first_count all.second_count all.second_count (λ k lt. all.each k) y listed held
              | inr none ↦ absurd (false≢true (sym (beside_absent false lines (beside [] lines ra x) y none) ∙ held))
            ]
        | inr none ↦ absurd (false≢true (sym (beside_absent false lines a x none) ∙ known))
      ];
    },
    λ covers. decides.1 (λ i lt set.
        let line = get_or lines i 0 in
        let within : i < length lines = omega arith in
        let known : beside false lines a line ≡ true = beside_at false lines a i line up within refl an ∙ set in (
          sym (beside_at false lines b i line up within refl bn) ∙ covers.known line known,
          λ k held. elim (cases_lt k (length lines)) [
            | inl low ↦
                let other = get_or lines k 0 in
                let first : beside false lines (beside [] lines ra line) other ≡ is_set_in ra i k = at_two ra ran sa i k within low in
                let second : beside false lines (beside [] lines rb line) other ≡ is_set_in rb i k = at_two rb rbn sb i k within low in
                sym second ∙ covers.held line other known (first ∙ held)
            | inr high ↦
                let count = All-get_or (λ row. length row ≡ length lines) ra i [] (omega arith) sa in
                absurd (false≢true (sym (get_or_past (get_or ra i []) k false (omega (arith, count))) ∙ held))
          ],
        )),
  )
    where
      at_two : (rows : List (List Bool)) → length rows ≡ length lines → All (λ row. length row ≡ length lines) rows → (i k : ℕ) → i < length lines → k < length lines
          → beside false lines (beside [] lines rows (get_or lines i 0)) (get_or lines k 0) ≡ is_set_in rows i k
      at_two rows rn square i k lt low =
          let row : beside [] lines rows (get_or lines i 0) ≡ get_or rows i [] = beside_at [] lines rows i (get_or lines i 0) up lt refl rn in
          ap (λ one. beside false lines one (get_or lines k 0)) row
          ∙ beside_at false lines (get_or rows i []) k (get_or lines k 0) up low refl (All-get_or (λ row. length row ≡ length lines) rows i [] (omega arith) square)

filter_on : (p q : ℕ → Bool) (xs : List ℕ) → ((k : ℕ) → k < length xs → p (get_or xs k 0) ≡ q (get_or xs k 0)) → filter p xs ≡ filter q xs
filter_on p q [] h = refl
filter_on p q (x ∷ xs) h = ap (λ b. cond b (x ∷ filter p xs) (filter p xs)) (h 0 (omega arith)) ∙ ap (λ rest. cond (q x) (x ∷ rest) rest) (filter_on p q xs (λ k lt. h (suc k) (omega arith)))

-- as many lines of the program are held as entries are set
pub held_count : (lines : List ℕ) (row : List Bool) → AreAscending lines → length row ≡ length lines → length (filter (beside false lines row) lines) ≡ length (filter (λ b. b) row)
held_count [] [] up e = refl
held_count [] (b ∷ row) up e = absurd (omega arith)
held_count (x ∷ lines) [] up e = absurd (omega arith)
held_count (x ∷ lines) (b ∷ row) up e =
    let rest : filter (beside false (x ∷ lines) (b ∷ row)) lines ≡ filter (beside false lines row) lines =
    filter_on (beside false (x ∷ lines) (b ∷ row)) (beside false lines row) lines
    (λ k lt. ap (λ t. cond t b (beside false lines row (get_or lines k 0))) (ne_eqb x (get_or lines k 0) (λ same. omega (arith, up 0 (suc k) 0 (omega arith) (omega arith))))) in
    let before = held_count lines row (λ i j d lt in'. up (suc i) (suc j) d (omega arith) (omega arith)) (omega arith) in
    rw (eq-eqb x x refl, rest) (one b before)
  where
    one : (b : Bool) → length (filter (beside false lines row) lines) ≡ length (filter (λ b. b) row)
        → length (cond b (x ∷ filter (beside false lines row) lines) (filter (beside false lines row) lines)) ≡ length (cond b (b ∷ filter (λ b. b) row) (filter (λ b. b) row))
    one true e = omega arith
    one false e = e

-- whether a line at a place is kept
pub kept_at : (shape : Shape) (lines : List ℕ) (known : List Bool) (rows : List (List Bool)) (line at : ℕ) → AreAscending lines → at < length lines → get_or lines at 0 ≡ line
    → length known ≡ length lines → length rows ≡ length lines → All (λ row. length row ≡ length lines) rows
    → is_kept shape lines (younger_at lines known rows) line ≡ (not (is_set_at known at) || ltb (length (filter (λ b. b) (get_or rows at []))) shape.ways)
kept_at shape lines known rows line at up h e kn rn square =
    let there : beside false lines known line ≡ is_set_at known at = beside_at false lines known at line up h e kn in
    let row : beside [] lines rows line ≡ get_or rows at [] = beside_at [] lines rows at line up h e rn in
    let count = held_count lines (get_or rows at []) up (All-get_or (λ row. length row ≡ length lines) rows at [] (omega arith) square) in
    ap (λ b. not b || ltb (length (filter (beside false lines (beside [] lines rows line)) lines)) shape.ways) there
    ∙ ap (λ one. not (is_set_at known at) || ltb (length (filter (beside false lines one) lines)) shape.ways) row
    ∙ ap (λ n. not (is_set_at known at) || ltb n shape.ways) count

-- a line that is not listed is not known
pub kept_absent : (shape : Shape) (lines : List ℕ) (known : List Bool) (rows : List (List Bool)) (line : ℕ) → is_one_of lines line ≡ false
    → is_kept shape lines (younger_at lines known rows) line ≡ true
kept_absent shape lines known rows line none =
    ap (λ b. not b || ltb (length (filter (beside false lines (beside [] lines rows line)) lines)) shape.ways) (beside_absent false lines known line none)
