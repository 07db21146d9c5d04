-- In one stay the lines that stand before a known line in its set are held for it.
use Rattle.std.proofs.Common.{◌≡◌, ℕ, zero, suc, ◌+◌, ◌<◌, ◌≤◌, Bool, true, false, cond, not, ◌&&◌, ◌||◌, List, [], ◌∷◌, length, take, ◌⊎◌, inl, inr, refl, sym, ap, ◌∙◌, arith, eqb, ltb}
use Rattle.std.proofs.lemmas.Bool.{cases_Bool, cases_lt, eq-eqb, eqb-true, eqb-false, ne_eqb, or_parts, or_left, or_right, false≢true, true≢false, ltb-true, lt-ltb, false_from_ne_true, true_from_ne_false, and_parts, and_from, not_from_false}
use Rattle.std.proofs.lemmas.List.{length-take, take_all}
use Rattle.std.proofs.lemmas.List.Elements.{All-head, All-tail}
use Rattle.std.specs.List.{All, AllByRecursion, filter, IsDistinct}
use Rattle.wx_base.specs.declared.machine.Shape.{Shape}
use Rattle.wx_base.specs.Machine.{IsShape}
use Rattle.wx_base.specs.Cache.{Lines, IsCache, set_of, lines_with, touched, accessed, holds_line}
use Rattle.wx_base.specs.CacheStates.{Younger, younger_start, younger_accessed, is_kept, is_rival}
use Rattle.cache_ages.specs.Bounds.{is_one_of}
use Rattle.cache_ages.proofs.Places.{without}
use Rattle.cache_ages.proofs.Sets.{within, lines_of_same, lines_of_other}
use Rattle.cache_lru.specs.Laws.{AccessKeepsCache}
use Rattle.cache_pers.specs.Stays.{younger_along, cache_along, kept_misses}
use Rattle.cache_pers.specs.Laws.{KeptIsHeld, OneMissPerStay, CoveringKeeps}
use Rattle.cache_pers.proofs.Distinct.{before, before-take, before-without, before-none, weaker, fit_in, one_of_filter, one_of_without, little_shorter}

-- the lines before one line in a set are held, and where it is not there the set is full
record Stands (ways line : ℕ) (held : ℕ → Bool) (xs : List ℕ) : Type 0 where
  younger : AllByRecursion (λ x. held x ≡ true) (before line xs)
  full : is_one_of xs line ≡ false → ways ≤ length xs

-- what is known of one line is so in the cache
record Tells (shape : Shape) (lines : List ℕ) (line : ℕ) (y : Younger) (cache : Lines) : Type 0 where
  cached : IsCache shape cache
  listed : (x : ℕ) → y.held line x ≡ true → is_one_of lines x ≡ true
  known : y.known line ≡ true → Stands shape.ways line (y.held line) (lines_with shape cache line)

-- an access to another line of the set
beside_it : (ways line next : ℕ) (held after : ℕ → Bool) (xs : List ℕ) → (line ≡ next → ⊥) → IsDistinct eqb xs → after next ≡ true → ((x : ℕ) → held x ≡ true → after x ≡ true)
    → Stands ways line held xs → Stands ways line after (touched ways xs next)
beside_it ways line next held after xs ne d here more stands = record {
  younger =
      let apart : eqb next line ≡ false = ne_eqb next line (λ same. ne (sym same)) in
      let rest = before-without (λ x. after x ≡ true) line next xs ne (weaker (λ x. held x ≡ true) (λ x. after x ≡ true) more (before line xs) stands.younger) in
      let all : AllByRecursion (λ x. after x ≡ true) (before line (next ∷ without next xs)) = rw apart (here, rest) in
      before-take (λ x. after x ≡ true) line ways (next ∷ without next xs) all;
  full = λ gone. elim (cases_lt (length (next ∷ without next xs)) ways) [
    | inl short ↦
        let whole : take ways (next ∷ without next xs) ≡ next ∷ without next xs = take_all ways (next ∷ without next xs) (omega arith) in
        let missing : is_one_of (next ∷ without next xs) line ≡ false = rw whole at gone in
        let before_too : is_one_of xs line ≡ false = false_from_ne_true (is_one_of xs line) (λ there.
        true≢false (sym (one_of_without xs next line ne there) ∙ (or_parts (eqb next line) (is_one_of (without next xs) line) missing).1)) in
        absurd (omega (arith, stands.full before_too, little_shorter xs next d))
    | inr long ↦ omega (arith, length-take ways (next ∷ without next xs))
  ];
}

-- an access to the line itself
itself : (ways line next : ℕ) (held : ℕ → Bool) (xs : List ℕ) → 0 < ways → eqb next line ≡ true → Stands ways line held (touched ways xs next)
itself zero line next held xs h e = absurd (omega arith)
itself (suc w) line next held xs h e = record {
  younger = rw e tt;
  full = λ gone. absurd (true≢false (sym (or_left (eqb next line) (is_one_of (take w (without next xs)) line) e) ∙ gone));
}

new_held : (same held known rival here : Bool) → cond same false (held || (known && rival && here)) ≡ true → (held ≡ true) ⊎ (here ≡ true)
new_held true held known rival here h = absurd (false≢true h)
new_held false true known rival here h = inl refl
new_held false false known rival here h = inr (and_parts (known && rival) here h).1

still_held : (same held more : Bool) → same ≡ false → held ≡ true → cond same false (held || more) ≡ true
still_held true held more e h = absurd (true≢false e)
still_held false held more e h = or_left held more h

now_held : (same held known rival here : Bool) → same ≡ false → known ≡ true → rival ≡ true → here ≡ true → cond same false (held || (known && rival && here)) ≡ true
now_held true held known rival here e k r h = absurd (true≢false e)
now_held false held known rival here e k r h = or_right held (known && rival && here) (and_from (known && rival) here (and_from known rival k r) h)

module _ (keeps : AccessKeepsCache) (shape : Shape) (s : IsShape shape) (lines : List ℕ) (line : ℕ) where
  -- an access
  step : (y : Younger) (cache : Lines) (next : ℕ) → is_one_of lines next ≡ true → Tells shape lines line y cache
      → Tells shape lines line (younger_accessed shape y next) (accessed shape cache next)
  step y cache next one tells = elim (cases_Bool (eqb line next)) [
    | inl e ↦
        let same : line ≡ next = eqb-true line next e in
        let is : lines_with shape (accessed shape cache next) line ≡ touched shape.ways (lines_with shape cache line) next
        = lines_of_same shape cache next line s tells.cached (ap (set_of shape) same) in
        record {
          cached = keeps shape cache next s tells.cached;
          listed = λ x. rw e (λ h. absurd (false≢true h));
          known = λ _. rw is (itself shape.ways line next ((younger_accessed shape y next).held line) (lines_with shape cache line) (omega (arith, s.ways)) (eq-eqb next line (sym same)));
        }
    | inr e ↦
        let ne : line ≡ next → ⊥ = eqb-false line next e in
        record {
          cached = keeps shape cache next s tells.cached;
          listed = λ x h. elim (new_held (eqb line next) (y.held line x) (y.known line) (is_rival shape line next) (eqb x next) h) [
            | inl held ↦ tells.listed x held
            | inr here ↦ ap (is_one_of lines) (eqb-true x next here) ∙ one
          ];
          known = λ h. elim (cases_Bool (eqb (set_of shape line) (set_of shape next))) [
            | inl own ↦
                let known : y.known line ≡ true = rw e at h in
                let is : lines_with shape (accessed shape cache next) line ≡ touched shape.ways (lines_with shape cache line) next
                = lines_of_same shape cache next line s tells.cached (eqb-true (set_of shape line) (set_of shape next) own) in
                let one = tells.cached.each (set_of shape line) (omega (arith, within shape cache line s tells.cached, tells.cached.sets)) in
                rw is (beside_it shape.ways line next (y.held line) ((younger_accessed shape y next).held line) (lines_with shape cache line) ne one.different
                (now_held (eqb line next) (y.held line next) (y.known line) (is_rival shape line next) (eqb next next) e known
                (and_from (eqb (set_of shape line) (set_of shape next)) (not (eqb line next)) own (not_from_false (eqb line next) e)) (eq-eqb next next refl))
                (λ x. still_held (eqb line next) (y.held line x) (y.known line && is_rival shape line next && eqb x next) e)
                (tells.known known))
            | inr other ↦
                let known : y.known line ≡ true = rw e at h in
                let is : lines_with shape (accessed shape cache next) line ≡ lines_with shape cache line
                = lines_of_other shape cache next line (eqb-false (set_of shape line) (set_of shape next) other) in
                let old = tells.known known in
                rw is (record {
                  younger = weaker (λ x. y.held line x ≡ true) (λ x. (younger_accessed shape y next).held line x ≡ true)
                      (λ x. still_held (eqb line next) (y.held line x) (y.known line && is_rival shape line next && eqb x next) e) (before line (lines_with shape cache line)) old.younger;
                  full = old.full;
                })
          ];
        }
  ]

  -- a list of accesses
  along : (y : Younger) (cache : Lines) (accesses : List ℕ) → All (λ next. is_one_of lines next ≡ true) accesses → Tells shape lines line y cache
      → Tells shape lines line (younger_along shape y accesses) (cache_along shape cache accesses)
  along y cache [] all tells = tells
  along y cache (next ∷ accesses) all tells =
      along (younger_accessed shape y next) (accessed shape cache next) accesses (All-tail (λ next. is_one_of lines next ≡ true) next accesses all)
      (step y cache next (All-head (λ next. is_one_of lines next ≡ true) next accesses all) tells)

  listed_held : (held : ℕ → Bool) (xs : List ℕ) → ((x : ℕ) → held x ≡ true → is_one_of lines x ≡ true) → AllByRecursion (λ x. held x ≡ true) xs
      → AllByRecursion (λ x. is_one_of (filter held lines) x ≡ true) xs
  listed_held held xs listed all = weaker (λ x. held x ≡ true) (λ x. is_one_of (filter held lines) x ≡ true) (λ x h. one_of_filter held lines x h (listed x h)) xs all

  -- a known line that is kept is in the cache
  there : (y : Younger) (cache : Lines) → Tells shape lines line y cache → y.known line ≡ true → is_kept shape lines y line ≡ true → holds_line shape cache line ≡ true
  there y cache tells known kept = true_from_ne_false (holds_line shape cache line) (λ gone.
      let stands = tells.known known in
      let all = before-none (λ x. y.held line x ≡ true) line (lines_with shape cache line) gone stands.younger in
      let one = tells.cached.each (set_of shape line) (omega (arith, within shape cache line s tells.cached, tells.cached.sets)) in
      let few : ltb (length (filter (y.held line) lines)) shape.ways ≡ true = rw known at kept in
      omega (
        arith,
        stands.full gone,
        ltb-true (length (filter (y.held line) lines)) shape.ways few,
        fit_in (lines_with shape cache line) (filter (y.held line) lines) one.different (listed_held (y.held line) (lines_with shape cache line) tells.listed all),
      ))

  -- once the line is known, it does not miss where it is kept
  none : (y : Younger) (cache : Lines) (accesses : List ℕ) → All (λ next. is_one_of lines next ≡ true) accesses → Tells shape lines line y cache
      → y.known line ≡ true → kept_misses shape lines line y cache accesses ≡ 0
  none y cache [] all tells known = refl
  none y cache (next ∷ accesses) all tells known =
      let rest = none (younger_accessed shape y next) (accessed shape cache next) accesses (All-tail (λ next. is_one_of lines next ≡ true) next accesses all)
      (step y cache next (All-head (λ next. is_one_of lines next ≡ true) next accesses all) tells) (or_right (eqb line next) (y.known line) known) in
      let hits : (eqb next line && is_kept shape lines y line && not (holds_line shape cache line)) ≡ false =
      false_from_ne_true _ (λ missed.
      let parts = and_parts (eqb next line && is_kept shape lines y line) (not (holds_line shape cache line)) missed in
      let held = there y cache tells known (and_parts (eqb next line) (is_kept shape lines y line) parts.0).1 in
      false≢true (rw held at parts.1)) in
      rw hits (omega (arith, rest))

  -- at most one access misses where the line is kept
  at_most_one : (y : Younger) (cache : Lines) (accesses : List ℕ) → All (λ next. is_one_of lines next ≡ true) accesses → Tells shape lines line y cache
      → kept_misses shape lines line y cache accesses ≤ 1
  at_most_one y cache [] all tells = omega arith
  at_most_one y cache (next ∷ accesses) all tells =
      let next_one = All-head (λ next. is_one_of lines next ≡ true) next accesses all in
      let others = All-tail (λ next. is_one_of lines next ≡ true) next accesses all in
      elim (cases_Bool (eqb next line)) [
        | inl e ↦
            let known : (eqb line next || y.known line) ≡ true = or_left (eqb line next) (y.known line) (eq-eqb line next (sym (eqb-true next line e))) in
            let rest = none (younger_accessed shape y next) (accessed shape cache next) accesses others (step y cache next next_one tells) known in
            first (eqb next line && is_kept shape lines y line && not (holds_line shape cache line)) rest
        | inr e ↦ rw e (omega (arith, at_most_one (younger_accessed shape y next) (accessed shape cache next) accesses others (step y cache next next_one tells)))
      ]
    where
      first : (b : Bool) {n : ℕ} → n ≡ 0 → cond b 1 0 + n ≤ 1
      first true e = omega arith
      first false e = omega arith

  -- where a stay begins nothing is known
  begin : (cache : Lines) → IsCache shape cache → Tells shape lines line younger_start cache
  begin cache c = record {
    cached = c;
    listed = λ x h. absurd (false≢true h);
    known = λ h. absurd (false≢true h);
  }

pub kept_is_held : AccessKeepsCache → KeptIsHeld
kept_is_held keeps shape lines cache accesses line s c all known kept =
    there keeps shape s lines line (younger_along shape younger_start accesses) (cache_along shape cache accesses)
    (along keeps shape s lines line younger_start cache accesses all (begin keeps shape s lines line cache c)) known kept

pub one_miss : AccessKeepsCache → OneMissPerStay
one_miss keeps shape lines cache accesses line s c all = at_most_one keeps shape s lines line younger_start cache accesses all (begin keeps shape s lines line cache c)

-- fewer lines are held for a line in a state that is covered
fewer : (test other : ℕ → Bool) (xs : List ℕ) → ((x : ℕ) → other x ≡ true → test x ≡ true) → length (filter other xs) ≤ length (filter test xs)
fewer test other [] more = omega arith
fewer test other (x ∷ xs) more = elim (cases_Bool (other x)) [
  | inl e ↦ rw (e, more x e) (omega (arith, fewer test other xs more))
  | inr e ↦ elim (cases_Bool (test x)) [
    | inl t ↦ rw (e, t) (omega (arith, fewer test other xs more))
    | inr t ↦ rw (e, t) (fewer test other xs more)
  ]
]

pub covering_keeps : CoveringKeeps
covering_keeps shape lines covering covered line covers kept = elim (cases_Bool (covered.known line)) [
  | inr e ↦ rw e refl
  | inl e ↦
      let known : covering.known line ≡ true = covers.known line e in
      let few : ltb (length (filter (covering.held line) lines)) shape.ways ≡ true = rw known at kept in
      rw e (lt-ltb (length (filter (covered.held line) lines)) shape.ways
      (omega (arith, ltb-true (length (filter (covering.held line) lines)) shape.ways few, fewer (covering.held line) (covered.held line) lines (λ x. covers.held line x e))))
]
