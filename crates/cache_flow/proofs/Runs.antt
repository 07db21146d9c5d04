-- Solutions hold along every run.
use Rattle.std.proofs.Common.{◌≡◌, ℕ, zero, suc, ◌<◌, true, false, List, [], ◌∷◌, ◌++◌, length, get_or, take, inl, inr, refl, sym, arith, eqb}
use Rattle.std.proofs.lemmas.Bool.{cases_lt, eq-eqb, or_left, or_right}
use Rattle.std.proofs.lemmas.List.{get_or_past}
use Rattle.std.proofs.lemmas.List.Elements.{All-append, All-get_or, All-nil, All-take}
use Rattle.std.specs.List.{All}
use Rattle.wx_base.specs.declared.machine.Shape.{Shape}
use Rattle.wx_base.specs.Machine.{IsShape}
use Rattle.wx_base.specs.Cache.{Lines, IsCache, accessed, holds_line}
use Rattle.wx_base.specs.CacheStates.{Ages, must_accessed, MustCovers, MustCoversCache, may_accessed, MayCovers, MayCoversCache, Younger, younger_start, younger_accessed, YoungerCovers, is_kept}
use Rattle.cache_lru.specs.Laws.{AccessKeepsCache}
use Rattle.cache_ages.specs.Bounds.{is_one_of}
use Rattle.cache_ages.specs.Laws.{MustAccessCovers, MustHoldsLine, MayAccessCovers, MayBarsLine}
use Rattle.cache_pers.specs.Laws.{CoveringKeeps, KeptIsHeld, YoungerAccessKeepsOrder}
use Rattle.cache_pers.specs.Stays.{cache_along, younger_along}
use Rattle.cache_flow.specs.declared.flow.Flow.{Flow}
use Rattle.cache_flow.specs.Flows.{Part, IsFlow, Comes, Stays, accesses_of}
use Rattle.cache_flow.specs.Flows.Comes.{starts, goes}
use Rattle.cache_flow.specs.Flows.Stays.{enters, goes as goes_on}
use Rattle.cache_flow.specs.Solutions.{must_along, may_along, IsMustSolution, IsMaySolution, IsYoungerSolution}
use Rattle.cache_flow.specs.Laws.{MustSolutionsHold, MaySolutionsHold, YoungerSolutionsHold, HeldLinesAreThere, BarredLinesAreAbsent, KeptInStays}

-- ---- one list of accesses behind another

cache_append : (shape : Shape) (cache : Lines) (xs ys : List ℕ) → cache_along shape cache (xs ++ ys) ≡ cache_along shape (cache_along shape cache xs) ys
cache_append shape cache [] ys = refl
cache_append shape cache (x ∷ xs) ys = cache_append shape (accessed shape cache x) xs ys

younger_append : (shape : Shape) (younger : Younger) (xs ys : List ℕ) → younger_along shape younger (xs ++ ys) ≡ younger_along shape (younger_along shape younger xs) ys
younger_append shape younger [] ys = refl
younger_append shape younger (x ∷ xs) ys = younger_append shape (younger_accessed shape younger x) xs ys

-- ---- a list of accesses

module _ (keeps : AccessKeepsCache) (shape : Shape) (s : IsShape shape) where
  cached : (cache : Lines) (xs : List ℕ) → IsCache shape cache → IsCache shape (cache_along shape cache xs)
  cached cache [] c = c
  cached cache (x ∷ xs) c = cached (accessed shape cache x) xs (keeps shape cache x s c)

  must_run : MustAccessCovers → (ages : Ages) (cache : Lines) (xs : List ℕ) → IsCache shape cache → MustCoversCache shape ages cache
      → MustCoversCache shape (must_along shape ages xs) (cache_along shape cache xs)
  must_run covers ages cache [] c h = h
  must_run covers ages cache (x ∷ xs) c h =
      must_run covers (must_accessed shape ages x) (accessed shape cache x) xs (keeps shape cache x s c) (covers shape ages cache x s c h)

  may_run : MayAccessCovers → (ages : Ages) (cache : Lines) (xs : List ℕ) → IsCache shape cache → MayCoversCache shape ages cache
      → MayCoversCache shape (may_along shape ages xs) (cache_along shape cache xs)
  may_run covers ages cache [] c h = h
  may_run covers ages cache (x ∷ xs) c h =
      may_run covers (may_accessed shape ages x) (accessed shape cache x) xs (keeps shape cache x s c) (covers shape ages cache x s c h)

younger_run : YoungerAccessKeepsOrder → (shape : Shape) (covering covered : Younger) (xs : List ℕ) → YoungerCovers covering covered
    → YoungerCovers (younger_along shape covering xs) (younger_along shape covered xs)
younger_run order shape covering covered [] h = h
younger_run order shape covering covered (x ∷ xs) h =
    younger_run order shape (younger_accessed shape covering x) (younger_accessed shape covered x) xs (order shape covering covered x h)

younger_trans : (a b c : Younger) → YoungerCovers a b → YoungerCovers b c → YoungerCovers a c
younger_trans a b c p q = record {
  known = λ line h. p.known line (q.known line h);
  held = λ line other known held. p.held line other (q.known line known) (q.held line other known held);
}

must_over : (shape : Shape) (a b : Ages) (cache : Lines) → MustCovers a b → MustCoversCache shape b cache → MustCoversCache shape a cache
must_over shape a b cache p h = record {
  each = λ line lt. let there = h.each line (omega (arith, p.each line)) in (there.0, omega (arith, there.1, p.each line), there.2);
}

may_over : (shape : Shape) (a b : Ages) (cache : Lines) → MayCovers a b → MayCoversCache shape b cache → MayCoversCache shape a cache
may_over shape a b cache p h = record { each = λ line place at. omega (arith, p.each line, h.each line place at) }

-- ---- runs

module _ (keeps : AccessKeepsCache) (shape : Shape) (flow : Flow) (cache : Lines) (s : IsShape shape) (c : IsCache shape cache) where
  must_holds_at : MustAccessCovers → (states : ℕ → Ages) → IsMustSolution shape flow states → (node : ℕ) (xs : List ℕ) → Comes flow node xs
      → MustCoversCache shape (states node) (cache_along shape cache xs)
  must_holds_at covers states sol node xs starts = record { each = λ line lt. absurd (omega (arith, sol.start.each line)) }
  must_holds_at covers states sol node xs (goes move before has there) =
      let old = must_holds_at covers states sol move.from before there in
      let new = must_run keeps shape s covers (states move.from) (cache_along shape cache before) (accesses_of flow move.from) (cached keeps shape s cache before c) old in
      rw (cache_append shape cache before (accesses_of flow move.from))
      (must_over shape (states move.to) (must_along shape (states move.from) (accesses_of flow move.from))
      (cache_along shape (cache_along shape cache before) (accesses_of flow move.from)) (sol.moves move has) new)

  may_holds_at : MayAccessCovers → (states : ℕ → Ages) → IsMaySolution shape flow states → (node : ℕ) (xs : List ℕ) → Comes flow node xs
      → MayCoversCache shape (states node) (cache_along shape cache xs)
  may_holds_at covers states sol node xs starts = record { each = λ line place at. omega (arith, sol.start.each line) }
  may_holds_at covers states sol node xs (goes move before has there) =
      let old = may_holds_at covers states sol move.from before there in
      let new = may_run keeps shape s covers (states move.from) (cache_along shape cache before) (accesses_of flow move.from) (cached keeps shape s cache before c) old in
      rw (cache_append shape cache before (accesses_of flow move.from))
      (may_over shape (states move.to) (may_along shape (states move.from) (accesses_of flow move.from))
      (cache_along shape (cache_along shape cache before) (accesses_of flow move.from)) (sol.moves move has) new)

younger_holds_at : YoungerAccessKeepsOrder → (shape : Shape) (flow : Flow) (part : Part) (states : ℕ → Younger) → IsYoungerSolution shape flow part states
    → (node : ℕ) (xs : List ℕ) → Stays flow part node xs → YoungerCovers (states node) (younger_along shape younger_start xs)
younger_holds_at order shape flow part states sol node xs enters = sol.head
younger_holds_at order shape flow part states sol node xs (goes_on move before has from to there) =
    let old = younger_holds_at order shape flow part states sol move.from before there in
    let new = younger_run order shape (states move.from) (younger_along shape younger_start before) (accesses_of flow move.from) old in
    rw (younger_append shape younger_start before (accesses_of flow move.from))
    (younger_trans (states move.to) (younger_along shape (states move.from) (accesses_of flow move.from))
    (younger_along shape (younger_along shape younger_start before) (accesses_of flow move.from)) (sol.moves move has from to) new)

pub must_solutions : AccessKeepsCache → MustAccessCovers → MustSolutionsHold
must_solutions keeps covers shape flow states node xs cache s c sol there = must_holds_at keeps shape flow cache s c covers states sol node xs there

pub may_solutions : AccessKeepsCache → MayAccessCovers → MaySolutionsHold
may_solutions keeps covers shape flow states node xs cache s c sol there = may_holds_at keeps shape flow cache s c covers states sol node xs there

pub younger_solutions : YoungerAccessKeepsOrder → YoungerSolutionsHold
younger_solutions order shape flow part states node xs sol there = younger_holds_at order shape flow part states sol node xs there

pub held_lines : AccessKeepsCache → MustAccessCovers → MustHoldsLine → HeldLinesAreThere
held_lines keeps must holds shape flow states node place line xs cache s c sol there h =
    let part = take place (accesses_of flow node) in
    let old = must_holds_at keeps shape flow cache s c must states sol node xs there in
    let new = must_run keeps shape s must (states node) (cache_along shape cache xs) part (cached keeps shape s cache xs c) old in
    rw (cache_append shape cache xs part) (holds shape (must_along shape (states node) part) (cache_along shape (cache_along shape cache xs) part) line new h)

pub barred_lines : AccessKeepsCache → MayAccessCovers → MayBarsLine → BarredLinesAreAbsent
barred_lines keeps may bars shape flow states node place line xs cache s c sol there h =
    let part = take place (accesses_of flow node) in
    let old = may_holds_at keeps shape flow cache s c may states sol node xs there in
    let new = may_run keeps shape s may (states node) (cache_along shape cache xs) part (cached keeps shape s cache xs c) old in
    rw (cache_append shape cache xs part) (bars shape (may_along shape (states node) part) (cache_along shape (cache_along shape cache xs) part) line s
    (cached keeps shape s (cache_along shape cache xs) part (cached keeps shape s cache xs c)) new h)

-- ---- stays

-- what is known stays so
known_stays : (shape : Shape) (younger : Younger) (xs : List ℕ) (line : ℕ) → younger.known line ≡ true → (younger_along shape younger xs).known line ≡ true
known_stays shape younger [] line h = h
known_stays shape younger (x ∷ xs) line h =
    known_stays shape (younger_accessed shape younger x) xs line (or_right (eqb line x) (younger.known line) h)

-- what was accessed is known
known_at : (shape : Shape) (younger : Younger) (xs : List ℕ) (k line : ℕ) → k < length xs → get_or xs k line ≡ line
    → (younger_along shape younger xs).known line ≡ true
known_at shape younger [] k line h e = absurd (omega arith)
known_at shape younger (x ∷ xs) zero line h e =
    known_stays shape (younger_accessed shape younger x) xs line (or_left (eqb line x) (younger.known line) (eq-eqb line x (sym e)))
known_at shape younger (x ∷ xs) (suc k) line h e = known_at shape (younger_accessed shape younger x) xs k line (omega arith) e

-- the accesses of nodes and of stays are to the flow's lines
abbrev AreListed : Flow → List ℕ → Type 0
AreListed flow xs = All (λ line. is_one_of flow.lines line ≡ true) xs

pub listed_at : (flow : Flow) (node : ℕ) → IsFlow flow → AreListed flow (accesses_of flow node)
listed_at flow node is = elim (cases_lt node (length flow.nodes)) [
  | inl h ↦ All-get_or (λ accesses. AreListed flow accesses) flow.nodes node [] h is.listed
  | inr h ↦ rw (get_or_past flow.nodes node [] h) (All-nil (λ line. is_one_of flow.lines line ≡ true))
]

stay_listed : (flow : Flow) (part : Part) (node : ℕ) (xs : List ℕ) → IsFlow flow → Stays flow part node xs → AreListed flow xs
stay_listed flow part node xs is enters = All-nil (λ line. is_one_of flow.lines line ≡ true)
stay_listed flow part node xs is (goes_on move before has from to there) =
    All-append (λ line. is_one_of flow.lines line ≡ true) before (accesses_of flow move.from) (stay_listed flow part move.from before is there)
    (listed_at flow move.from is)

pub kept_in_stays : CoveringKeeps → YoungerAccessKeepsOrder → KeptIsHeld → KeptInStays
kept_in_stays keeps order held shape flow part states node place line xs cache s c is sol there kept has =
    let more = take place (accesses_of flow node) in
    let covers = younger_run order shape (states node) (younger_along shape younger_start xs) more (younger_holds_at order shape flow part states sol node xs there) in
    let listed = All-append (λ line. is_one_of flow.lines line ≡ true) xs more (stay_listed flow part node xs is there)
    (All-take (λ line. is_one_of flow.lines line ≡ true) place (accesses_of flow node) (listed_at flow node is)) in
    let low = keeps shape flow.lines (younger_along shape (states node) more) (younger_along shape (younger_along shape younger_start xs) more) line covers kept in
    held shape flow.lines cache (xs ++ more) line s c listed (known_at shape younger_start (xs ++ more) has.0 line has.1 has.2)
    (rw (younger_append shape younger_start xs more) low)
