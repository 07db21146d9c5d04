-- In a stay the events of a group miss once at most, since behind the first such access the line is there.
use Rattle.std.proofs.Common.{◌≡◌, ℕ, ◌+◌, ◌≤◌, Bool, true, not, cond, ◌&&◌, ◌==◌, List, [], ◌∷◌, ◌++◌, length, take, slice_get, ◌⊎◌, refl, sym, ap, subst, ◌∙◌, inl, inr, arith, append_assoc, length-append}
use Rattle.std.specs.Prelude.{Contains, Some, slice_index_or}
use Rattle.std.specs.List.{cons_option}
use Rattle.std.proofs.lemmas.Bool.{cases_Bool, and_parts, eqb-true, false≢true}
use Rattle.std.proofs.lemmas.List.Elements.{Contains-append_left, Contains-append_right, filter_map-append}
use Rattle.std.proofs.lemmas.List.Sums.{sum_by-cons}
use Rattle.std.proofs.lemmas.Option.{get_or_from_slice_get}
use Rattle.wx_base.specs.declared.machine.Machine.{Machine}
use Rattle.wx_base.specs.Cache.{Lines, IsCache, holds_line}
use Rattle.wx_base.specs.Machine.{IsShape}
use Rattle.flow_block.specs.declared.block.Slot.{Slot}
use Rattle.flow_block.specs.declared.block.SlotKind.{SlotKind}
use Rattle.flow_block.specs.declared.block.SlotKind.TheVariants.{Fetch, Multiply, Data}
use Rattle.flow_ctx.specs.declared.scope.Scope.{Scope}
use Rattle.flow_ctx.specs.declared.scope.Scope.TheVariants.{Run, Loop}
use Rattle.flow_ctx.specs.declared.unfolded.Unfolded.{Unfolded}
use Rattle.cache_pers.specs.Stays.{cache_along}
use Rattle.cache_flow.specs.Flows.{IsFlow, Stays, accesses_of}
use Rattle.cache_flow.specs.Laws.{KeptInStays}
use Rattle.cache_class.specs.declared.class.Class.{Class}
use Rattle.cache_class.specs.declared.class.Class.TheVariants.{AlwaysHit, AlwaysMiss, FirstMiss, Open}
use Rattle.cache_class.specs.declared.class.Classes.{Classes}
use Rattle.cache_class.specs.Accesses.{fetched, fetched_by, lines_fetched, part_of}
use Rattle.cache_class.specs.Classes.{AreClasses, IsClass, IsKeptIn, IsKindClass}
use Rattle.cache_class.specs.Classes.IsClass.{hits, misses, first, opens}
use Rattle.class_laws.specs.Visits.{Visit, is_first_in, is_of_group, is_scope, misses_from, misses_in, visit_misses}
use Rattle.class_laws.proofs.Allowed.{HasClasses, has_classes}
use Rattle.class_laws.proofs.Caches.{cache_append, decided, outcome_of}
use Rattle.class_laws.proofs.Flows.{accesses_before}
use Rattle.class_laws.proofs.Lists.{at_seam, take_seam}
use Rattle.class_laws.proofs.Visited.{IsVisited}

-- ---- which events are of a group

same_scope : (a b : Scope) → is_scope a b ≡ true → a ≡ b
same_scope Run Run e = refl
same_scope Run (Loop m) e = absurd (false≢true e)
same_scope (Loop n) Run e = absurd (false≢true e)
same_scope (Loop n) (Loop m) e = ap (λ k. Loop k) (eqb-true n m e)

first_in : (class : Class) (scope : Scope) → is_first_in class scope ≡ true → class ≡ FirstMiss scope
first_in AlwaysHit scope e = absurd (false≢true e)
first_in AlwaysMiss scope e = absurd (false≢true e)
first_in (FirstMiss other) scope e = ap (λ s. FirstMiss s) (same_scope other scope e)
first_in Open scope e = absurd (false≢true e)

of_group : (kind : SlotKind) (class : Class) (line : ℕ) (scope : Scope) → is_of_group kind class line scope ≡ true → (kind ≡ Fetch line) × (class ≡ FirstMiss scope)
of_group (Fetch other) class line scope e =
    let both = and_parts (other == line) (is_first_in class scope) e in
    (ap (λ l. Fetch l) (eqb-true other line both.0), first_in class scope both.1)
of_group Multiply class line scope e = absurd (false≢true e)
of_group Data class line scope e = absurd (false≢true e)

scope_of : Class → Scope
scope_of AlwaysHit = Run
scope_of AlwaysMiss = Run
scope_of (FirstMiss scope) = scope
scope_of Open = Run

-- ---- at most one

-- none of the accesses so far to a line missed, or one did, and the line was accessed
abbrev pub Counted : List ℕ → ℕ → ℕ → Type 0
Counted accesses line count = (count ≡ 0) ⊎ ((count ≡ 1) × Contains accesses line)

pub once_at_most : (accesses : List ℕ) (line count : ℕ) → Counted accesses line count → count ≤ 1
once_at_most accesses line count (inl e) = omega arith
once_at_most accesses line count (inr h) = omega (arith, h.0)

more_accesses : (xs ys : List ℕ) (line count : ℕ) → Counted xs line count → Counted (xs ++ ys) line count
more_accesses xs ys line count (inl e) = inl e
more_accesses xs ys line count (inr h) = inr (h.0, Contains-append_left xs ys line h.1)

-- a first miss
first_one : (xs : List ℕ) (line count : ℕ) → (Contains xs line → ⊥) → Counted xs line count → Counted (xs ++ line ∷ []) line (1 + count)
first_one xs line count fresh (inl e) = inr (omega arith, Contains-append_right xs (line ∷ []) line (0, omega arith, refl))
first_one xs line count fresh (inr h) = absurd (fresh h.1)

reordered : (a b m : ℕ) → b + (a + m) ≡ a + b + m
reordered a b m = omega arith

nothing_more : (m : ℕ) → m ≡ 0 + m
nothing_more m = omega arith

module _ (kept_law : KeptInStays) (u : Unfolded) (machine : Machine) (table : Classes) (are : AreClasses u machine table) (shape : IsShape machine.shape) (flows : IsFlow are.flow) where
  -- a run is in a stay of a scope: since it began the accesses were these, and with them its visits and their misses
  pub record InStay (scope : Scope) (visits : List Visit) (node : ℕ) (cache : Lines) : Type 0 where
    pub accesses : List ℕ
    pub begin : Lines
    pub is_cache : IsCache machine.shape begin
    pub stays : Stays are.flow (part_of u scope) node accesses
    pub now : cache ≡ cache_along machine.shape begin accesses
    pub counted : (line : ℕ) → Counted accesses line (misses_in table line scope visits)

  kept_of : (node place line : ℕ) (class : Class) (scope : Scope) → class ≡ FirstMiss scope → IsClass machine.shape u are.flow node place line class
      → IsKeptIn machine.shape u are.flow node place line scope
  unfolding scope_of
  kept_of node place line class scope e (hits h) = absurd cc
  kept_of node place line class scope e (misses h m) = absurd cc
  kept_of node place line class scope e (first other h m kept outer) = subst (λ s. IsKeptIn machine.shape u are.flow node place line s) (ap scope_of e) kept
  kept_of node place line class scope e (opens h m never) = absurd cc

  -- an event of the group at a visit, with what its class tells
  pub kept_at : (begun : Lines) (scope : Scope) (node : ℕ) (cache : Lines) (visit : Visit) (is : IsVisited u machine begun cache node visit) (line number : ℕ) (event : Slot) (class : Class)
      → (has : HasClasses u machine table are node visit.block)
      → slice_get visit.block.slots number ≡ Some event → slice_get has.kinds number ≡ Some class → is_of_group event.kind class line scope ≡ true
      → IsKeptIn machine.shape u are.flow node (length (lines_fetched (take number visit.block.slots))) line scope
  kept_at begun scope node cache visit is line number event class has stands kind e =
      let group = of_group event.kind class line scope e in
      let told = has.are_of.each number event class stands kind in
      let fetch : IsKindClass machine u are.flow node visit.block.slots number (Fetch line) class =
      subst (λ (k : SlotKind). IsKindClass machine u are.flow node visit.block.slots number k class) group.0 told in
      kept_of node (length (lines_fetched (take number visit.block.slots))) line class scope group.1 fetch

  module _ (begun : Lines) (scope : Scope) (visits : List Visit) (node : ℕ) (cache : Lines) (stay : InStay scope visits node cache)
      (visit : Visit) (is : IsVisited u machine begun cache node visit) (line : ℕ) (has : HasClasses u machine table are node visit.block) where
    -- where an event of the group misses, the line was not accessed before in the stay
    fresh_line : (front : List Slot) (event : Slot) (rest : List Slot) (class : Class) → visit.block.slots ≡ front ++ event ∷ rest → slice_get has.kinds (length front) ≡ Some class
        → is_of_group event.kind class line scope ≡ true → visit.outcomes (length front) ≡ true → Contains (stay.accesses ++ lines_fetched front) line → ⊥
    fresh_line front event rest class e kind grouped missed there =
        let number = length front in
        let stands : slice_get visit.block.slots number ≡ Some event = ap (λ (s : List Slot). slice_get s number) e ∙ at_seam front event rest in
        let before : take number visit.block.slots ≡ front = ap (take number) e ∙ take_seam front (event ∷ rest) in
        let place = length (lines_fetched (take number visit.block.slots)) in
        let kept = kept_at begun scope node cache visit is line number event class has stands kind grouped in
        let accesses : take place (accesses_of are.flow node) ≡ lines_fetched front = accesses_before u are.flow are.of node visit.block number is.is ∙ ap lines_fetched before in
        let held : holds_line machine.shape (cache_along machine.shape stay.begin (stay.accesses ++ take place (accesses_of are.flow node))) line ≡ true =
        kept_law machine.shape are.flow (part_of u scope) kept.kept.states node place line stay.accesses stay.begin shape stay.is_cache flows kept.kept.solution stay.stays kept.kept.kept
        (subst (λ xs. Contains (stay.accesses ++ xs) line) (sym accesses) there) in
        let same : cache_along machine.shape stay.begin (stay.accesses ++ take place (accesses_of are.flow node)) ≡ cache_along machine.shape cache (lines_fetched front) =
        ap (λ xs. cache_along machine.shape stay.begin (stay.accesses ++ xs)) accesses
        ∙ cache_append machine.shape stay.begin stay.accesses (lines_fetched front)
        ∙ ap (λ (l : Lines). cache_along machine.shape l (lines_fetched front)) (sym stay.now) in
        let outcome : visit.outcomes number ≡ decided machine.shape (cache_along machine.shape cache (lines_fetched front)) is.slow event.at event.kind =
        ap (λ (f : ℕ → Bool). f number) is.come ∙ (λ i. outcome_of machine.shape cache is.slow (before i) (stands i)) in
        let miss : not (holds_line machine.shape (cache_along machine.shape cache (lines_fetched front)) line) ≡ true =
        sym (outcome ∙ ap (λ (k : SlotKind). decided machine.shape (cache_along machine.shape cache (lines_fetched front)) is.slow event.at k) (of_group event.kind class line scope grouped).0) ∙ missed in
        false≢true (ap not (sym held ∙ ap (λ (l : Lines). holds_line machine.shape l line) same) ∙ miss)

    -- the accesses of the stay, with so many of the node's events
    abbrev accesses_with : List Slot → List ℕ
    accesses_with front = stay.accesses ++ lines_fetched front

    longer : (front rest : List Slot) → accesses_with (front ++ rest) ≡ accesses_with front ++ lines_fetched rest
    longer front rest = ap (λ xs. stay.accesses ++ xs) (filter_map-append fetched front rest) ∙ sym (append_assoc stay.accesses (lines_fetched front) (lines_fetched rest))

    fetches_line : (event : Slot) → event.kind ≡ Fetch line → lines_fetched (event ∷ []) ≡ line ∷ []
    fetches_line event e = ap (λ (k : SlotKind). cons_option (fetched_by k) []) e

    one_event : (front : List Slot) (event : Slot) (rest : List Slot) (class : Class) (count : ℕ) → visit.block.slots ≡ front ++ event ∷ rest → slice_get has.kinds (length front) ≡ Some class
        → Counted (accesses_with front) line count
        → Counted (accesses_with (front ++ event ∷ [])) line (cond (visit.outcomes (length front) && is_of_group event.kind class line scope) 1 0 + count)
    one_event front event rest class count e kind counted = elim (cases_Bool (visit.outcomes (length front) && is_of_group event.kind class line scope)) [
      | inl on ↦
          let both = and_parts (visit.outcomes (length front)) (is_of_group event.kind class line scope) on in
          let group = of_group event.kind class line scope both.1 in
          rw on (subst (λ xs. Counted xs line (1 + count)) (sym (longer front (event ∷ []) ∙ ap (λ xs. accesses_with front ++ xs) (fetches_line event group.0)))
          (first_one (accesses_with front) line count (fresh_line front event rest class e kind both.1 both.0) counted))
      | inr off ↦
          rw off (subst (λ n. Counted (accesses_with (front ++ event ∷ [])) line n) (nothing_more count)
          (subst (λ xs. Counted xs line count) (sym (longer front (event ∷ []))) (more_accesses (accesses_with front) (lines_fetched (event ∷ [])) line count counted)))
    ]

    done : (front rest : List Slot) (count : ℕ) → visit.block.slots ≡ front ++ rest → Counted (accesses_with front) line count → Counted (accesses_with visit.block.slots) line (0 + count)
    done front rest count e counted =
        subst (λ n. Counted (accesses_with visit.block.slots) line n) (nothing_more count)
        (subst (λ xs. Counted xs line count) (sym (ap accesses_with e ∙ longer front rest)) (more_accesses (accesses_with front) (lines_fetched rest) line count counted))

    all_events : (front rest : List Slot) (classes more : List Class) (count : ℕ) → visit.block.slots ≡ front ++ rest → has.kinds ≡ classes ++ more → length classes ≡ length front
        → Counted (accesses_with front) line count → Counted (accesses_with visit.block.slots) line (misses_from line scope visit.outcomes (length front) rest more + count)
    all_events front [] classes more count e k same counted = done front [] count e counted
    all_events front (event ∷ rest) classes [] count e k same counted = done front (event ∷ rest) count e counted
    all_events front (event ∷ rest) classes (class ∷ more) count e k same counted =
        let here : slice_get has.kinds (length front) ≡ Some class = (λ i. slice_get (k i) (sym same i)) ∙ at_seam classes class more in
        let bit : ℕ = cond (visit.outcomes (length front) && is_of_group event.kind class line scope) 1 0 in
        let next : length (front ++ event ∷ []) ≡ length front + 1 = length-append front (event ∷ []) in
        subst (λ n. Counted (accesses_with visit.block.slots) line n)
        (ap (λ n. misses_from line scope visit.outcomes n rest more + (bit + count)) next ∙ reordered bit (misses_from line scope visit.outcomes (length front + 1) rest more) count)
        (all_events (front ++ event ∷ []) rest (classes ++ class ∷ []) more (bit + count) (e ∙ sym (append_assoc front (event ∷ []) rest)) (k ∙ sym (append_assoc classes (class ∷ []) more))
        (length-append classes (class ∷ []) ∙ ap (λ n. n + 1) same ∙ sym next) (one_event front event rest class count e here counted))

    pub counted_with : Counted (stay.accesses ++ lines_fetched visit.block.slots) line (misses_in table line scope (visit ∷ visits))
    counted_with =
        let kinds : slice_index_or table.slots visit.node [] ≡ has.kinds = get_or_from_slice_get table.slots visit.node has.kinds [] (ap (slice_get table.slots) is.here ∙ has.stands) in
        let none_yet : Counted (accesses_with []) line (misses_in table line scope visits) = subst (λ xs. Counted xs line (misses_in table line scope visits)) (nothing_behind stay.accesses) (stay.counted line) in
        subst (λ n. Counted (accesses_with visit.block.slots) line n)
        (sym (sum_by-cons (λ v. visit_misses table line scope v) visit visits ∙ ap (λ (ks : List Class). misses_from line scope visit.outcomes 0 visit.block.slots ks + misses_in table line scope visits) kinds))
        (all_events [] visit.block.slots [] has.kinds (misses_in table line scope visits) refl refl refl none_yet)
      where
        nothing_behind : (xs : List ℕ) → xs ≡ xs ++ []
        nothing_behind [] = refl
        nothing_behind (x ∷ xs) = ap (λ l. x ∷ l) (nothing_behind xs)

  pub counted_more : (begun : Lines) (scope : Scope) (visits : List Visit) (node : ℕ) (cache : Lines) → (stay : InStay scope visits node cache) (visit : Visit) → IsVisited u machine begun cache node visit
      → (line : ℕ) → Counted (stay.accesses ++ lines_fetched visit.block.slots) line (misses_in table line scope (visit ∷ visits))
  counted_more begun scope visits node cache stay visit is line = counted_with begun scope visits node cache stay visit is line (has_classes u machine table are node visit.block is.is)

  pub once_in_stay : (begun : Lines) (scope : Scope) (visits : List Visit) (node : ℕ) (cache : Lines) → InStay scope visits node cache → (visit : Visit) → IsVisited u machine begun cache node visit
      → (line : ℕ) → misses_in table line scope (visit ∷ visits) ≤ 1
  once_in_stay begun scope visits node cache stay visit is line =
      once_at_most (stay.accesses ++ lines_fetched visit.block.slots) line (misses_in table line scope (visit ∷ visits)) (counted_more begun scope visits node cache stay visit is line)
