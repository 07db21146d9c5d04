-- What a search that is over tells of the line.
use Rattle.std.proofs.Common.{◌≡◌, ◌⊎◌, ℕ, ◌<◌, ◌≤◌, Bool, true, false, cond, not, ◌&&◌, ◌||◌, eqb, List, length, get_or, take, refl, sym, ap, subst, ◌∙◌, inl, inr, arith, ltb}
use Rattle.std.specs.List.{Contains, filter}
use Rattle.std.proofs.lemmas.Bool.{cases_lt, eq-eqb, eqb-true, false≢true, lt-ltb, ltb-true, or_right, true≢false}
use Rattle.std.proofs.lemmas.List.{get_or_default}
use Rattle.wx_base.specs.declared.machine.Shape.{Shape}
use Rattle.wx_base.specs.CacheStates.{Younger, YoungerCovers, younger_start}
use Rattle.cache_ages.specs.Bounds.{is_one_of}
use Rattle.cache_pers.specs.Stays.{younger_along}
use Rattle.cache_flow.specs.declared.flow.Flow.{Flow}
use Rattle.cache_flow.specs.Flows.{Part, accesses_of}
use Rattle.cache_flow.specs.Shown.{IsKept}
use Rattle.cache_flow.specs.Solutions.{younger_at}
use Rattle.cache_kept.specs.declared.look.Look.{Look}
use Rattle.cache_kept.specs.Newer.{newer}
use Rattle.cache_kept.specs.Parts.{IsInner, IsSure}
use Rattle.cache_kept.specs.Search.{IsLook, IsOver, IsPassed, IsSearched, behind, part_at}
use Rattle.cache_kept.specs.Walk.{is_marked}
use Rattle.cache_kept.proofs.Along.{along_held, along_known}
use Rattle.cache_kept.proofs.Lists.{one_from, one_to, no_more, ascending_distinct, filter_among, among_filter, filter_distinct}

-- ---- truth values

and_both : (a b : Bool) → (a && b) ≡ true → (a ≡ true) × (b ≡ true)
and_both true b e = (refl, e)
and_both false b e = absurd (false≢true e)

not_is : (a : Bool) → not a ≡ true → a ≡ false
not_is true e = absurd (false≢true e)
not_is false e = refl

or_cases : (a b : Bool) → (a || b) ≡ true → (a ≡ true) ⊎ (b ≡ true)
or_cases true b e = inl refl
or_cases false b e = inr e

-- nothing is known at the begin of a stay
pub starts : (x : Younger) → YoungerCovers x younger_start
starts x = record { known = λ line h. absurd (false≢true h); held = λ line other k h. absurd (false≢true k) }

-- where a part is entered does not matter for what is kept in it
pub kept_in : (shape : Shape) (flow : Flow) (p q : Part) (node place line : ℕ) → p.members ≡ q.members → IsKept shape flow p node place line → IsKept shape flow q node place line
kept_in shape flow p q node place line same kept = record {
  states = kept.states;
  solution = record {
    head = starts (kept.states q.head);
    moves = λ m c from to. kept.solution.moves m c (subst (λ (ms : List ℕ). Contains ms m.from) (sym same) from) (subst (λ (ms : List ℕ). Contains ms m.to) (sym same) to);
  };
  kept = kept.kept;
}

module _ (look : Look) (fits : IsLook look) (node place count : ℕ) (found queue : List ℕ) (s : IsSearched look node place count found queue) where
  -- ---- few rivals: a solution that keeps the line

  -- the search came to the begin of a node
  open_at : ℕ → Bool
  open_at v =
      (is_one_of queue v && not (is_one_of (accesses_of look.flow.now v) look.line))
      || (eqb v node && not (is_one_of (take place (accesses_of look.flow.now node)) look.line))

  -- of the line what was found; of each other line that all are held for it
  states : ℕ → Younger
  states v = record {
    known = λ other. cond (eqb other look.line) (is_marked look.known.now v) true;
    held = λ other rival. cond (eqb other look.line) (cond (open_at v) (is_one_of found rival) true) true;
  }

  line_is : eqb look.line look.line ≡ true
  line_is = eq-eqb look.line look.line refl

  knows : (v : ℕ) → (states v).known look.line ≡ is_marked look.known.now v
  unfolding states
  knows v = ap (λ (b : Bool). cond b (is_marked look.known.now v) true) line_is

  holds : (v rival : ℕ) → (states v).held look.line rival ≡ cond (open_at v) (is_one_of found rival) true
  unfolding states
  holds v rival = ap (λ (b : Bool). cond b (cond (open_at v) (is_one_of found rival) true) true) line_is

  module _ (end : length queue ≤ count) where
    queued : (v : ℕ) → Contains queue v → IsPassed look found queue v (accesses_of look.flow.now v)
    queued v c =
        let is : get_or queue c.0 0 ≡ v = get_or_default queue c.0 0 v c.1 ∙ c.2 in
        subst (λ (n : ℕ). IsPassed look found queue n (accesses_of look.flow.now n)) is (s.each c.0 (omega (arith, c.1, end)))

    -- the sources of moves to a node whose begin the search came to are in the queue
    sources_in : (source target : ℕ) → IsInner look.flow.now.moves look.members.now source target → open_at target ≡ true → Contains queue source
    unfolding open_at
    sources_in source target inner e =
        elim (or_cases (is_one_of queue target && not (is_one_of (accesses_of look.flow.now target) look.line))
        (eqb target node && not (is_one_of (take place (accesses_of look.flow.now node)) look.line)) e) [
          | inl q ↦
              let both = and_both (is_one_of queue target) (not (is_one_of (accesses_of look.flow.now target) look.line)) q in
              (queued target (one_to queue target both.0)).sources (not_is (is_one_of (accesses_of look.flow.now target) look.line) both.1) source inner
          | inr n ↦
              let both = and_both (eqb target node) (not (is_one_of (take place (accesses_of look.flow.now node)) look.line)) n in
              s.first.sources (not_is (is_one_of (take place (accesses_of look.flow.now node)) look.line) both.1) source
              (subst (λ (v : ℕ). IsInner look.flow.now.moves look.members.now source v) (eqb-true target node both.0) inner)
        ]

    -- what is held behind accesses was found, if the search went back over them and what is held before was found
    found_behind : (v : ℕ) (accesses : List ℕ) → IsPassed look found queue v accesses → (is_one_of accesses look.line ≡ false → open_at v ≡ true)
        → (rival : ℕ) → (younger_along look.shape (states v) accesses).held look.line rival ≡ true → is_one_of found rival ≡ true
    found_behind v accesses passed opens rival h =
        elim (or_cases (not (is_one_of accesses look.line) && (states v).held look.line rival) (is_one_of (newer look.shape look.line ((states v).known look.line) accesses) rival)
        (sym (along_held look.shape look.line rival (states v) accesses) ∙ h)) [
          | inl before ↦
              let both = and_both (not (is_one_of accesses look.line)) ((states v).held look.line rival) before in
              let opened : open_at v ≡ true = opens (not_is (is_one_of accesses look.line) both.0) in
              sym (ap (λ (b : Bool). cond b (is_one_of found rival) true) opened) ∙ sym (holds v rival) ∙ both.1
          | inr new ↦
              let mine : Contains (newer look.shape look.line (is_marked look.known.now v) accesses) rival =
              subst (λ (k : Bool). Contains (newer look.shape look.line k accesses) rival) (knows v) (one_to (newer look.shape look.line ((states v).known look.line) accesses) rival new) in
              one_from found rival (passed.noted rival mine)
        ]

    opens_queued : (v : ℕ) → Contains queue v → is_one_of (accesses_of look.flow.now v) look.line ≡ false → open_at v ≡ true
    unfolding open_at
    opens_queued v c free =
        ap (λ (b : Bool). (b && not (is_one_of (accesses_of look.flow.now v) look.line)) || (eqb v node && not (is_one_of (take place (accesses_of look.flow.now node)) look.line)))
        (one_from queue v c)
        ∙ ap (λ (b : Bool). not b || (eqb v node && not (is_one_of (take place (accesses_of look.flow.now node)) look.line))) free

    opens_first : is_one_of (take place (accesses_of look.flow.now node)) look.line ≡ false → open_at node ≡ true
    unfolding open_at
    opens_first free =
        or_right (is_one_of queue node && not (is_one_of (accesses_of look.flow.now node) look.line)) (eqb node node && not (is_one_of (take place (accesses_of look.flow.now node)) look.line))
        ((λ i. eq-eqb node node refl i && not (is_one_of (take place (accesses_of look.flow.now node)) look.line)) ∙ ap not free)

    held_there : (source target : ℕ) → IsInner look.flow.now.moves look.members.now source target → (rival : ℕ) (b : Bool) → open_at target ≡ b
        → (behind look states source).held look.line rival ≡ true → cond b (is_one_of found rival) true ≡ true
    held_there source target inner rival false o h = refl
    held_there source target inner rival true o h =
        let c : Contains queue source = sources_in source target inner o in
        found_behind source (accesses_of look.flow.now source) (queued source c) (opens_queued source c) rival h

    covers : (source target : ℕ) → IsInner look.flow.now.moves look.members.now source target → YoungerCovers (states target) (behind look states source)
    unfolding states
    covers source target inner = record {
      known = λ other h. known_at other (eqb other look.line) refl h;
      held = λ other rival k h. held_at other rival (eqb other look.line) refl h;
    }
      where
        known_at : (other : ℕ) (b : Bool) → eqb other look.line ≡ b → (behind look states source).known other ≡ true → (states target).known other ≡ true
        known_at other false e h = ap (λ (b : Bool). cond b (is_marked look.known.now target) true) e
        known_at other true e h =
            let is : other ≡ look.line = eqb-true other look.line e in
            let told : (is_marked look.known.now source || is_one_of (accesses_of look.flow.now source) look.line) ≡ true =
            ap (λ (k : Bool). k || is_one_of (accesses_of look.flow.now source) look.line) (sym (knows source))
            ∙ sym (along_known look.shape look.line (states source) (accesses_of look.flow.now source)) ∙ subst (λ (n : ℕ). (behind look states source).known n ≡ true) is h in
            ap (λ (b : Bool). cond b (is_marked look.known.now target) true) e ∙ fits.closed.goes source target inner told

        held_at : (other rival : ℕ) (b : Bool) → eqb other look.line ≡ b → (behind look states source).held other rival ≡ true → (states target).held other rival ≡ true
        held_at other rival false e h = ap (λ (b : Bool). cond b (cond (open_at target) (is_one_of found rival) true) true) e
        held_at other rival true e h =
            let is : other ≡ look.line = eqb-true other look.line e in
            ap (λ (b : Bool). cond b (cond (open_at target) (is_one_of found rival) true) true) e
            ∙ held_there source target inner rival (open_at target) refl (subst (λ (n : ℕ). (behind look states source).held n rival ≡ true) is h)

    pub few_kept : length found < look.shape.ways → IsKept look.shape look.flow.now (part_at look) node place look.line
    few_kept few = record {
      states = states;
      solution = record {
        head = starts (states 0);
        moves = λ m c from to. covers m.from m.to (record { move = c; from = from; to = to });
      };
      kept = or_right (not ((younger_at look.shape look.flow.now states node place).known look.line))
          (ltb (length (filter ((younger_at look.shape look.flow.now states node place).held look.line) look.flow.now.lines)) look.shape.ways)
          (lt-ltb (length (filter ((younger_at look.shape look.flow.now states node place).held look.line) look.flow.now.lines)) look.shape.ways (omega (arith, few, fewer)));
    }
      where
        fewer : length (filter ((younger_at look.shape look.flow.now states node place).held look.line) look.flow.now.lines) ≤ length found
        fewer =
            no_more (filter ((younger_at look.shape look.flow.now states node place).held look.line) look.flow.now.lines) found
            (filter_distinct ((younger_at look.shape look.flow.now states node place).held look.line) look.flow.now.lines (ascending_distinct look.flow.now.lines fits.flow.ascending))
            (λ x c. one_to found x (found_behind node (take place (accesses_of look.flow.now node)) s.first opens_first x
            (filter_among ((younger_at look.shape look.flow.now states node place).held look.line) look.flow.now.lines x c).1))

  -- ---- many rivals: no solution keeps the line
  pub many_not_kept : look.shape.ways ≤ length found → 0 < look.shape.ways → IsSure look.shape look.flow.now (part_at look) look.line look.known.now
      → IsKept look.shape look.flow.now (part_at look) node place look.line → ⊥
  many_not_kept many some sure kept =
      let x : ℕ = get_or found 0 0 in
      let there : Contains found x = (0, omega (arith, many, some), get_or_default found 0 x 0 (omega (arith, many, some))) in
      let known : (younger_at look.shape look.flow.now kept.states node place).known look.line ≡ true = (s.sure sure x there).known kept.states kept.solution in
      let low : ltb (length (filter ((younger_at look.shape look.flow.now kept.states node place).held look.line) look.flow.now.lines)) look.shape.ways ≡ true =
      ap (λ (k : Bool). not k || ltb (length (filter ((younger_at look.shape look.flow.now kept.states node place).held look.line) look.flow.now.lines)) look.shape.ways) (sym known) ∙ kept.kept in
      absurd (omega (
        arith,
        many,
        ltb-true (length (filter ((younger_at look.shape look.flow.now kept.states node place).held look.line) look.flow.now.lines)) look.shape.ways low,
        no_more found (filter ((younger_at look.shape look.flow.now kept.states node place).held look.line) look.flow.now.lines) s.distinct
            (λ y c. among_filter ((younger_at look.shape look.flow.now kept.states node place).held look.line) look.flow.now.lines y (one_to look.flow.now.lines y (s.listed y c))
            ((s.sure sure y c).held kept.states kept.solution)),
      ))

-- what the search's answer tells
pub over_few : (look : Look) (node place : ℕ) (found : List ℕ) → IsLook look → IsOver look node place found → length found < look.shape.ways
    → IsKept look.shape look.flow.now (part_at look) node place look.line
over_few look node place found fits over few =
    few_kept look fits node place over.count found over.queue over.searched (elim over.over [ inl many ↦ absurd (omega (arith, many, few)) | inr end ↦ end ]) few

pub over_many : (look : Look) (node place : ℕ) (found : List ℕ) → IsLook look → IsOver look node place found → look.shape.ways ≤ length found → 0 < look.shape.ways
    → IsSure look.shape look.flow.now (part_at look) look.line look.known.now → IsKept look.shape look.flow.now (part_at look) node place look.line → ⊥
over_many look node place found fits over many some sure kept = many_not_kept look fits node place over.count found over.queue over.searched many some sure kept

pub ltb_not : (a b : ℕ) → ltb a b ≡ false → b ≤ a
ltb_not a b e = elim (cases_lt a b) [ inl h ↦ absurd (true≢false (sym (lt-ltb a b h) ∙ e)) | inr h ↦ h ]

-- the same of another part with these members, and of the line by another name
pub kept_told : (shape : Shape) (flow : Flow) (p q : Part) (node place line other : ℕ) → p.members ≡ q.members → line ≡ other → IsKept shape flow p node place line
    → IsKept shape flow q node place other
kept_told shape flow p q node place line other same is kept = kept_in shape flow p q node place other same (subst (λ (n : ℕ). IsKept shape flow p node place n) is kept)

pub decided : (few : Bool) (P Q : Type 0) → (few ≡ true → P) → (few ≡ false → P → ⊥) → (P → Q) → (Q → P) → (few ≡ true → Q) × (Q → few ≡ true)
decided true P Q yes_few none there back = (λ e. there (yes_few refl), λ q. refl)
decided false P Q yes_few none there back = (λ e. absurd (false≢true e), λ q. absurd (none refl (back q)))
