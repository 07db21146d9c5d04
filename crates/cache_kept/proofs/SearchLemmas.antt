-- How a search goes back from an access.
use Rattle.std.proofs.Common.{◌≡◌, ◌⊎◌, ℕ, ◌+◌, ◌<◌, true, false, not, ◌&&◌, List, [], ◌++◌, length, get_or, take, nat_eq, sym, ap, subst, ◌∙◌, inl, inr, arith}
use Rattle.std.specs.List.{All, Contains, IsDistinct}
use Rattle.std.proofs.lemmas.Bool.{cases_eq, cases_lt, or_left, or_right}
use Rattle.std.proofs.lemmas.List.{get_or_append_left, get_or_default, get_or_past}
use Rattle.std.proofs.lemmas.List.Elements.{All-contains, All-get_or, Contains-append_cases, Contains-append_left}
use Rattle.wx_base.specs.CacheStates.{Younger, YoungerCovers}
use Rattle.cache_ages.specs.Bounds.{is_one_of}
use Rattle.cache_pers.specs.Stays.{younger_along}
use Rattle.cache_flow.specs.declared.flow.Flow.{Flow}
use Rattle.cache_flow.specs.Flows.{IsFlow, accesses_of}
use Rattle.cache_kept.specs.declared.look.Look.{Look}
use Rattle.cache_kept.specs.Newer.{newer}
use Rattle.cache_kept.specs.Parts.{IsInner, IsSure}
use Rattle.cache_kept.specs.Search.{IsHeldAt, IsLook, IsPassed, IsSearched, IsStep, LeadsTo, Solves, behind, part_at}
use Rattle.cache_kept.specs.Walk.{is_marked}
use Rattle.cache_kept.proofs.Along.{along_held, along_known, newer_among, newer_more}
use Rattle.cache_kept.proofs.Lists.{none_there, there_too, one_from, take_among}

-- nodes access lines of the flow
pub listed_at : (flow : Flow) (node x : ℕ) → IsFlow flow → Contains (accesses_of flow node) x → is_one_of flow.lines x ≡ true
listed_at flow node x is c = elim (cases_lt node (length flow.nodes)) [
  | inl h ↦ All-contains (λ line. is_one_of flow.lines line ≡ true) (accesses_of flow node) x
      (All-get_or (λ accesses. All (λ line. is_one_of flow.lines line ≡ true) accesses) flow.nodes node [] h is.listed) c
  | inr past ↦ absurd (none_there x (there_too (accesses_of flow node) [] x (get_or_past flow.nodes node [] past) c))
]

-- what a search went back over it went back over still when it has more
pub passed_more : (look : Look) (found found_after queue queue_after : List ℕ) (node : ℕ) (accesses : List ℕ)
    → ((rival : ℕ) → Contains found rival → Contains found_after rival) → ((source : ℕ) → Contains queue source → Contains queue_after source)
    → IsPassed look found queue node accesses → IsPassed look found_after queue_after node accesses
passed_more look found found_after queue queue_after node accesses more further passed = record {
  noted = λ rival c. more rival (passed.noted rival c);
  sources = λ free source inner. further source (passed.sources free source inner);
}

module _ (look : Look) where
  -- what accesses add is held behind them, whatever solution there is
  newer_held : IsSure look.shape look.flow.now (part_at look) look.line look.known.now → (states : ℕ → Younger) → Solves look states → (node : ℕ) (accesses : List ℕ) (rival : ℕ)
      → Contains (newer look.shape look.line (is_marked look.known.now node) accesses) rival
      → ((younger_along look.shape (states node) accesses).known look.line ≡ true) × ((younger_along look.shape (states node) accesses).held look.line rival ≡ true)
  newer_held sure states solves node accesses rival c =
      let mine = newer_more look.shape look.line (is_marked look.known.now node) ((states node).known look.line) accesses rival (λ marked. sure.known states solves node marked) c in (
        along_known look.shape look.line (states node) accesses ∙ (newer_among look.shape look.line ((states node).known look.line) accesses rival mine).1,
        along_held look.shape look.line rival (states node) accesses
            ∙ or_right (not (is_one_of accesses look.line) && (states node).held look.line rival) (is_one_of (newer look.shape look.line ((states node).known look.line) accesses) rival)
            (one_from (newer look.shape look.line ((states node).known look.line) accesses) rival mine),
      )

  -- what is held behind a source is held behind accesses of the target that leave the line alone
  passes : (states : ℕ → Younger) → Solves look states → (source target : ℕ) → IsInner look.flow.now.moves look.members.now source target → (accesses : List ℕ)
      → is_one_of accesses look.line ≡ false → (rival : ℕ) → (behind look states source).known look.line ≡ true → (behind look states source).held look.line rival ≡ true
      → ((younger_along look.shape (states target) accesses).known look.line ≡ true) × ((younger_along look.shape (states target) accesses).held look.line rival ≡ true)
  passes states solves source target inner accesses free rival k h =
      let covers : YoungerCovers (states target) (behind look states source) = solves.moves (record { from = source; to = target }) inner.move inner.from inner.to in
      let held : (not (is_one_of accesses look.line) && (states target).held look.line rival) ≡ true = (λ i. not (free i) && covers.held look.line rival k h i) in (
        along_known look.shape look.line (states target) accesses ∙ or_left ((states target).known look.line) (is_one_of accesses look.line) (covers.known look.line k),
        along_held look.shape look.line rival (states target) accesses
            ∙ or_left (not (is_one_of accesses look.line) && (states target).held look.line rival) (is_one_of (newer look.shape look.line ((states target).known look.line) accesses) rival) held,
      )

  module _ (fits : IsLook look) (node place : ℕ) where
    pub search_begins : (found queue : List ℕ) → IsDistinct nat_eq found → IsStep look node (take place (accesses_of look.flow.now node)) [] [] found queue
        → IsSearched look node place 0 found queue
    search_begins found queue distinct step = record {
      distinct = distinct;
      listed = λ rival c. listed_at look.flow.now node rival fits.flow (take_among place (accesses_of look.flow.now node) rival
          (newer_among look.shape look.line (is_marked look.known.now node) (take place (accesses_of look.flow.now node)) rival (new rival c)).0);
      sure = λ sure rival c. record {
        known = λ states solves. (newer_held sure states solves node (take place (accesses_of look.flow.now node)) rival (new rival c)).0;
        held = λ states solves. (newer_held sure states solves node (take place (accesses_of look.flow.now node)) rival (new rival c)).1;
      };
      members = λ source c. (step.inner source (more source c)).from;
      leads = λ source c. record {
        known = λ states solves rival k h.
            (passes states solves source node (step.inner source (more source c)) (take place (accesses_of look.flow.now node)) (step.free source (more source c)) rival k h).0;
        held = λ states solves rival k h.
            (passes states solves source node (step.inner source (more source c)) (take place (accesses_of look.flow.now node)) (step.free source (more source c)) rival k h).1;
      };
      first = step.passed;
      each = λ k h. absurd (omega arith);
    }
      where
        new : (rival : ℕ) → Contains found rival → Contains (newer look.shape look.line (is_marked look.known.now node) (take place (accesses_of look.flow.now node))) rival
        new rival c = elim (step.new rival c) [ inl none ↦ absurd (none_there rival none) | inr k ↦ k ]

        more : (source : ℕ) → Contains queue source → Contains step.more source
        more source c = there_too queue step.more source step.grown c

    module _ (i : ℕ) (found queue found_after queue_after : List ℕ) (s : IsSearched look node place i found queue) (inside : i < length queue) (distinct : IsDistinct nat_eq found_after)
        (step : IsStep look (get_or queue i 0) (accesses_of look.flow.now (get_or queue i 0)) found queue found_after queue_after) where
      at : Contains queue (get_or queue i 0)
      at = (i, inside, get_or_default queue i (get_or queue i 0) 0 inside)

      lead : LeadsTo look node place (get_or queue i 0)
      lead = s.leads (get_or queue i 0) at

      further : (source : ℕ) → Contains queue source → Contains queue_after source
      further source c = there_too (queue ++ step.more) queue_after source (sym step.grown) (Contains-append_left queue step.more source c)

      same : (k : ℕ) → k < length queue → get_or queue_after k 0 ≡ get_or queue k 0
      same k h = ap (λ (q : List ℕ). get_or q k 0) step.grown ∙ get_or_append_left queue step.more 0 k h

      split : (source : ℕ) → Contains queue_after source → Contains queue source ⊎ Contains step.more source
      split source c = Contains-append_cases queue step.more source (there_too queue_after (queue ++ step.more) source step.grown c)

      new_sure : IsSure look.shape look.flow.now (part_at look) look.line look.known.now → (rival : ℕ)
          → Contains (newer look.shape look.line (is_marked look.known.now (get_or queue i 0)) (accesses_of look.flow.now (get_or queue i 0))) rival → IsHeldAt look node place rival
      new_sure sure rival c = record {
        known = λ states solves. let h = newer_held sure states solves (get_or queue i 0) (accesses_of look.flow.now (get_or queue i 0)) rival c in lead.known states solves rival h.0 h.1;
        held = λ states solves. let h = newer_held sure states solves (get_or queue i 0) (accesses_of look.flow.now (get_or queue i 0)) rival c in lead.held states solves rival h.0 h.1;
      }

      new_leads : (source : ℕ) → Contains step.more source → LeadsTo look node place source
      new_leads source c = record {
        known = λ states solves rival k h.
            let p = passes states solves source (get_or queue i 0) (step.inner source c) (accesses_of look.flow.now (get_or queue i 0)) (step.free source c) rival k h in
            lead.known states solves rival p.0 p.1;
        held = λ states solves rival k h.
            let p = passes states solves source (get_or queue i 0) (step.inner source c) (accesses_of look.flow.now (get_or queue i 0)) (step.free source c) rival k h in
            lead.held states solves rival p.0 p.1;
      }

      old_passed : (k : ℕ) → k < i → IsPassed look found_after queue_after (get_or queue_after k 0) (accesses_of look.flow.now (get_or queue_after k 0))
      old_passed k h =
          subst (λ (v : ℕ). IsPassed look found_after queue_after v (accesses_of look.flow.now v)) (sym (same k (omega (arith, h, inside))))
          (passed_more look found found_after queue queue_after (get_or queue k 0) (accesses_of look.flow.now (get_or queue k 0)) step.kept further (s.each k h))

      new_passed : (k : ℕ) → k ≡ i → IsPassed look found_after queue_after (get_or queue_after k 0) (accesses_of look.flow.now (get_or queue_after k 0))
      new_passed k e =
          subst (λ (v : ℕ). IsPassed look found_after queue_after v (accesses_of look.flow.now v)) (sym (ap (λ (n : ℕ). get_or queue_after n 0) e ∙ same i inside)) step.passed

      pub search_goes_on : IsSearched look node place (i + 1) found_after queue_after
      search_goes_on = record {
        distinct = distinct;
        listed = λ rival c. elim (step.new rival c) [
          | inl old ↦ s.listed rival old
          | inr new ↦ listed_at look.flow.now (get_or queue i 0) rival fits.flow
              (newer_among look.shape look.line (is_marked look.known.now (get_or queue i 0)) (accesses_of look.flow.now (get_or queue i 0)) rival new).0
        ];
        sure = λ sure rival c. elim (step.new rival c) [ inl old ↦ s.sure sure rival old | inr new ↦ new_sure sure rival new ];
        members = λ source c. elim (split source c) [ inl old ↦ s.members source old | inr new ↦ (step.inner source new).from ];
        leads = λ source c. elim (split source c) [ inl old ↦ s.leads source old | inr new ↦ new_leads source new ];
        first = passed_more look found found_after queue queue_after node (take place (accesses_of look.flow.now node)) step.kept further s.first;
        each = λ k h. elim (cases_eq k i) [ inl e ↦ new_passed k e | inr other ↦ old_passed k (omega (arith, h, other)) ];
      }
