-- One step back of a search.
use Rattle.std.proofs.Common.{◌≡◌, ◌⊎◌, ◌↔◌, ℕ, ◌<◌, true, false, List, [], ◌+◌, length, get_or, take, nat_eq, sym, ap, subst, ◌∙◌, inl, inr, arith, append-nil}
use Rattle.std.specs.List.{Contains, IsDistinct}
use Rattle.std.proofs.lemmas.Bool.{true≢false}
use Rattle.std.proofs.lemmas.List.{get_or_default}
use Rattle.cache_ages.specs.Bounds.{is_one_of}
use Rattle.cache_flow.specs.declared.flow.Flow.{Flow}
use Rattle.cache_flow.specs.Flows.{accesses_of}
use Rattle.cache_kept.specs.declared.look.Look.{Look}
use Rattle.cache_kept.specs.Newer.{newer}
use Rattle.cache_kept.specs.Search.{IsLook, IsSearched, IsStep}
use Rattle.cache_kept.specs.Walk.{is_marked, CameTo}
use Rattle.cache_kept.specs.Ways.{list_at}
use Rattle.cache_kept.proofs.Lists.{none_there, there_too}
use Rattle.cache_kept.proofs.SearchLemmas.{search_begins, search_goes_on}
use Rattle.cache_kept.proofs.StretchLemmas.{marked_within}

module _ (look : Look) (node : ℕ) (accesses found queue found_after : List ℕ)
    (exact : (rival : ℕ) → Contains found_after rival ↔ (Contains found rival ⊎ Contains (newer look.shape look.line (is_marked look.known.now node) accesses) rival)) where
  -- the line is accessed
  pub step_stopped : is_one_of accesses look.line ≡ true → IsStep look node accesses found queue found_after queue
  step_stopped accessed = record {
    more = [];
    grown = sym (append-nil queue);
    free = λ source c. absurd (none_there source c);
    inner = λ source c. absurd (none_there source c);
    kept = λ rival c. (exact rival).1 (inl c);
    new = λ rival c. (exact rival).0 c;
    passed = record {
      noted = λ rival c. (exact rival).1 (inr c);
      sources = λ free source inner. absurd (true≢false (sym accessed ∙ free));
    };
  }

  -- it is not, so the search comes to the sources
  pub step_open : IsLook look → Contains look.members.now node → (queue_after sources : List ℕ) → is_one_of accesses look.line ≡ false → sources ≡ list_at look.sources.now node
      → CameTo queue queue_after look.inside.now sources → IsStep look node accesses found queue found_after queue_after
  step_open fits member queue_after sources free is came = record {
    more = came.more;
    grown = came.grown;
    free = λ source c. free;
    inner = λ source c. record {
      move = (fits.sources.exact source node).0 (there_too sources (list_at look.sources.now node) source is (came.only source c));
      from = (fits.inside.exact source).0 (came.within source c);
      to = member;
    };
    kept = λ rival c. (exact rival).1 (inl c);
    new = λ rival c. (exact rival).0 c;
    passed = record {
      noted = λ rival c. (exact rival).1 (inr c);
      sources = λ _ source inner. came.each source
          (there_too (list_at look.sources.now node) sources source (sym is) ((fits.sources.exact source node).1 inner.move)) ((fits.inside.exact source).1 inner.from);
    };
  }

-- the accesses at hand are those of the node
pub accesses_are : (flow : Flow) (node : ℕ) (nodes : List (List ℕ)) (row given : List ℕ) → node < length flow.nodes → nodes ≡ flow.nodes → row ≡ get_or nodes node row → given ≡ row
    → given ≡ accesses_of flow node
accesses_are flow node nodes row given inside same here is =
    is ∙ here ∙ ap (λ (ns : List (List ℕ)). get_or ns node row) same ∙ sym (get_or_default flow.nodes node [] row inside)

pub begins_at : (look : Look) → IsLook look → (node place : ℕ) (accesses before before_queue found queue : List ℕ) → accesses ≡ take place (accesses_of look.flow.now node) → before ≡ [] → before_queue ≡ []
    → IsDistinct nat_eq found → IsStep look node accesses before before_queue found queue → IsSearched look node place 0 found queue
begins_at look fits node place accesses before before_queue found queue is none none_queue distinct step =
    search_begins look fits node place found queue distinct
    (subst (λ (xs : List ℕ). IsStep look node xs [] [] found queue) is
    (subst (λ (q : List ℕ). IsStep look node accesses [] q found queue) none_queue (subst (λ (f : List ℕ). IsStep look node accesses f before_queue found queue) none step)))

pub goes_on_at : (look : Look) → IsLook look → (node place i source : ℕ) (accesses found queue found_after queue_after : List ℕ) → IsSearched look node place i found queue → i < length queue
    → source ≡ get_or queue i 0 → accesses ≡ accesses_of look.flow.now source → IsDistinct nat_eq found_after
    → IsStep look source accesses found queue found_after queue_after → IsSearched look node place (i + 1) found_after queue_after
goes_on_at look fits node place i source accesses found queue found_after queue_after s inside is at distinct step =
    search_goes_on look fits node place i found queue found_after queue_after s inside distinct
    (subst (λ (v : ℕ). IsStep look v (accesses_of look.flow.now v) found queue found_after queue_after) is
    (subst (λ (xs : List ℕ). IsStep look source xs found queue found_after queue_after) at step))

-- the node that is next in the queue is a member, and one of the flow
pub next_member : (look : Look) (node place i source : ℕ) (found queue : List ℕ) → IsSearched look node place i found queue → i < length queue → source ≡ get_or queue i 0
    → Contains look.members.now source
next_member look node place i source found queue s inside is =
    s.members source (i, inside, get_or_default queue i source 0 inside ∙ sym is)

pub member_within : (look : Look) (source : ℕ) → IsLook look → Contains look.members.now source → source < length look.flow.now.nodes
member_within look source fits c = omega (arith, fits.inside.long, marked_within look.inside.now source ((fits.inside.exact source).1 c))
