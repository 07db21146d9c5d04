-- A graph over addresses and the graph over their numbers have the same paths, back edges, loops and forward cycles. Each lemma
-- in `_to` goes from numbers to addresses, each in `_from` from addresses to numbers, and each in `_back` does so at an address
-- whose number is known. From an address of the graph no address outside is reached.
use Rattle.std.proofs.Common.{◌≡◌, ◌↔◌, ℕ, ◌<◌, List, [], ◌∷◌, length, map, refl, sym, subst}
use Rattle.std.proofs.lemmas.List.Elements.{All-nil, All-cons, All-contains}
use Rattle.std.specs.List.{All, Contains}
use Rattle.std.specs.Prelude.{slice_index}
use Rattle.wx_base.specs.Facts.{AreAscending}
use Rattle.wx_base.specs.Paths.{Path}
use Rattle.wx_base.specs.Paths.Path.{here, further}
use Rattle.graph_loops.specs.Graph.{edges}
use Rattle.flow_graph.specs.Numbers.{HasNumber, IsNumbering}
use Rattle.flow_graph.proofs.NumberedLists.{mapped_has, mapped_from, one_place, own}

-- Lists of numbers make a numbering if the addresses at the numbers of each list are those that its address leads to.
pub numbering_from : (addresses : List ℕ) (numbered : List (List ℕ)) (leads : ℕ → List ℕ) → AreAscending addresses → length numbered ≡ length addresses
    → ((i : ℕ) → i < length addresses → All (λ j. j < length addresses) (edges numbered i))
    → ((i b : ℕ) → i < length addresses → Contains (map (slice_index addresses) (edges numbered i)) b ↔ Contains (leads (slice_index addresses i)) b)
    → IsNumbering addresses numbered leads
numbering_from addresses numbered leads ascending count below exact = record {
  ascending = ascending;
  count = count;
  within = λ i j h edge. All-contains (λ j. j < length addresses) (edges numbered i) j (below i h) edge;
  sound = λ i j h edge. (exact i (slice_index addresses j) h).0 (mapped_has (slice_index addresses) (edges numbered i) j edge);
  whole = λ i b h edge.
      let x = mapped_from (slice_index addresses) (edges numbered i) b ((exact i b h).1 edge) in
      record {
        number = x.from;
        within = All-contains (λ j. j < length addresses) (edges numbered i) x.from (below i h) x.listed;
        is = x.is;
        holds = x.listed;
      };
}

module _ {addresses : List ℕ} {numbered : List (List ℕ)} {leads : ℕ → List ℕ} (is : IsNumbering addresses numbered leads) where
  -- the same number stands for the same address
  same_number : (i j : ℕ) → i < length addresses → j < length addresses → slice_index addresses i ≡ slice_index addresses j → i ≡ j
  same_number = one_place addresses is.ascending

  -- an edge of addresses is one of their numbers
  pub edge_back : (i j : ℕ) → i < length addresses → j < length addresses → Contains (leads (slice_index addresses i)) (slice_index addresses j) → Contains (edges numbered i) j
  edge_back i j hi hj edge = own addresses is.ascending (λ v. Contains (edges numbered i) v) j hj (is.whole i (slice_index addresses j) hi edge)

  -- what is not among some numbers is not among their addresses
  free_to : (avoided : List ℕ) (v : ℕ) → All (λ a. a < length addresses) avoided → v < length addresses → (Contains avoided v → ⊥) → Contains (map (slice_index addresses) avoided) (slice_index addresses v) → ⊥
  free_to avoided v below within free c =
      let x = mapped_from (slice_index addresses) avoided (slice_index addresses v) c in
      let x_within : x.from < length addresses = All-contains (λ a. a < length addresses) avoided x.from below x.listed in
      free (subst (λ a. Contains avoided a) (sym (same_number v x.from within x_within x.is)) x.listed)

  free_from : (avoided : List ℕ) (i a : ℕ) → a ≡ slice_index addresses i → (Contains (map (slice_index addresses) avoided) a → ⊥) → Contains avoided i → ⊥
  free_from avoided i a e free c = free (subst (λ x. Contains (map (slice_index addresses) avoided) x) (sym e) (mapped_has (slice_index addresses) avoided i c))

  -- paths, whatever is avoided
  pub path_within : {avoided : List ℕ} {i j : ℕ} → i < length addresses → Path (edges numbered) avoided i j → j < length addresses
  path_within h (here a free) = h
  path_within {i = i} h (further {b = b} free edge rest) = path_within (is.within i b h edge) rest

  pub path_to : {avoided : List ℕ} {i j : ℕ} → All (λ a. a < length addresses) avoided → i < length addresses → Path (edges numbered) avoided i j
      → Path leads (map (slice_index addresses) avoided) (slice_index addresses i) (slice_index addresses j)
  path_to {avoided} below h (here a free) = here (slice_index addresses a) (free_to avoided a below h free)
  path_to {avoided} {i = i} below h (further {b = b} free edge rest) =
      further (free_to avoided i below h free) (is.sound i b h edge) (path_to below (is.within i b h edge) rest)

  path_at : (avoided : List ℕ) {a b : ℕ} (i : ℕ) → i < length addresses → a ≡ slice_index addresses i → Path leads (map (slice_index addresses) avoided) a b
      → HasNumber addresses (λ j. Path (edges numbered) avoided i j) b
  path_at avoided i h e (here a free) = record { number = i; within = h; is = e; holds = here i (free_from avoided i a e free) }
  path_at avoided {a = a} i h e (further {b = b} free edge rest) =
      let to = is.whole i b h (subst (λ x. Contains (leads x) b) e edge) in
      let end = path_at avoided to.number to.within to.is rest in
      record { number = end.number; within = end.within; is = end.is; holds = further (free_from avoided i a e free) to.holds end.holds }

  pub path_from : (avoided : List ℕ) (i : ℕ) {b : ℕ} → i < length addresses → Path leads (map (slice_index addresses) avoided) (slice_index addresses i) b
      → HasNumber addresses (λ j. Path (edges numbered) avoided i j) b
  path_from avoided i h path = path_at avoided i h refl path

  pub path_back : (avoided : List ℕ) (i j : ℕ) → i < length addresses → j < length addresses
      → Path leads (map (slice_index addresses) avoided) (slice_index addresses i) (slice_index addresses j) → Path (edges numbered) avoided i j
  path_back avoided i j hi hj path = own addresses is.ascending (λ v. Path (edges numbered) avoided i v) j hj (path_from avoided i hi path)

  -- paths that avoid nothing
  pub free_path_to : {i j : ℕ} → i < length addresses → Path (edges numbered) [] i j → Path leads [] (slice_index addresses i) (slice_index addresses j)
  free_path_to h path = path_to (All-nil (λ a. a < length addresses)) h path

  pub free_path_from : (i : ℕ) {b : ℕ} → i < length addresses → Path leads [] (slice_index addresses i) b → HasNumber addresses (λ j. Path (edges numbered) [] i j) b
  free_path_from i h path = path_from [] i h path

  pub free_path_back : (i j : ℕ) → i < length addresses → j < length addresses → Path leads [] (slice_index addresses i) (slice_index addresses j) → Path (edges numbered) [] i j
  free_path_back i j hi hj path = path_back [] i j hi hj path

  -- paths that avoid one vertex
  pub apart_path_to : {h i j : ℕ} → h < length addresses → i < length addresses → Path (edges numbered) (h ∷ []) i j
      → Path leads (slice_index addresses h ∷ []) (slice_index addresses i) (slice_index addresses j)
  apart_path_to {h = h} hh hi path = path_to (All-cons (λ a. a < length addresses) h [] hh (All-nil (λ a. a < length addresses))) hi path

  pub apart_path_from : (h i : ℕ) {b : ℕ} → i < length addresses → Path leads (slice_index addresses h ∷ []) (slice_index addresses i) b
      → HasNumber addresses (λ j. Path (edges numbered) (h ∷ []) i j) b
  apart_path_from h i hi path = path_from (h ∷ []) i hi path

  pub apart_path_back : (h i j : ℕ) → i < length addresses → j < length addresses → Path leads (slice_index addresses h ∷ []) (slice_index addresses i) (slice_index addresses j)
      → Path (edges numbered) (h ∷ []) i j
  apart_path_back h i j hi hj path = path_back (h ∷ []) i j hi hj path

  -- what is reached from a number, and what from its address
  pub reached_iff : (i j : ℕ) → i < length addresses → j < length addresses → Path (edges numbered) [] i j ↔ Path leads [] (slice_index addresses i) (slice_index addresses j)
  reached_iff i j hi hj = (λ path. free_path_to hi path, λ path. free_path_back i j hi hj path)
