-- What numbers point to, as chains of links. This project's own.
use Rattle.std.specs.Prelude.{◌≡◌, ℕ, ◌+◌, ◌<◌, ◌≤◌, ◌⊎◌, ◌==◌, Bool, true, false, List, [], ◌∷◌, drop, length, slice_index, slice_index_or, count_by}
use Rattle.std.specs.Prelude.{Option, Some, None}
use Rattle.path_problem.specs.declared.net.Link.{Link}
use Rattle.path_problem.specs.Net.{link_at}

-- each number points nowhere, or along a link from it to another number
pub record ArePointers (links : List Link) (next : List (Option ℕ)) : Type 0 where
  pub within : (u i : ℕ) → u < length next → slice_index_or next u None ≡ Some i → i < length links
  pub from : (u i : ℕ) → u < length next → slice_index_or next u None ≡ Some i → (link_at links i).from ≡ u
  pub to : (u i : ℕ) → u < length next → slice_index_or next u None ≡ Some i → (link_at links i).to < length next

-- a walk along what numbers point to, as the numbers of its links
abbrev pub IsChain : List Link → List (Option ℕ) → ℕ → List ℕ → ℕ → Type 0
IsChain links next u [] v = u ≡ v
IsChain links next u (i ∷ walk) v = (slice_index_or next u None ≡ Some i) × IsChain links next (link_at links i).to walk v

-- numbers that fall along what is pointed to
pub record AreRanks (links : List Link) (next : List (Option ℕ)) (ranks : List ℕ) : Type 0 where
  pub few : (u : ℕ) → u < length next → slice_index ranks u ≤ length next
  pub falls : (u i : ℕ) → u < length next → slice_index_or next u None ≡ Some i
      → slice_index ranks (link_at links i).to < slice_index ranks u

-- no chain is closed: there are such numbers
pub record HasRanks (links : List Link) (next : List (Option ℕ)) : Type 0 where
  pub ranks : List ℕ
  pub are : AreRanks links next ranks

-- a closed chain, with no more links than there are numbers
pub record IsClosed (links : List Link) (next : List (Option ℕ)) (walk : List ℕ) : Type 0 where
  pub first : ℕ
  pub within : first < length next
  pub some : 0 < length walk
  pub chain : IsChain links next first walk first
  pub few : length walk ≤ length next

-- ranks of some numbers so far, 0 standing for none
pub record IsRanking (links : List Link) (next : List (Option ℕ)) (ranks : List ℕ) (count : ℕ) : Type 0 where
  pub size : length ranks ≡ length next
  pub few : count + count_by (λ r. r == 0) ranks ≡ length next
  pub most : (u : ℕ) → u < length next → slice_index ranks u ≤ count
  pub falls : (u i : ℕ) → u < length next → 0 < slice_index ranks u → slice_index_or next u None ≡ Some i
      → (0 < slice_index ranks (link_at links i).to) × (slice_index ranks (link_at links i).to < slice_index ranks u)

-- a number may have the next rank: it points nowhere, or to one that has a rank
abbrev pub CanRank : List Link → List (Option ℕ) → List ℕ → ℕ → Type 0
CanRank links next ranks u =
    (i : ℕ) → slice_index_or next u None ≡ Some i → 0 < slice_index ranks (link_at links i).to

-- each number that had a rank has one
pub record KeepsRanks (before after : List ℕ) : Type 0 where
  pub each : (u : ℕ) → 0 < slice_index before u → 0 < slice_index after u

-- a link of a chain leaves a number
pub record Leaves (links : List Link) (walk : List ℕ) (u : ℕ) : Type 0 where
  pub place : ℕ
  pub within : place < length walk
  pub from : (link_at links (slice_index walk place)).from ≡ u

-- the part of a chain behind some of its links, the first of which leaves the end
pub record IsEndPart (links : List Link) (walk : List ℕ) (end : ℕ) (part : List ℕ) : Type 0 where
  pub place : ℕ
  pub within : place < length walk
  pub from : (link_at links (slice_index walk place)).from ≡ end
  pub is : part ≡ drop place walk

-- A chain from a number to an end: all that is marked was marked before, or a link of the chain leaves it, or it is the end; and
-- the end points nowhere, or was marked before, or a link of the chain leaves it.
pub record IsTrail (links : List Link) (next : List (Option ℕ)) (first : ℕ) (before after : List Bool) (walk : List ℕ) (end : ℕ) : Type 0 where
  pub chain : IsChain links next first walk end
  pub within : end < length next
  pub few : length walk ≤ length next
  pub marked : (u : ℕ) → u < length next → slice_index_or after u false ≡ true
      → (slice_index_or before u false ≡ true) ⊎ (Leaves links walk u ⊎ (u ≡ end))
  pub ended : (slice_index_or next end None ≡ None) ⊎ ((slice_index_or before end false ≡ true) ⊎ Leaves links walk end)
