-- Graphs over addresses whose vertices are numbered in the order of addresses. This project's own.
use Rattle.std.specs.Prelude.{◌≡◌, ◌<◌, ℕ, List, Contains, length, slice_index}
use Rattle.wx_base.specs.Facts.{AreAscending}
use Rattle.graph_loops.specs.Graph.{edges}

-- an address is one of those listed, and something holds of its number, which is its place among them
pub record HasNumber (addresses : List ℕ) (P : ℕ → Type 0) (address : ℕ) : Type 0 where
  pub number : ℕ
  pub within : number < length addresses
  pub is : address ≡ slice_index addresses number
  pub holds : P number

-- Ascending addresses are numbered by their places, and the graph over them by a list of numbers for each: an address leads to
-- those addresses whose numbers its list has, and to no others. So no way leads out of the addresses.
pub record IsNumbering (addresses : List ℕ) (numbered : List (List ℕ)) (leads : ℕ → List ℕ) : Type 0 where
  pub ascending : AreAscending addresses
  pub count : length numbered ≡ length addresses
  pub within : (i j : ℕ) → i < length addresses → Contains (edges numbered i) j → j < length addresses
  pub sound : (i j : ℕ) → i < length addresses → Contains (edges numbered i) j
      → Contains (leads (slice_index addresses i)) (slice_index addresses j)
  pub whole : (i b : ℕ) → i < length addresses → Contains (leads (slice_index addresses i)) b
      → HasNumber addresses (λ j. Contains (edges numbered i) j) b
