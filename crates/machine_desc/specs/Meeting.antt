-- Regions that have an address in common.
use Rattle.std.specs.Prelude.{ℕ, ◌<◌, ◌≤◌, false, List, [], length, slice_index_or}
use Rattle.wx_base.specs.declared.machine.Region.{Region}

-- the two regions have an address in common, where neither ends before it begins
pub record Meet (a b : Region) : Type 0 where
  pub first_begins : a.first ≤ b.last
  pub second_begins : b.first ≤ a.last

-- stands where a list of regions ends
abbrev pub no_region : Region
no_region = record { name = []; first = 0; last = 0; slow = false }

-- region i of a list
abbrev pub region_in : List Region → ℕ → Region
region_in regions i = slice_index_or regions i no_region

-- region a meets none of those behind it
pub record NoneMeetsLater (regions : List Region) (a : ℕ) : Type 0 where
  pub none : (d : ℕ) → a < d → d < length regions → Meet (region_in regions a) (region_in regions d) → ⊥

-- region b is the first behind region a that meets it
pub record IsFirstMeeting (regions : List Region) (a b : ℕ) : Type 0 where
  pub behind : a < b
  pub among : b < length regions
  pub meets : Meet (region_in regions a) (region_in regions b)
  pub first : (d : ℕ) → a < d → d < b → Meet (region_in regions a) (region_in regions d) → ⊥

-- no two regions meet
pub record NoneMeet (regions : List Region) : Type 0 where
  pub apart : (a b : ℕ) → a < b → b < length regions → Meet (region_in regions a) (region_in regions b) → ⊥

-- regions a and b, a before b, meet, and no pair before them does: none with a lower first, nor with the same first and a lower second
pub record IsLeastMeeting (regions : List Region) (a b : ℕ) : Type 0 where
  pub ordered : a < b
  pub among : b < length regions
  pub meet : Meet (region_in regions a) (region_in regions b)
  pub lower_first : (c d : ℕ) → c < a → c < d → d < length regions → Meet (region_in regions c) (region_in regions d) → ⊥
  pub lower_second : (d : ℕ) → a < d → d < b → Meet (region_in regions a) (region_in regions d) → ⊥
