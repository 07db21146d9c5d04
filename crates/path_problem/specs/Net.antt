-- A part of a graph, as links between numbers below a count. Labels and what they point to are those of textbooks on greatest and
-- least walks.
use Rattle.std.specs.Prelude.{◌≡◌, ℕ, ◌<◌, ◌≤◌, false, List, [], ◌∷◌, length, slice_index, slice_index_or, if◌then◌else◌}
use Rattle.std.specs.Prelude.{ℤ, pos, ◌+ℤ◌, ◌-ℤ◌, ◌≤ℤ◌, ◌<ℤ◌, Option, Some, None, ◌⊎◌}
use Rattle.std.specs.Prelude.{◌+◌, ◌^◌, unsigned_abs}
use Rattle.std.specs.List.{sum_by}
use Rattle.path_problem.specs.declared.net.Link.{Link}
use Rattle.path_problem.specs.declared.net.Settlement.{Settlement}
use Rattle.path_problem.specs.declared.net.Settlement.TheVariants.{Settled, Gains}
use Rattle.path_graph.specs.Conditions.{IsWithin}
use Rattle.path_graph.specs.Graph.{weight_along}
use Rattle.path_problem.specs.Window.{weight_limit}

-- the link with a number
abbrev pub link_at : List Link → ℕ → Link
link_at links i = slice_index_or links i (record { from = 0; to = 0; weight = pos 0; back = false; arc = 0 })

-- the weight of a link, when a back link pays a price
abbrev pub link_weight : List Link → ℕ → ℕ → ℤ
link_weight links price i = (link_at links i).weight -ℤ pos (if (link_at links i).back then price else 0)

-- a walk along links, as their numbers
abbrev pub IsLinked : List Link → ℕ → List ℕ → ℕ → Type 0
IsLinked links u [] v = u ≡ v
IsLinked links u (i ∷ walk) v = (i < length links) × ((link_at links i).from ≡ u) × IsLinked links (link_at links i).to walk v

-- links between numbers below a count, of weights within a bound, whatever price is paid up to one
pub record AreLinks (links : List Link) (count price bound : ℕ) : Type 0 where
  pub from : (i : ℕ) → i < length links → (link_at links i).from < count
  pub to : (i : ℕ) → i < length links → (link_at links i).to < count
  pub weights : (i : ℕ) → i < length links → IsWithin bound (link_weight links price i)

-- the inequality of each link holds
pub record IsSettled (links : List Link) (price : ℕ) (values : List ℤ) : Type 0 where
  pub each : (i : ℕ) → i < length links
      → (link_weight links price i +ℤ slice_index_or values (link_at links i).to (pos 0)) ≤ℤ slice_index_or values (link_at links i).from (pos 0)

-- a closed walk along links that gains
pub record Gain (links : List Link) (price : ℕ) (walk : List ℕ) : Type 0 where
  pub first : ℕ
  pub closed : IsLinked links first walk first
  pub gains : pos 0 <ℤ weight_along (link_weight links price) walk

-- a walk along links from one number comes to a value, with the start value of its last
pub record Comes (links : List Link) (price : ℕ) (start : List ℤ) (u : ℕ) (value : ℤ) : Type 0 where
  pub walk : List ℕ
  pub last : ℕ
  pub is : IsLinked links u walk last
  pub sums : (weight_along (link_weight links price) walk +ℤ slice_index_or start last (pos 0)) ≡ value

-- A number points nowhere, and has its start value; or it points along a link from it, and its value is at most the link's weight
-- and the value there. It is less, unless that value is older than its own.
abbrev pub PointsOn : List Link → ℕ → List ℤ → List ℤ → List ℕ → ℕ → Option ℕ → Type 0
PointsOn links price start values times u None = slice_index_or values u (pos 0) ≡ slice_index_or start u (pos 0)
PointsOn links price start values times u (Some i) =
    (i < length links) × ((link_at links i).from ≡ u)
    × (slice_index_or values u (pos 0) ≤ℤ (link_weight links price i +ℤ slice_index_or values (link_at links i).to (pos 0)))
    × ((slice_index times (link_at links i).to < slice_index times u)
    ⊎ (slice_index_or values u (pos 0) <ℤ (link_weight links price i +ℤ slice_index_or values (link_at links i).to (pos 0))))

-- labels of numbers below a count: values that walks come to, and for each number where its value comes from
pub record AreLabels (links : List Link) (count price : ℕ) (start values : List ℤ) (next : List (Option ℕ)) : Type 0 where
  pub values_count : length values ≡ count
  pub next_count : length next ≡ count
  pub times : List ℕ
  pub now : ℕ
  pub times_count : length times ≡ count
  pub past : (u : ℕ) → u < count → slice_index times u < now
  pub begun : (u : ℕ) → u < count → slice_index_or start u (pos 0) ≤ℤ slice_index_or values u (pos 0)
  pub comes : (u : ℕ) → u < count → Comes links price start u (slice_index_or values u (pos 0))
  pub points : (u : ℕ) → u < count → PointsOn links price start values times u (slice_index_or next u None)

-- one with no more links than a graph may have vertices
pub record IsShortGain (links : List Link) (price : ℕ) (walk : List ℕ) : Type 0 where
  pub gain : Gain links price walk
  pub short : length walk ≤ 2 ^ 18

-- values from some start that no link betters, each of which a walk comes to
pub record HasSettled (links : List Link) (price : ℕ) (start values : List ℤ) : Type 0 where
  pub count : length values ≡ length start
  pub begun : (u : ℕ) → u < length start → slice_index_or start u (pos 0) ≤ℤ slice_index_or values u (pos 0)
  pub comes : (u : ℕ) → u < length start → Comes links price start u (slice_index_or values u (pos 0))
  pub settled : IsSettled links price values

-- how far a value is below the greatest that labels have
abbrev pub excess : ℤ → ℕ
excess z = unsigned_abs (pos (2 ^ 126 + weight_limit (2 ^ 16)) -ℤ z)

-- how far values are from there altogether
abbrev pub gap : List ℤ → ℕ
gap values = sum_by excess values

-- values that no link betters, each of which a walk comes to, or a closed walk that gains
abbrev pub SettlesOrGains : List Link → ℕ → List ℤ → Settlement → Type 0
SettlesOrGains links price start (Settled values) = HasSettled links price start values.items
SettlesOrGains links price start (Gains walk) = IsShortGain links price walk.items
