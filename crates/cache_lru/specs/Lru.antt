-- A cache with its shape, and lists that are none of a shape. This project's own.
use Rattle.std.specs.Prelude.{ℕ, ◌<◌, List, [], map, slice_index_or}
use Rattle.std.specs.Global.{Vec}
use Rattle.wx_base.specs.declared.machine.Shape.{Shape}
use Rattle.wx_base.specs.Cache.{Lines, IsSet}

-- the lines of each list
abbrev pub lines_of : List (Vec ℕ) → Lines
lines_of lists = map (λ list. list.items) lists

-- the shape of a cache, and the lines of each set, the youngest first
pub record Cache : Type 0 where
  pub shape : Shape
  pub lists : Lines

-- the list of this set is no list of lines of the set, and no earlier one is such
pub record IsFirstBad (shape : Shape) (lists : Lines) (set : ℕ) : Type 0 where
  pub within : set < shape.sets
  pub bad : IsSet shape set (slice_index_or lists set []) → ⊥
  pub earlier : (k : ℕ) → k < set → IsSet shape k (slice_index_or lists k [])
