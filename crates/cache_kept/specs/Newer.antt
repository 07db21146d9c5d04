-- What accesses of a node add to what is held for a line. This project's own.
use Rattle.std.specs.Prelude.{◌==◌, ◌||◌, ℕ, Bool, if◌then◌else◌, List, [], ◌∷◌}
use Rattle.std.specs.List.{filter}
use Rattle.wx_base.specs.declared.machine.Shape.{Shape}
use Rattle.wx_base.specs.CacheStates.{is_rival}
use Rattle.cache_ages.specs.Bounds.{is_one_of}

-- the accesses behind the last one to the line; all of them, where there is none
abbrev pub since : ℕ → List ℕ → List ℕ
since line [] = []
since line (next ∷ accesses) =
    if is_one_of accesses line then since line accesses else (if next == line then accesses else next ∷ accesses)

-- the rivals of the line that came since it was accessed, if it is known before the accesses or accessed by them
abbrev pub newer : Shape → ℕ → Bool → List ℕ → List ℕ
newer shape line known accesses =
    if known || is_one_of accesses line then filter (is_rival shape line) (since line accesses) else []
