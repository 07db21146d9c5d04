-- What a part of the world outside tells as a list that only grows. This project's own.
use Rattle.std.specs.Prelude.{◌≡◌, List, ◌++◌, Option}
use Rattle.std.specs.Option.{option_map}

-- these elements were put behind those of before, where they are told
abbrev pub Appends : {A : Type 0} → Option (List A) → Option (List A) → List A → Type 0
Appends before after added = after ≡ option_map (λ so_far. so_far ++ added) before
