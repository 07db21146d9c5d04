-- What a store in memory is seen as, and what it holds. This project's own.
use Rattle.std.specs.Prelude.{◌≡◌, ℕ, suc, List, [], ◌∷◌, drop, Option, Some, None, if◌then◌else◌}
use Rattle.std.specs.Option.{option_or}
use Rattle.std.specs.List.{HoldsAt}
use Rattle.std.specs.Str.{bytes_eq}

-- the name and the content of a file
pub record HeldFile : Type 0 where
  pub name : List ℕ
  pub bytes : List ℕ

-- The files, the numbers of the calls that are to fail, how many calls and reads there were, the names that were read and written,
-- in order, and how many faults there were.
pub record MemStoreView : Type 0 where
  pub files : List HeldFile
  pub failing : List ℕ
  pub calls : ℕ
  pub asked : ℕ
  pub read_names : List (List ℕ)
  pub write_names : List (List ℕ)
  pub read_faults : ℕ
  pub write_faults : ℕ

-- what a list of files holds under a name: the content of the last file of that name
abbrev pub held : List HeldFile → List ℕ → Option (List ℕ)
held [] name = None
held (file ∷ later) name =
    option_or (held later name) (if bytes_eq file.name name then Some file.bytes else None)

-- the file at this place has the name, and none behind it has
abbrev pub IsLastNamed : List HeldFile → List ℕ → ℕ → Type 0
IsLastNamed files name i = HoldsAt (λ file. file.name ≡ name) files i × (held (drop (suc i) files) name ≡ None)
