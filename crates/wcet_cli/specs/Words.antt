-- What the words of each command are. This project's own.
use Rattle.std.specs.Prelude.{◌≡◌, ◌≤◌, ℕ, List, [], ◌∷◌, ◌++◌, codes, Option, Some, None}
use Rattle.wx_text.specs.Decimal.{decimal}

-- the words are `flat` and the name of a file
abbrev pub IsFlat : List (List ℕ) → List ℕ → Type 0
IsFlat words name = words ≡ codes "flat" ∷ name ∷ []

-- the words that name an entry
abbrev pub entry_words : Option (List ℕ) → List (List ℕ)
entry_words None = []
entry_words (Some name) = codes "entry" ∷ name ∷ []

-- the words of `run`: names of the files, the number of instructions, and the name of the entry if one is given
pub record RunWords : Type 0 where
  pub image : List ℕ
  pub facts : List ℕ
  pub machine : List ℕ
  pub start : List ℕ
  pub steps : ℕ
  pub entry : Option (List ℕ)

-- the words of `migrate`: the names of the file that is read and of the one that is written
pub record MigrateWords : Type 0 where
  pub source : List ℕ
  pub target : List ℕ

-- the words are `migrate` with these
abbrev pub IsMigrate : List (List ℕ) → MigrateWords → Type 0
IsMigrate words w = words ≡ codes "migrate" ∷ w.source ∷ w.target ∷ []

-- the greatest number of instructions that a run may be given
abbrev pub most_steps : ℕ
most_steps = 1000000000

-- the words are `run` with these; the number is written without leading zeros, and is not too large
pub record IsRun (words : List (List ℕ)) (w : RunWords) : Type 0 where
  pub are : words ≡ (codes "run" ∷ w.image ∷ w.facts ∷ w.machine ∷ w.start ∷ decimal w.steps ∷ []) ++ entry_words w.entry
  pub few : w.steps ≤ most_steps

-- the words of `check`: names of the files, and the name of the entry if one is given
pub record CheckWords : Type 0 where
  pub image : List ℕ
  pub facts : List ℕ
  pub machine : List ℕ
  pub certificate : List ℕ
  pub entry : Option (List ℕ)

-- the words are `check` with these
abbrev pub IsCheck : List (List ℕ) → CheckWords → Type 0
IsCheck words w = words ≡ (codes "check" ∷ w.image ∷ w.facts ∷ w.machine ∷ w.certificate ∷ []) ++ entry_words w.entry
