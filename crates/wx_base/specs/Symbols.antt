-- Which value a name stands for among an image's symbols.
use Rattle.std.specs.Prelude.{ℕ, Bool, ◌&&◌, List, Option, Some, None, option_map, find}
use Rattle.std.specs.Str.{bytes_eq}
use Rattle.wx_base.specs.declared.symbol.Symbol.{Symbol}

-- whether a symbol has this name (this project)
abbrev pub has_name : List ℕ → Symbol → Bool
has_name name s = bytes_eq s.name name

-- whether a symbol has this name and is seen from other files (this project)
abbrev pub has_global_name : List ℕ → Symbol → Bool
has_global_name name s = s.global && bytes_eq s.name name

-- the first of two values that is there
abbrev pub or_else : Option ℕ → Option ℕ → Option ℕ
or_else None b = b
or_else (Some x) b = Some x

-- the value of the first symbol that passes a test
abbrev pub first_value : (Symbol → Bool) → List Symbol → Option ℕ
first_value test symbols = option_map (λ s. s.value) (find test symbols)

-- the value of a name: the first global symbol of that name, else the first symbol of that name (this project)
abbrev pub symbol_value : List Symbol → List ℕ → Option ℕ
symbol_value symbols name = or_else (first_value (has_global_name name) symbols) (first_value (has_name name) symbols)
