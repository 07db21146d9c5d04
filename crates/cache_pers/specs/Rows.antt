-- Rows of entries, as lists. This project's own.
use Rattle.std.specs.Prelude.{Bool, List, map}
use Rattle.std.specs.Global.{Vec}

-- the entries of each row
abbrev pub rows_of : List (Vec Bool) → List (List Bool)
rows_of rows = map (λ row. row.items) rows
