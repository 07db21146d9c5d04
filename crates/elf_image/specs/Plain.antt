-- The small files that this project makes for itself.
use Rattle.std.specs.Prelude.{ℕ, ◌*◌, List, [], ◌∷◌, ◌++◌, length}
use Rattle.std.specs.List.{flat_map}
use Rattle.std.specs.Int.{w32, to_le_bytes}

-- the file header: one program header at 52, entry 8000, no sections
abbrev pub plain_file_header : List ℕ
plain_file_header =
    0x7f ∷ 0x45 ∷ 0x4c ∷ 0x46 ∷ 1 ∷ 1 ∷ 1 ∷ 0 ∷ 0 ∷ 0 ∷ 0 ∷ 0 ∷ 0 ∷ 0 ∷ 0 ∷ 0 ∷ 2 ∷ 0 ∷ 0x28 ∷ 0 ∷ 1 ∷ 0 ∷ 0 ∷ 0 ∷ 0 ∷ 0x80 ∷ 0 ∷ 0 ∷ 0x34 ∷ 0 ∷ 0 ∷ 0 ∷ 0 ∷ 0 ∷ 0 ∷ 0 ∷ 0 ∷ 0 ∷ 0 ∷ 5 ∷ 0x34 ∷ 0 ∷ 0x20 ∷ 0 ∷ 1 ∷ 0 ∷ 0x28 ∷ 0 ∷ 0 ∷ 0 ∷ 0 ∷ 0 ∷ []

-- the program header up to its sizes: a load header for the bytes from 84 on, at address 8000
abbrev pub plain_load : List ℕ
plain_load = 1 ∷ 0 ∷ 0 ∷ 0 ∷ 0x54 ∷ 0 ∷ 0 ∷ 0 ∷ 0 ∷ 0x80 ∷ 0 ∷ 0 ∷ 0 ∷ 0x80 ∷ 0 ∷ 0 ∷ []

-- the program header behind its sizes: code, aligned to 4
abbrev pub plain_flags : List ℕ
plain_flags = 5 ∷ 0 ∷ 0 ∷ 0 ∷ 4 ∷ 0 ∷ 0 ∷ 0 ∷ []

-- the headers of a file with so many bytes of words
unfoldable pub plain_headers : List ℕ → List ℕ
plain_headers size = plain_file_header ++ plain_load ++ size ++ size ++ plain_flags

-- the file whose one segment is these words of code at address 8000, which is the entry (this project)
abbrev pub plain : List ℕ → List ℕ
plain words =
    plain_headers (to_le_bytes w32 (4 * length words)) ++ flat_map (to_le_bytes w32) words
