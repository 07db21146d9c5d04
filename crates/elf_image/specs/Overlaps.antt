-- Load headers that fill an address in common.
use Rattle.std.specs.Prelude.{◌≡◌, ℕ, ◌+◌, ◌<◌, if◌then◌else◌, List, slice_index_or}
use Rattle.elf_image.specs.Fields.{fills}
use Rattle.elf_image.specs.declared.fields.ProgramHeader.{ProgramHeader}

-- two load headers fill an address in common
pub record Meet (g h : ProgramHeader) : Type 0 where
  pub first_loads : g.kind ≡ 1
  pub second_loads : h.kind ≡ 1
  pub first_fills : 0 < g.memsz
  pub second_fills : 0 < h.memsz
  pub first_begins : g.vaddr < h.vaddr + h.memsz
  pub second_begins : h.vaddr < g.vaddr + g.memsz

-- header a meets none of the headers behind it and below n
pub record NoneMeetsLater (header : ℕ → ProgramHeader) (a n : ℕ) : Type 0 where
  pub none : (d : ℕ) → a < d → d < n → Meet (header a) (header d) → ⊥

-- header b is the first behind header a that meets it
pub record IsFirstMeeting (header : ℕ → ProgramHeader) (a b : ℕ) : Type 0 where
  pub behind : a < b
  pub meets : Meet (header a) (header b)
  pub first : (d : ℕ) → a < d → d < b → Meet (header a) (header d) → ⊥

-- of the first n headers that a function names, a and b, a below b, meet, and no pair before them does: none with a lower first, nor with the same first and a lower second
pub record IsLeastMeeting (header : ℕ → ProgramHeader) (n a b : ℕ) : Type 0 where
  pub ordered : a < b
  pub among : b < n
  pub meet : Meet (header a) (header b)
  pub lower_first : (c d : ℕ) → c < a → c < d → d < n → Meet (header c) (header d) → ⊥
  pub lower_second : (d : ℕ) → a < d → d < b → Meet (header a) (header d) → ⊥

-- no two of the first n headers that a function names meet
pub record NoneMeet (header : ℕ → ProgramHeader) (n : ℕ) : Type 0 where
  pub apart : (a b : ℕ) → a < b → b < n → Meet (header a) (header b) → ⊥

-- a header that fills nothing
abbrev pub no_header : ProgramHeader
no_header = record { kind = 0; offset = 0; vaddr = 0; filesz = 0; memsz = 0; flags = 0 }

-- header i of a list
abbrev pub header_in : List ProgramHeader → ℕ → ProgramHeader
header_in headers i = slice_index_or headers i no_header

-- the addresses that a header fills, as the first and the one behind the last, none at 0 for one that fills nothing
unfoldable pub memory_range : ProgramHeader → ℕ × ℕ
memory_range h = if fills h then (h.vaddr, h.vaddr + h.memsz) else (0, 0)
