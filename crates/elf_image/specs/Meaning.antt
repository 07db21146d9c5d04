-- The image that the bytes of a file stand for.
use Rattle.std.specs.Prelude.{ℕ, ◌+◌, ◌/◌, ◌%◌, ◌<◌, ◌≤◌, Bool, ◌||◌, not, ◌==◌, if◌then◌else◌, List, [], length, map, filter, find, drop, Option, Some, None, All, AllPairs, ◌⊎◌}
use Rattle.std.specs.List.{range_with_len, before_first}
use Rattle.wx_base.specs.declared.symbol.Symbol.{Symbol}
use Rattle.elf_image.specs.declared.fields.ProgramHeader.{ProgramHeader}
use Rattle.elf_image.specs.declared.fields.SectionHeader.{SectionHeader}
use Rattle.elf_image.specs.declared.fields.SymbolEntry.{SymbolEntry}
use Rattle.wx_base.specs.declared.image.Segment.{Segment}
use Rattle.wx_base.specs.declared.image.Image.{Image}
use Rattle.elf_image.specs.Bytes.{bytes_at}
use Rattle.elf_image.specs.Causes.{string_table}
use Rattle.elf_image.specs.Fields.{file_header, fills, program_headers, section_header, symbol_entry}

-- the segment of a load header: its addresses, whether it holds code (PF_X), and its bytes of the file (System V ABI, "Program Header")
abbrev pub segment : List ℕ → ProgramHeader → Segment
segment file h = record { first = h.vaddr; size = h.memsz; code = h.flags % 2 == 1; bytes = bytes_at file h.offset h.filesz }

-- the segments, in the order of the program headers
abbrev pub segments_of : List ℕ → List Segment
segments_of file = map (segment file) (filter fills (program_headers file))

-- the section headers, none where the file names none
abbrev pub section_headers : List ℕ → List SectionHeader
section_headers file =
    if (file_header file).shoff == 0 then [] else map (section_header file) (range_with_len 0 (file_header file).shnum)

-- the string that begins at a place of a string table: the bytes up to the first zero (System V ABI, "String Table")
abbrev pub string_at : List ℕ → ℕ → List ℕ
string_at table at = before_first (λ b. b == 0) (drop at table)

-- whether a symbol belongs to a section of this file (not SHN_UNDEF)
abbrev pub is_defined : SymbolEntry → Bool
is_defined e = not (e.shndx == 0)

-- the symbol of an entry; its binding is global for 1 and weak for 2 (System V ABI, "Symbol Table")
abbrev pub symbol : List ℕ → SymbolEntry → Symbol
symbol table e = record { name = string_at table e.name; value = e.value; global = (e.info / 16 == 1) || (e.info / 16 == 2) }

-- the entries of a symbol table
abbrev pub symbol_entries : List ℕ → SectionHeader → List SymbolEntry
symbol_entries file s = map (symbol_entry file s) (range_with_len 0 (s.size / 16))

-- the symbols of a symbol table
abbrev pub table_symbols : List ℕ → SectionHeader → List Symbol
table_symbols file s = map (symbol (string_table file s)) (filter is_defined (symbol_entries file s))

-- the symbols of a symbol table, if there is one
abbrev pub found_symbols : List ℕ → Option SectionHeader → List Symbol
found_symbols file None = []
found_symbols file (Some s) = table_symbols file s

-- the symbols of the first symbol table (SHT_SYMTAB)
abbrev pub symbols_of : List ℕ → List Symbol
symbols_of file = found_symbols file (find (λ s. s.kind == 2) (section_headers file))

-- the image that a file stands for
abbrev pub image_of : List ℕ → Image
image_of file = record { entry = (file_header file).entry; segments = segments_of file; symbols = symbols_of file }

-- a segment fills addresses below 2 ^ 32, at least one, and its bytes fit
pub record IsWithinSpace (s : Segment) : Type 0 where
  pub some : 0 < s.size
  pub in_space : s.first + s.size ≤ 4294967296
  pub fit : length s.bytes ≤ s.size

-- two segments have no address in common
abbrev pub AreApart : Segment → Segment → Type 0
AreApart s t = (s.first + s.size ≤ t.first) ⊎ (t.first + t.size ≤ s.first)

-- what holds of the segments of an image that was read
pub record AreLoaded (segments : List Segment) : Type 0 where
  pub within : All IsWithinSpace segments
  pub apart : AllPairs AreApart segments
