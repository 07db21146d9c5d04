-- Where the fields of an ELF32 file stand (System V ABI, chapter 4 "Object Files" and 5 "Program Loading").
use Rattle.std.specs.Prelude.{ℕ, ◌+◌, ◌*◌, Bool, ◌&&◌, ◌==◌, nat_lt, List, map, slice_index}
use Rattle.std.specs.List.{range_with_len}
use Rattle.elf_image.specs.declared.fields.FileHeader.{FileHeader}
use Rattle.elf_image.specs.declared.fields.ProgramHeader.{ProgramHeader}
use Rattle.elf_image.specs.declared.fields.SectionHeader.{SectionHeader}
use Rattle.elf_image.specs.declared.fields.SymbolEntry.{SymbolEntry}
use Rattle.elf_image.specs.Bytes.{u16_at, u32_at}

-- the file header's fields, by their places in the file (Elf32_Ehdr)
abbrev pub file_header : List ℕ → FileHeader
file_header bytes = record {
  class = slice_index bytes 4;
  order = slice_index bytes 5;
  kind = u16_at bytes 16;
  machine = u16_at bytes 18;
  entry = u32_at bytes 24;
  phoff = u32_at bytes 28;
  shoff = u32_at bytes 32;
  phentsize = u16_at bytes 42;
  phnum = u16_at bytes 44;
  shentsize = u16_at bytes 46;
  shnum = u16_at bytes 48;
}

-- the fields of a program header that begins at a place (Elf32_Phdr)
abbrev pub program_header_at : List ℕ → ℕ → ProgramHeader
program_header_at bytes at = record {
  kind = u32_at bytes at;
  offset = u32_at bytes (at + 4);
  vaddr = u32_at bytes (at + 8);
  filesz = u32_at bytes (at + 16);
  memsz = u32_at bytes (at + 20);
  flags = u32_at bytes (at + 24);
}

-- the fields of a section header that begins at a place (Elf32_Shdr)
abbrev pub section_header_at : List ℕ → ℕ → SectionHeader
section_header_at bytes at = record {
  kind = u32_at bytes (at + 4);
  offset = u32_at bytes (at + 16);
  size = u32_at bytes (at + 20);
  link = u32_at bytes (at + 24);
  entsize = u32_at bytes (at + 36);
}

-- the fields of a symbol that begins at a place (Elf32_Sym)
abbrev pub symbol_entry_at : List ℕ → ℕ → SymbolEntry
symbol_entry_at bytes at = record {
  name = u32_at bytes at;
  value = u32_at bytes (at + 4);
  info = slice_index bytes (at + 12);
  shndx = u16_at bytes (at + 14);
}

-- where program header i begins
abbrev pub program_header_place : List ℕ → ℕ → ℕ
program_header_place bytes i = (file_header bytes).phoff + 32 * i

-- where section header i begins
abbrev pub section_header_place : List ℕ → ℕ → ℕ
section_header_place bytes i = (file_header bytes).shoff + 40 * i

-- program header i
unfoldable pub program_header : List ℕ → ℕ → ProgramHeader
program_header bytes i = program_header_at bytes (program_header_place bytes i)

-- section header i
unfoldable pub section_header : List ℕ → ℕ → SectionHeader
section_header bytes i = section_header_at bytes (section_header_place bytes i)

-- the program headers, in file order
abbrev pub program_headers : List ℕ → List ProgramHeader
program_headers bytes = map (program_header bytes) (range_with_len 0 (file_header bytes).phnum)

-- entry i of the symbol table that a section header describes
abbrev pub symbol_entry : List ℕ → SectionHeader → ℕ → SymbolEntry
symbol_entry bytes s i = symbol_entry_at bytes (s.offset + 16 * i)

-- whether a program header is a load header that fills memory (PT_LOAD)
abbrev pub fills : ProgramHeader → Bool
fills h = (h.kind == 1) && nat_lt 0 h.memsz
