-- Why a file is refused: the cause of each refusal, and which of them comes.
use Rattle.std.specs.Prelude.{◌≡◌, ◌≢◌, ℕ, ◌+◌, ◌/◌, ◌%◌, ◌≤◌, ◌<◌, ◌⊎◌, List, [], ◌∷◌, length, take, slice_index}
use Rattle.elf_image.specs.declared.error.ElfError.{ElfError}
use Rattle.elf_image.specs.declared.error.ElfError.TheVariants.{NoMemory, Short, NotElf, Class, Order, Kind, Machine, Header, Overlap, ThumbEntry, Symbols, TooLarge}
use Rattle.elf_image.specs.declared.fields.ProgramHeader.{ProgramHeader}
use Rattle.elf_image.specs.declared.fields.SectionHeader.{SectionHeader}
use Rattle.elf_image.specs.Bytes.{bytes_at}
use Rattle.elf_image.specs.Overlaps.{IsLeastMeeting}
use Rattle.elf_image.specs.Fields.{file_header, program_header, program_header_at, program_header_place, section_header, section_header_place, symbol_entry}

-- the four bytes with which an ELF file begins: 7f, and `ELF` (System V ABI, "ELF Identification")
abbrev pub magic : List ℕ
magic = 127 ∷ 69 ∷ 76 ∷ 70 ∷ []

-- i is the first of n places at which P does not hold
pub record IsFirstWithout (P : ℕ → Type 0) (n i : ℕ) : Type 0 where
  pub among : i < n
  pub fails : P i → ⊥
  pub before : (k : ℕ) → k < i → P k

-- the bytes of a load header lie in a file of that length, fill no more than it takes, and end within the 2 ^ 32 addresses
pub record IsSoundLoad (len : ℕ) (h : ProgramHeader) : Type 0 where
  pub in_file : h.offset + h.filesz ≤ len
  pub filled : h.filesz ≤ h.memsz
  pub in_space : h.vaddr + h.memsz ≤ 4294967296

-- a program header that begins at a place lies in the file and, if it is a load header, is sound
pub record IsSoundHeaderAt (bytes : List ℕ) (at : ℕ) : Type 0 where
  pub in_file : at + 32 ≤ length bytes
  pub load : (program_header_at bytes at).kind ≡ 1 → IsSoundLoad (length bytes) (program_header_at bytes at)

-- program header i lies in the file and, if it is a load header, is sound
abbrev pub IsSoundHeader : List ℕ → ℕ → Type 0
IsSoundHeader bytes i = IsSoundHeaderAt bytes (program_header_place bytes i)

-- program headers a and b, a below b, meet, and no pair before them does: none with a lower first, nor with the same first and a lower second
abbrev pub IsLeastOverlap : List ℕ → ℕ → ℕ → Type 0
IsLeastOverlap bytes a b = IsLeastMeeting (program_header bytes) (file_header bytes).phnum a b

-- the file names section headers
pub record HasSections (bytes : List ℕ) : Type 0 where
  pub placed : (file_header bytes).shoff ≢ 0
  pub some : (file_header bytes).shnum ≢ 0

-- a name that begins at a place of a string table also ends in it, with a zero (System V ABI, "String Table")
abbrev pub EndsWithin : List ℕ → ℕ → Type 0
EndsWithin table name = (k : ℕ) × (name ≤ k) × (k < length table) × (slice_index table k ≡ 0)

-- the string table that a symbol table names
unfoldable pub string_table : List ℕ → SectionHeader → List ℕ
string_table bytes s = let t = section_header bytes s.link in bytes_at bytes t.offset t.size

-- the section that has the names of a symbol table is one of the file's, and lies in the file
pub record HasStrings (bytes : List ℕ) (s : SectionHeader) : Type 0 where
  pub linked : s.link < (file_header bytes).shnum
  pub in_file : (section_header bytes s.link).offset + (section_header bytes s.link).size ≤ length bytes

-- each name of a symbol table begins and ends in a string table
abbrev pub NamesEndWithin : List ℕ → SectionHeader → List ℕ → Type 0
NamesEndWithin bytes s table = (i : ℕ) → i < s.size / 16 → EndsWithin table (symbol_entry bytes s i).name

-- a symbol table is whole: entries of 16 bytes that fill it and lie in the file, and a string table in which each name begins and ends (System V ABI, "Symbol Table")
pub record IsSoundTable (bytes : List ℕ) (s : SectionHeader) : Type 0 where
  pub entries : s.entsize ≡ 16
  pub whole : s.size % 16 ≡ 0
  pub in_file : s.offset + s.size ≤ length bytes
  pub strings : HasStrings bytes s
  pub names : NamesEndWithin bytes s (string_table bytes s)

-- section header i lies in the file
abbrev pub SectionInFile : List ℕ → ℕ → Type 0
SectionInFile bytes i = section_header_place bytes i + 40 ≤ length bytes

-- section i is a whole symbol table, if it is a symbol table
abbrev pub SectionIsSound : List ℕ → ℕ → Type 0
SectionIsSound bytes i = (section_header bytes i).kind ≡ 2 → IsSoundTable bytes (section_header bytes i)

-- which section header is at fault: header 0 for a wrong size of headers, else the first outside the file, else the first damaged symbol table
abbrev pub IsFaultySection : List ℕ → ℕ → Type 0
IsFaultySection bytes index =
    (((file_header bytes).shentsize ≢ 40) × (index ≡ 0))
    ⊎ (((file_header bytes).shentsize ≡ 40) × IsFirstWithout (SectionInFile bytes) (file_header bytes).shnum index)
    ⊎ (((file_header bytes).shentsize ≡ 40) × ((i : ℕ) → i < (file_header bytes).shnum → SectionInFile bytes i)
    × IsFirstWithout (SectionIsSound bytes) (file_header bytes).shnum index)

-- which program header is at fault: header 0 for a wrong size of headers, else the first that is not sound
abbrev pub IsFaultyHeader : List ℕ → ℕ → Type 0
IsFaultyHeader bytes index =
    (((file_header bytes).phnum ≢ 0) × ((file_header bytes).phentsize ≢ 32) × (index ≡ 0))
    ⊎ (((file_header bytes).phentsize ≡ 32) × IsFirstWithout (IsSoundHeader bytes) (file_header bytes).phnum index)

-- the cause of each refusal, with the values that it names (System V ABI for the fields; this project for what it reads)
abbrev pub Cause : List ℕ → ElfError → Type 0
Cause bytes NoMemory = ⊥
Cause bytes (Short at) = (length bytes < 52) × (at ≡ length bytes)
Cause bytes NotElf = take 4 bytes ≢ magic
Cause bytes (Class found) = ((file_header bytes).class ≢ 1) × (found ≡ (file_header bytes).class)
Cause bytes (Order found) = ((file_header bytes).order ≢ 1) × (found ≡ (file_header bytes).order)
Cause bytes (Kind found) = ((file_header bytes).kind ≢ 2) × (found ≡ (file_header bytes).kind)
Cause bytes (Machine found) = ((file_header bytes).machine ≢ 40) × (found ≡ (file_header bytes).machine)
Cause bytes (Header index) = IsFaultyHeader bytes index
Cause bytes (Overlap a b) = IsLeastOverlap bytes a b
Cause bytes ThumbEntry = (file_header bytes).entry % 2 ≡ 1
Cause bytes (Symbols index) = HasSections bytes × IsFaultySection bytes index
Cause bytes (TooLarge found) = (16777216 < length bytes) × (found ≡ length bytes)

-- in which order the causes are looked for
abbrev pub rank : ElfError → ℕ
rank NoMemory = 0
rank (Short at) = 1
rank NotElf = 2
rank (Class found) = 3
rank (Order found) = 4
rank (Kind found) = 5
rank (Machine found) = 6
rank (Header index) = 7
rank (Overlap a b) = 8
rank ThumbEntry = 9
rank (Symbols index) = 10
rank (TooLarge found) = 11

-- no cause of the first n stands
pub record Passes (n : ℕ) (bytes : List ℕ) : Type 0 where
  pub none : (e : ElfError) → rank e ≤ n → Cause bytes e → ⊥

-- the cause of a refusal stands, and no earlier one
pub record IsFirstCause (bytes : List ℕ) (e : ElfError) : Type 0 where
  pub stands : Cause bytes e
  pub first : (f : ElfError) → rank f < rank e → Cause bytes f → ⊥

-- the refusal of these bytes: want of memory, which is free to come, or that of the first cause that stands
abbrev pub IsRefusal : List ℕ → ElfError → Type 0
IsRefusal bytes e = (e ≡ NoMemory) ⊎ IsFirstCause bytes e
