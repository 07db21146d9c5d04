-- Steps of the loops over the section headers and over a symbol table.
use Rattle.std.proofs.Common.{◌≡◌, ℕ, suc, ◌+◌, ◌<◌, ◌≤◌, inl, inr, Bool, true, false, cond, ◌==◌, List, [], ◌∷◌, ◌++◌, length, get_or, map, Some, refl, sym, ap, subst, ◌∙◌, arith}
use Rattle.std.specs.Prelude.{find, filter}
use Rattle.std.specs.List.{range_with_len}
use Rattle.std.proofs.lemmas.List.{map-append, append-nil}
use Rattle.std.proofs.lemmas.Bool.{eqb-true}
use Rattle.std.proofs.lemmas.List.FromFn.{map-range_with_len_more, get_or-map-range_with_len, length-map-range_with_len, filter_of_map_range_with_len_more}
use Rattle.wx_base.specs.declared.symbol.Symbol.{Symbol}
use Rattle.elf_image.specs.declared.error.ElfError.TheVariants.{Symbols}
use Rattle.elf_image.specs.declared.fields.SectionHeader.{SectionHeader}
use Rattle.elf_image.specs.declared.fields.SymbolEntry.{SymbolEntry}
use Rattle.elf_image.specs.Bytes.{bytes_at}
use Rattle.elf_image.specs.Causes.{HasSections, IsRefusal, IsSoundTable, Passes, SectionInFile, SectionIsSound, string_table}
use Rattle.elf_image.specs.Fields.{file_header, section_header, section_header_at, section_header_place, symbol_entry}
use Rattle.elf_image.specs.Meaning.{is_defined, symbol}
use Rattle.elf_image.proofs.Headers.{refusal_after}

-- the list of the section headers
abbrev pub AreSections : List ℕ → List SectionHeader → Type 0
AreSections bytes sections = sections ≡ map (section_header bytes) (range_with_len 0 (file_header bytes).shnum)

-- what a read past the end would give
abbrev pub no_section : SectionHeader
no_section = record { kind = 0; offset = 0; size = 0; link = 0; entsize = 0 }

pub section_count : (bytes : List ℕ) (sections : List SectionHeader) → AreSections bytes sections → length sections ≡ (file_header bytes).shnum
section_count bytes sections e =
    ap length e ∙ length-map-range_with_len (section_header bytes) 0 (file_header bytes).shnum

pub section_in : (bytes : List ℕ) (sections : List SectionHeader) (k : ℕ) (d : SectionHeader) → AreSections bytes sections → k < (file_header bytes).shnum → get_or sections k d ≡ section_header bytes k
section_in bytes sections k d e h =
    rw e (get_or-map-range_with_len (section_header bytes) 0 (file_header bytes).shnum k k d h (omega arith))

-- the next section header
pub section_more : (bytes : List ℕ) (index at : ℕ) (sections : List SectionHeader) (h : SectionHeader) → sections ≡ map (section_header bytes) (range_with_len 0 index) → at ≡ section_header_place bytes index → h ≡ section_header_at bytes at → sections ++ (h ∷ []) ≡ map (section_header bytes) (range_with_len 0 (index + 1))
unfolding section_header
section_more bytes index at sections h items place is =
    let more = map-range_with_len_more (section_header bytes) 0 index index (omega arith) in
    let here : h ≡ section_header bytes index = is ∙ ap (section_header_at bytes) place in
    rw more (rw (items, here) refl)

-- the string table by the header of its section
pub string_table_at : (bytes : List ℕ) (s t : SectionHeader) → t ≡ section_header bytes s.link → bytes_at bytes t.offset t.size ≡ string_table bytes s
unfolding string_table
string_table_at bytes s t e = ap (λ (x : SectionHeader). bytes_at bytes x.offset x.size) e

-- a section header outside the file is refused, after others in it
pub refused_outside : (bytes : List ℕ) (index at : ℕ) → Passes 9 bytes → HasSections bytes → (file_header bytes).shentsize ≡ 40 → index < (file_header bytes).shnum → ((i : ℕ) → i < index → SectionInFile bytes i) → at ≡ section_header_place bytes index → (at + 40 ≤ length bytes → ⊥) → IsRefusal bytes (Symbols index)
refused_outside bytes index at p named sized among before place outside =
    refusal_after bytes (Symbols index) 9 p refl
    (named, inr (inl (sized, record { among = among; fails = λ s. outside (omega arith); before = before })))

-- a damaged symbol table is refused, after whole ones
pub refused_table : (bytes : List ℕ) (index : ℕ) → Passes 9 bytes → HasSections bytes → (file_header bytes).shentsize ≡ 40 → ((i : ℕ) → i < (file_header bytes).shnum → SectionInFile bytes i) → index < (file_header bytes).shnum → ((i : ℕ) → i < index → SectionIsSound bytes i) → (SectionIsSound bytes index → ⊥) → IsRefusal bytes (Symbols index)
refused_table bytes index p named sized in_file among before damaged =
    refusal_after bytes (Symbols index) 9 p refl
    (named, inr (inr (sized, in_file, record { among = among; fails = damaged; before = before })))

-- what find gives passes, and stands in the list
pub find_sound : {X : Type 0} (test : X → Bool) (xs : List X) (x : X) → find test xs ≡ Some x → (k : ℕ) × (k < length xs) × (get_or xs k x ≡ x) × (test x ≡ true)
find_sound test [] x e = cc
find_sound {X} test (y ∷ xs) x e = step (test y) refl (λ h. find_sound test xs x h) e
  where
    step : (b : Bool) → test y ≡ b → (find test xs ≡ Some x → (k : ℕ) × (k < length xs) × (get_or xs k x ≡ x) × (test x ≡ true)) → cond b (Some y) (find test xs) ≡ Some x → (k : ℕ) × (k < length (y ∷ xs)) × (get_or (y ∷ xs) k x ≡ x) × (test x ≡ true)
    step true t later h = let same : y ≡ x = cc in (0, omega arith, same, sym (ap test same) ∙ t)
    step false t later h = let w = later h in (suc w.0, omega (arith, w.1), w.2, w.3)

-- the next symbol
pub symbol_more : (bytes table : List ℕ) (s : SectionHeader) (i : ℕ) (symbols : List Symbol) (e : SymbolEntry) → symbols ≡ map (symbol table) (filter is_defined (map (symbol_entry bytes s) (range_with_len 0 i))) → e ≡ symbol_entry bytes s i → is_defined e ≡ true → symbols ++ (symbol table e ∷ []) ≡ map (symbol table) (filter is_defined (map (symbol_entry bytes s) (range_with_len 0 (i + 1))))
symbol_more bytes table s i symbols e items is here =
    let more = filter_of_map_range_with_len_more is_defined (symbol_entry bytes s) 0 i i (omega arith) in
    let t : is_defined (symbol_entry bytes s i) ≡ true = sym (ap is_defined is) ∙ here in
    rw (more, t, map-append) (rw (items, is) refl)

pub symbol_skipped : (bytes table : List ℕ) (s : SectionHeader) (i : ℕ) (symbols : List Symbol) (e : SymbolEntry) → symbols ≡ map (symbol table) (filter is_defined (map (symbol_entry bytes s) (range_with_len 0 i))) → e ≡ symbol_entry bytes s i → is_defined e ≡ false → symbols ≡ map (symbol table) (filter is_defined (map (symbol_entry bytes s) (range_with_len 0 (i + 1))))
symbol_skipped bytes table s i symbols e items is elsewhere =
    let more = filter_of_map_range_with_len_more is_defined (symbol_entry bytes s) 0 i i (omega arith) in
    let t : is_defined (symbol_entry bytes s i) ≡ false = sym (ap is_defined is) ∙ elsewhere in
    rw (more, t, append-nil) items

-- a symbol table that was found is whole, since each is
pub sound_if_found : (bytes : List ℕ) (sections : List SectionHeader) (s : SectionHeader) → AreSections bytes sections → ((i : ℕ) → i < (file_header bytes).shnum → SectionIsSound bytes i) → find (λ (s : SectionHeader). s.kind == 2) sections ≡ Some s → IsSoundTable bytes s
sound_if_found bytes sections s e sound found =
    let w = find_sound (λ (s : SectionHeader). s.kind == 2) sections s found in
    let n = section_count bytes sections e in
    let among : w.0 < (file_header bytes).shnum = omega (arith, w.1) in
    let is : section_header bytes w.0 ≡ s = sym (section_in bytes sections w.0 s e among) ∙ w.2 in
    let kind : s.kind ≡ 2 = eqb-true s.kind 2 w.3 in
    subst (IsSoundTable bytes) is (sound w.0 among (ap (λ (t : SectionHeader). t.kind) is ∙ kind))
