-- Some answer is due, whatever the bytes.
use Rattle.std.proofs.Common.{◌≡◌, ℕ, zero, suc, ◌+◌, ◌/◌, ◌%◌, ◌<◌, ◌≤◌, ◌⊎◌, inl, inr, List, length, take, slice_index, refl, sym, subst, ◌∙◌, arith}
use Rattle.std.specs.Str.{bytes_eq}
use Rattle.std.proofs.lemmas.Bool.{cases_Bool, cases_eq, cases_lt, false≢true}
use Rattle.std.proofs.lemmas.Slice.Eq.{bytes_eq-Decides}
use Rattle.elf_image.specs.declared.error.ElfError.{ElfError}
use Rattle.elf_image.specs.declared.error.ElfError.TheVariants.{NoMemory, Short, NotElf, Class, Order, Kind, Machine, Header, Overlap, ThumbEntry, Symbols, TooLarge}
use Rattle.elf_image.specs.declared.fields.ProgramHeader.{ProgramHeader}
use Rattle.elf_image.specs.declared.fields.SectionHeader.{SectionHeader}
use Rattle.elf_image.specs.Causes.{Cause, EndsWithin, HasSections, IsFaultyHeader, IsFaultySection, IsFirstCause, IsFirstWithout, IsSoundHeader, IsSoundHeaderAt, IsSoundLoad, IsSoundTable, Passes, SectionInFile, SectionIsSound, magic, rank, string_table}
use Rattle.elf_image.specs.Fields.{file_header, program_header, program_header_at, program_header_place, program_headers, section_header, section_header_place, symbol_entry}
use Rattle.elf_image.specs.Laws.{ImagesAreLoaded, PassesOrRefused}
use Rattle.elf_image.specs.Overlaps.{IsLeastMeeting, Meet, NoneMeet}
use Rattle.elf_image.proofs.Loaded.{loaded, sound_loads}

abbrev Decided : Type 0 → Type 0
Decided P = P ⊎ (P → ⊥)

-- the first place at which something does not hold, if there is one
first_without : (P : ℕ → Type 0) → ((k : ℕ) → Decided (P k)) → (n : ℕ) → ((i : ℕ) × IsFirstWithout P n i) ⊎ ((k : ℕ) → k < n → P k)
first_without P test zero = inr (λ k h. absurd (omega arith))
first_without P test (suc n) = elim (first_without P test n) [
  | inl found ↦ inl (found.0, record { among = omega (arith, found.1.among); fails = found.1.fails; before = found.1.before })
  | inr all ↦ elim (test n) [
    | inl here ↦ inr (λ k h. elim (cases_lt k n) [ inl less ↦ all k less | inr more ↦ let same : n ≡ k = omega arith in subst P same here ])
    | inr fails ↦ inl (n, record { among = omega arith; fails = fails; before = all })
  ]
]

-- the first place at which something holds, if there is one
first_with : (P : ℕ → Type 0) → ((k : ℕ) → Decided (P k)) → (n : ℕ) → ((k : ℕ) × (k < n) × P k × ((j : ℕ) → j < k → P j → ⊥)) ⊎ ((k : ℕ) → k < n → P k → ⊥)
first_with P test zero = inr (λ k h p. omega arith)
first_with P test (suc n) = elim (first_with P test n) [
  | inl found ↦ inl (found.0, omega (arith, found.1), found.2, found.3)
  | inr none ↦ elim (test n) [
    | inl here ↦ inl (n, omega arith, here, none)
    | inr fails ↦ inr (λ k h p. elim (cases_lt k n) [ inl less ↦ none k less p | inr more ↦ let same : k ≡ n = omega arith in fails (subst P same p) ])
  ]
]

-- ---- program headers

sound_load : (len : ℕ) (h : ProgramHeader) → Decided (IsSoundLoad len h)
sound_load len h = elim (cases_lt len (h.offset + h.filesz)) [
  | inl bad ↦ inr (λ s. omega (arith, s.in_file))
  | inr a ↦ elim (cases_lt h.memsz h.filesz) [
    | inl bad ↦ inr (λ s. omega (arith, s.filled))
    | inr b ↦ elim (cases_lt 4294967296 (h.vaddr + h.memsz)) [
      | inl bad ↦ inr (λ s. omega (arith, s.in_space))
      | inr c ↦ inl (record { in_file = a; filled = b; in_space = c })
    ]
  ]
]

sound_header : (b : List ℕ) (at : ℕ) → Decided (IsSoundHeaderAt b at)
sound_header b at = elim (cases_lt (length b) (at + 32)) [
  | inl bad ↦ inr (λ s. omega (arith, s.in_file))
  | inr within ↦ elim (cases_eq (program_header_at b at).kind 1) [
    | inr other ↦ inl (record { in_file = within; load = λ e. absurd (other e) })
    | inl loads ↦ elim (sound_load (length b) (program_header_at b at)) [
      | inl sound ↦ inl (record { in_file = within; load = λ e. sound })
      | inr bad ↦ inr (λ s. bad (s.load loads))
    ]
  ]
]

faulty_header : (b : List ℕ) → ((i : ℕ) × IsFaultyHeader b i) ⊎ ((i : ℕ) → IsFaultyHeader b i → ⊥)
faulty_header b = elim (cases_eq (file_header b).phentsize 32) [
  | inl right ↦ elim (first_without (IsSoundHeader b) (λ k. sound_header b (program_header_place b k)) (file_header b).phnum) [
    | inl found ↦ inl (found.0, inr (right, found.1))
    | inr all ↦ inr (λ i f. none i right all f)
  ]
  | inr wrong ↦ elim (cases_eq (file_header b).phnum 0) [
    | inl bad ↦ inr (λ i f. empty i bad wrong f)
    | inr some ↦ inl (0, inl (some, wrong, refl))
  ]
]
  where
    none : (i : ℕ) → (file_header b).phentsize ≡ 32 → ((k : ℕ) → k < (file_header b).phnum → IsSoundHeader b k) → IsFaultyHeader b i → ⊥
    none i right all (inl f) = f.1 right
    none i right all (inr f) = f.1.fails (all i f.1.among)

    empty : (i : ℕ) → (file_header b).phnum ≡ 0 → ((file_header b).phentsize ≡ 32 → ⊥) → IsFaultyHeader b i → ⊥
    empty i bad wrong (inl f) = f.0 bad
    empty i bad wrong (inr f) = wrong f.0

meets : (g h : ProgramHeader) → Decided (Meet g h)
meets g h = elim (cases_eq g.kind 1) [
  | inr bad ↦ inr (λ m. bad m.first_loads)
  | inl a ↦ elim (cases_eq h.kind 1) [
    | inr bad ↦ inr (λ m. bad m.second_loads)
    | inl b ↦ elim (cases_lt 0 g.memsz) [
      | inr bad ↦ inr (λ m. omega (arith, m.first_fills))
      | inl c ↦ elim (cases_lt 0 h.memsz) [
        | inr bad ↦ inr (λ m. omega (arith, m.second_fills))
        | inl d ↦ elim (cases_lt g.vaddr (h.vaddr + h.memsz)) [
          | inr bad ↦ inr (λ m. omega (arith, m.first_begins))
          | inl e ↦ elim (cases_lt h.vaddr (g.vaddr + g.memsz)) [
            | inr bad ↦ inr (λ m. omega (arith, m.second_begins))
            | inl f ↦ inl (record { first_loads = a; second_loads = b; first_fills = c; second_fills = d; first_begins = e; second_begins = f })
          ]
        ]
      ]
    ]
  ]
]

module _ (header : ℕ → ProgramHeader) (n : ℕ) where
  abbrev Later : ℕ → ℕ → Type 0
  Later a b = (a < b) × Meet (header a) (header b)

  later : (a b : ℕ) → Decided (Later a b)
  later a b = elim (cases_lt a b) [
    | inr bad ↦ inr (λ x. omega (arith, x.0))
    | inl less ↦ elim (meets (header a) (header b)) [ inl m ↦ inl (less, m) | inr bad ↦ inr (λ x. bad x.1) ]
  ]

  abbrev MeetsLater : ℕ → Type 0
  MeetsLater a = (b : ℕ) × (b < n) × Later a b × ((j : ℕ) → j < b → Later a j → ⊥)

  meets_later : (a : ℕ) → Decided (MeetsLater a)
  meets_later a = elim (first_with (Later a) (later a) n) [ inl found ↦ inl found | inr none ↦ inr (λ x. none x.0 x.1 x.2) ]

  first_later : (a b : ℕ) → b < n → Later a b → MeetsLater a
  first_later a b within h = elim (first_with (Later a) (later a) n) [ inl found ↦ found | inr none ↦ absurd (none b within h) ]

  least_pair : ((a : ℕ) × (b : ℕ) × IsLeastMeeting header n a b) ⊎ NoneMeet header n
  least_pair = elim (first_with MeetsLater meets_later n) [
    | inr none ↦ inr (record { apart = λ a b o w m. none a (omega arith) (first_later a b w (o, m)) })
    | inl found ↦
        let a = found.0 in
        let next = found.2 in inl (
          a,
          next.0,
          record {
            ordered = next.2.0;
            among = next.1;
            meet = next.2.1;
            lower_first = λ c d h1 h2 h3 m. found.3 c h1 (first_later c d h3 (h2, m));
            lower_second = λ d h1 h2 m. next.3 d h2 (h1, m);
          },
        )
  ]

-- ---- sections

-- a place from the name on with a zero
abbrev Ends : List ℕ → ℕ → ℕ → Type 0
Ends table name k = (name ≤ k) × (slice_index table k ≡ 0)

ends : (table : List ℕ) (name k : ℕ) → Decided (Ends table name k)
ends table name k = elim (cases_lt k name) [
  | inl bad ↦ inr (λ x. omega (arith, x.0))
  | inr from ↦ elim (cases_eq (slice_index table k) 0) [ inl e ↦ inl (from, e) | inr bad ↦ inr (λ x. bad x.1) ]
]

ends_within : (table : List ℕ) (name : ℕ) → Decided (EndsWithin table name)
ends_within table name = elim (first_with (Ends table name) (ends table name) (length table)) [
  | inl found ↦ inl (found.0, found.2.0, found.1, found.2.1)
  | inr none ↦ inr (λ x. none x.0 x.2 (x.1, x.3))
]

sound_table : (b : List ℕ) (s : SectionHeader) → Decided (IsSoundTable b s)
sound_table b s = elim (cases_eq s.entsize 16) [
  | inr bad ↦ inr (λ t. bad t.entries)
  | inl a ↦ elim (cases_eq (s.size % 16) 0) [
    | inr bad ↦ inr (λ t. bad t.whole)
    | inl w ↦ elim (cases_lt (length b) (s.offset + s.size)) [
      | inl bad ↦ inr (λ t. omega (arith, t.in_file))
      | inr c ↦ elim (cases_lt s.link (file_header b).shnum) [
        | inr bad ↦ inr (λ t. omega (arith, t.strings.linked))
        | inl d ↦ elim (cases_lt (length b) ((section_header b s.link).offset + (section_header b s.link).size)) [
          | inl bad ↦ inr (λ t. omega (arith, t.strings.in_file))
          | inr e ↦ elim (first_without (λ i. EndsWithin (string_table b s) (symbol_entry b s i).name) (λ i. ends_within (string_table b s) (symbol_entry b s i).name) (s.size / 16)) [
            | inl found ↦ inr (λ t. found.1.fails (t.names found.0 found.1.among))
            | inr all ↦ inl (record { entries = a; whole = w; in_file = c; strings = record { linked = d; in_file = e }; names = all })
          ]
        ]
      ]
    ]
  ]
]

section_in_file : (b : List ℕ) (i : ℕ) → Decided (SectionInFile b i)
section_in_file b i = elim (cases_lt (length b) (section_header_place b i + 40)) [ inl bad ↦ inr (λ h. omega arith) | inr within ↦ inl within ]

section_is_sound : (b : List ℕ) (i : ℕ) → Decided (SectionIsSound b i)
section_is_sound b i = elim (cases_eq (section_header b i).kind 2) [
  | inr other ↦ inl (λ e. absurd (other e))
  | inl table ↦ elim (sound_table b (section_header b i)) [ inl sound ↦ inl (λ e. sound) | inr bad ↦ inr (λ h. bad (h table)) ]
]

faulty_section : (b : List ℕ) → ((i : ℕ) × IsFaultySection b i) ⊎ ((i : ℕ) → IsFaultySection b i → ⊥)
faulty_section b = elim (cases_eq (file_header b).shentsize 40) [
  | inr wrong ↦ inl (0, inl (wrong, refl))
  | inl right ↦ elim (first_without (SectionInFile b) (section_in_file b) (file_header b).shnum) [
    | inl found ↦ inl (found.0, inr (inl (right, found.1)))
    | inr within ↦ elim (first_without (SectionIsSound b) (section_is_sound b) (file_header b).shnum) [
      | inl found ↦ inl (found.0, inr (inr (right, within, found.1)))
      | inr sound ↦ inr (λ i f. none i right within sound f)
    ]
  ]
]
  where
    none : (i : ℕ) → (file_header b).shentsize ≡ 40 → ((k : ℕ) → k < (file_header b).shnum → SectionInFile b k) → ((k : ℕ) → k < (file_header b).shnum → SectionIsSound b k) → IsFaultySection b i → ⊥
    none i right within sound (inl f) = f.0 right
    none i right within sound (inr (inl f)) = f.1.fails (within i f.1.among)
    none i right within sound (inr (inr f)) = f.2.fails (sound i f.2.among)

faulty_symbols : (b : List ℕ) → ((i : ℕ) × HasSections b × IsFaultySection b i) ⊎ ((i : ℕ) → HasSections b × IsFaultySection b i → ⊥)
faulty_symbols b = elim (cases_eq (file_header b).shoff 0) [
  | inl bad ↦ inr (λ i f. f.0.placed bad)
  | inr placed ↦ elim (cases_eq (file_header b).shnum 0) [
    | inl bad ↦ inr (λ i f. f.0.some bad)
    | inr some ↦ elim (faulty_section b) [
      | inl found ↦ inl (found.0, record { placed = placed; some = some }, found.1)
      | inr none ↦ inr (λ i f. none i f.1)
    ]
  ]
]

-- ---- causes, in their order

-- some cause of a rank stands, or none does
abbrev AtRank : List ℕ → ℕ → Type 0
AtRank b n = ((e : ElfError) × (rank e ≡ n) × Cause b e) ⊎ ((e : ElfError) → rank e ≡ n → Cause b e → ⊥)

at_short : (b : List ℕ) → AtRank b 1
at_short b = elim (cases_lt (length b) 52) [ inl h ↦ inl (Short (length b), refl, (h, refl)) | inr h ↦ inr (none h) ]
  where
    none : 52 ≤ length b → (e : ElfError) → rank e ≡ 1 → Cause b e → ⊥
    none h (Short at) r c = omega (arith, c.0)
    none h e r c = omega arith

at_elf : (b : List ℕ) → AtRank b 2
at_elf b = elim (cases_Bool (bytes_eq (take 4 b) magic)) [
  | inl same ↦ inr (none ((bytes_eq-Decides (take 4 b) magic).0 same))
  | inr other ↦ inl (NotElf, refl, λ e. false≢true (sym other ∙ (bytes_eq-Decides (take 4 b) magic).1 e))
]
  where
    none : take 4 b ≡ magic → (e : ElfError) → rank e ≡ 2 → Cause b e → ⊥
    none h NotElf r c = c h
    none h e r c = omega arith

at_class : (b : List ℕ) → AtRank b 3
at_class b = elim (cases_eq (file_header b).class 1) [ inr h ↦ inl (Class (file_header b).class, refl, (h, refl)) | inl h ↦ inr (none h) ]
  where
    none : (file_header b).class ≡ 1 → (e : ElfError) → rank e ≡ 3 → Cause b e → ⊥
    none h (Class found) r c = c.0 h
    none h e r c = omega arith

at_order : (b : List ℕ) → AtRank b 4
at_order b = elim (cases_eq (file_header b).order 1) [ inr h ↦ inl (Order (file_header b).order, refl, (h, refl)) | inl h ↦ inr (none h) ]
  where
    none : (file_header b).order ≡ 1 → (e : ElfError) → rank e ≡ 4 → Cause b e → ⊥
    none h (Order found) r c = c.0 h
    none h e r c = omega arith

at_kind : (b : List ℕ) → AtRank b 5
at_kind b = elim (cases_eq (file_header b).kind 2) [ inr h ↦ inl (Kind (file_header b).kind, refl, (h, refl)) | inl h ↦ inr (none h) ]
  where
    none : (file_header b).kind ≡ 2 → (e : ElfError) → rank e ≡ 5 → Cause b e → ⊥
    none h (Kind found) r c = c.0 h
    none h e r c = omega arith

at_machine : (b : List ℕ) → AtRank b 6
at_machine b = elim (cases_eq (file_header b).machine 40) [ inr h ↦ inl (Machine (file_header b).machine, refl, (h, refl)) | inl h ↦ inr (none h) ]
  where
    none : (file_header b).machine ≡ 40 → (e : ElfError) → rank e ≡ 6 → Cause b e → ⊥
    none h (Machine found) r c = c.0 h
    none h e r c = omega arith

at_header : (b : List ℕ) → AtRank b 7
at_header b = elim (faulty_header b) [ inl found ↦ inl (Header found.0, refl, found.1) | inr h ↦ inr (none h) ]
  where
    none : ((i : ℕ) → IsFaultyHeader b i → ⊥) → (e : ElfError) → rank e ≡ 7 → Cause b e → ⊥
    none h (Header index) r c = h index c
    none h e r c = omega arith

at_overlap : (b : List ℕ) → AtRank b 8
at_overlap b = elim (least_pair (program_header b) (file_header b).phnum) [ inl found ↦ inl (Overlap found.0 found.1, refl, found.2) | inr h ↦ inr (none h) ]
  where
    none : NoneMeet (program_header b) (file_header b).phnum → (e : ElfError) → rank e ≡ 8 → Cause b e → ⊥
    none h (Overlap x y) r c = h.apart x y c.ordered c.among c.meet
    none h e r c = omega arith

at_entry : (b : List ℕ) → AtRank b 9
at_entry b = elim (cases_eq ((file_header b).entry % 2) 1) [ inl h ↦ inl (ThumbEntry, refl, h) | inr h ↦ inr (none h) ]
  where
    none : ((file_header b).entry % 2 ≡ 1 → ⊥) → (e : ElfError) → rank e ≡ 9 → Cause b e → ⊥
    none h ThumbEntry r c = h c
    none h e r c = omega arith

at_symbols : (b : List ℕ) → AtRank b 10
at_symbols b = elim (faulty_symbols b) [ inl found ↦ inl (Symbols found.0, refl, (found.1, found.2)) | inr h ↦ inr (none h) ]
  where
    none : ((i : ℕ) → HasSections b × IsFaultySection b i → ⊥) → (e : ElfError) → rank e ≡ 10 → Cause b e → ⊥
    none h (Symbols index) r c = h index c
    none h e r c = omega arith

at_size : (b : List ℕ) → AtRank b 11
at_size b = elim (cases_lt 16777216 (length b)) [ inl h ↦ inl (TooLarge (length b), refl, (h, refl)) | inr h ↦ inr (none h) ]
  where
    none : length b ≤ 16777216 → (e : ElfError) → rank e ≡ 11 → Cause b e → ⊥
    none h (TooLarge found) r c = omega (arith, c.0)
    none h e r c = omega arith

abbrev Due : List ℕ → ℕ → Type 0
Due b n = Passes n b ⊎ ((e : ElfError) × IsFirstCause b e)

none_before : (b : List ℕ) → Due b 0
none_before b = inl (record { none = none })
  where
    none : (e : ElfError) → rank e ≤ 0 → Cause b e → ⊥
    none NoMemory r c = c
    none e r c = omega arith

-- one rank more
next : (b : List ℕ) (n m : ℕ) → m ≡ n + 1 → Due b n → AtRank b m → Due b m
next b n m is (inr found) at = inr found
next b n m is (inl passes) (inl found) = inr (found.0, record { stands = found.2; first = λ f r c. passes.none f (omega (arith, found.1)) c })
next b n m is (inl passes) (inr none) = inl (record {
  none = λ e r c. elim (cases_lt (rank e) m) [ inl less ↦ passes.none e (omega arith) c | inr more ↦ none e (omega arith) c ];
})

-- bytes pass, or a first cause stands
pub due : PassesOrRefused
due b =
    next b 10 11 refl (next b 9 10 refl (next b 8 9 refl (next b 7 8 refl (next b 6 7 refl (next b 5 6 refl (next b 4 5 refl (next b 3 4 refl (next b 2 3 refl (next b 1 2 refl (next b 0 1 refl (none_before b)
    (at_short b)) (at_elf b)) (at_class b)) (at_order b)) (at_kind b)) (at_machine b)) (at_header b)) (at_overlap b)) (at_entry b)) (at_symbols b)) (at_size b)

-- ---- bytes that pass

-- their program headers are sound
sound_headers : (b : List ℕ) → Passes 11 b → (i : ℕ) → i < (file_header b).phnum → IsSoundHeader b i
sound_headers b p = elim (cases_eq (file_header b).phentsize 32) [
  | inl right ↦ elim (first_without (IsSoundHeader b) (λ k. sound_header b (program_header_place b k)) (file_header b).phnum) [
    | inl found ↦ absurd (p.none (Header found.0) (omega arith) (inr (right, found.1)))
    | inr all ↦ all
  ]
  | inr wrong ↦ elim (cases_eq (file_header b).phnum 0) [
    | inl empty ↦ λ i h. absurd (omega (arith, empty, h))
    | inr some ↦ absurd (p.none (Header 0) (omega arith) (inl (some, wrong, refl)))
  ]
]

-- and no two of these meet
none_meet : (b : List ℕ) → Passes 11 b → NoneMeet (program_header b) (file_header b).phnum
none_meet b p = elim (least_pair (program_header b) (file_header b).phnum) [
  | inl found ↦ absurd (p.none (Overlap found.0 found.1) (omega arith) found.2)
  | inr none ↦ none
]

-- so what they load lies apart within the address space
pub images_are_loaded : ImagesAreLoaded
images_are_loaded b p = loaded b (sound_loads b (program_headers b) refl (sound_headers b p)) (none_meet b p)
