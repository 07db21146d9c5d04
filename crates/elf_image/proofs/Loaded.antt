-- From the list of program headers to the file, and from sound headers to segments.
use Rattle.std.proofs.Common.{◌≡◌, ℕ, ◌+◌, ◌<◌, ◌≤◌, inl, inr, true, List, length, get_or, map, drop, refl, sym, ap, subst, ◌∙◌, arith}
use Rattle.std.specs.Prelude.{All, AllPairs, filter}
use Rattle.std.proofs.lemmas.Bool.{cases_lt, eqb-true, and_parts}
use Rattle.std.proofs.lemmas.Bool.Decides.{Decides-ltb}
use Rattle.std.proofs.lemmas.List.{get_or-map, length-map, length-take}
use Rattle.std.proofs.lemmas.List.Elements.{All-filter, filter_passes}
use Rattle.std.proofs.lemmas.List.FromFn.{get_or-map-range_with_len, length-map-range_with_len}
use Rattle.std.proofs.lemmas.List.Kept.{AllPairs-filter}
use Rattle.elf_image.specs.declared.error.ElfError.{ElfError}
use Rattle.elf_image.specs.declared.error.ElfError.TheVariants.{Overlap}
use Rattle.elf_image.specs.declared.fields.ProgramHeader.{ProgramHeader}
use Rattle.elf_image.specs.Bytes.{bytes_at}
use Rattle.elf_image.specs.Causes.{Cause, IsLeastOverlap, IsSoundHeader, IsSoundLoad, Passes, rank}
use Rattle.elf_image.specs.Fields.{file_header, fills, program_header, program_headers}
use Rattle.elf_image.specs.Meaning.{AreApart, AreLoaded, IsWithinSpace, segment, segments_of}
use Rattle.elf_image.specs.Overlaps.{IsLeastMeeting, Meet, NoneMeet, header_in, no_header}

pub header_count : (b : List ℕ) (hs : List ProgramHeader) → hs ≡ program_headers b → length hs ≡ (file_header b).phnum
header_count b hs e = ap length e ∙ length-map-range_with_len (program_header b) 0 (file_header b).phnum

pub header_at : (b : List ℕ) (hs : List ProgramHeader) (k : ℕ) (d : ProgramHeader) → hs ≡ program_headers b → k < (file_header b).phnum → get_or hs k d ≡ program_header b k
header_at b hs k d e h =
    rw e (get_or-map-range_with_len (program_header b) 0 (file_header b).phnum k k d h (omega arith))

-- two headers of the list meet exactly where those of the file do
meet_in_file : (b : List ℕ) (hs : List ProgramHeader) (i j : ℕ) → hs ≡ program_headers b → i < (file_header b).phnum → j < (file_header b).phnum → Meet (header_in hs i) (header_in hs j) → Meet (program_header b i) (program_header b j)
meet_in_file b hs i j e hi hj m =
    subst (λ (g : ProgramHeader). Meet g (program_header b j)) (header_at b hs i no_header e hi)
    (subst (λ (h : ProgramHeader). Meet (header_in hs i) h) (header_at b hs j no_header e hj) m)

meet_in_list : (b : List ℕ) (hs : List ProgramHeader) (i j : ℕ) → hs ≡ program_headers b → i < (file_header b).phnum → j < (file_header b).phnum → Meet (program_header b i) (program_header b j) → Meet (header_in hs i) (header_in hs j)
meet_in_list b hs i j e hi hj m =
    subst (λ (g : ProgramHeader). Meet g (header_in hs j)) (sym (header_at b hs i no_header e hi))
    (subst (λ (h : ProgramHeader). Meet (program_header b i) h) (sym (header_at b hs j no_header e hj)) m)

pub none_meet_in_file : (b : List ℕ) (hs : List ProgramHeader) → hs ≡ program_headers b → NoneMeet (header_in hs) (length hs) → NoneMeet (program_header b) (file_header b).phnum
none_meet_in_file b hs e none =
    let n = header_count b hs e in
    record { apart = λ i j h1 h2 m. none.apart i j h1 (omega arith) (meet_in_list b hs i j e (omega arith) h2 m) }

pub least_in_file : (b : List ℕ) (hs : List ProgramHeader) (x y : ℕ) → hs ≡ program_headers b → IsLeastMeeting (header_in hs) (length hs) x y → IsLeastOverlap b x y
least_in_file b hs x y e least =
    let n = header_count b hs e in
    let o = least.ordered in
    let a = least.among in
    record {
      ordered = o;
      among = omega arith;
      meet = meet_in_file b hs x y e (omega arith) (omega arith) least.meet;
      lower_first = λ i j h1 h2 h3 m. least.lower_first i j h1 h2 (omega arith) (meet_in_list b hs i j e (omega arith) h3 m);
      lower_second = λ j h1 h2 m. least.lower_second j h1 h2 (meet_in_list b hs x j e (omega arith) (omega arith) m);
    }

-- no cause up to the overlaps stands, where none before them does and no two headers meet
pub passes_overlaps : (b : List ℕ) → Passes 7 b → NoneMeet (program_header b) (file_header b).phnum → Passes 8 b
passes_overlaps b p none = record { none = step }
  where
    step : (e : ElfError) → rank e ≤ 8 → Cause b e → ⊥
    step (Overlap x y) r k = none.apart x y k.ordered k.among k.meet
    step e r k = p.none e (omega arith) k

-- each load header of the list is sound
pub sound_loads : (b : List ℕ) (hs : List ProgramHeader) → hs ≡ program_headers b → ((i : ℕ) → i < (file_header b).phnum → IsSoundHeader b i) → All (λ h. h.kind ≡ 1 → IsSoundLoad (length b) h) hs
unfolding program_header
sound_loads b hs e sound = λ k d h.
    let n = header_count b hs e in
    let P : ProgramHeader → Type 0 = λ (x : ProgramHeader). x.kind ≡ 1 → IsSoundLoad (length b) x in
    subst P (sym (header_at b hs k d e (omega arith))) (sound k (omega arith)).load

-- each two headers of the list are apart
pairs_apart : (b : List ℕ) (hs : List ProgramHeader) → hs ≡ program_headers b → NoneMeet (program_header b) (file_header b).phnum → AllPairs (λ g h. Meet g h → ⊥) hs
pairs_apart b hs e none = λ i j d h1 h2 m.
    let n = header_count b hs e in
    let hi : i < (file_header b).phnum = omega arith in
    let hj : j < (file_header b).phnum = omega arith in
    let first = subst (λ (g : ProgramHeader). Meet g (get_or hs j d)) (header_at b hs i d e hi) m in
    none.apart i j h1 hj (subst (λ (h : ProgramHeader). Meet (program_header b i) h) (header_at b hs j d e hj) first)

-- a load header that fills memory
record Filling (h : ProgramHeader) : Type 0 where
  loads : h.kind ≡ 1
  fills_some : 0 < h.memsz

filling : (h : ProgramHeader) → fills h ≡ true → Filling h
filling h f =
    let w = and_parts _ _ f in
    record { loads = eqb-true h.kind 1 w.0; fills_some = (Decides-ltb 0 h.memsz).0 w.1 }

within_space : (b : List ℕ) (h : ProgramHeader) → Filling h → IsSoundLoad (length b) h → IsWithinSpace (segment b h)
within_space b h f s = record {
  some = f.fills_some;
  in_space = s.in_space;
  fit = fit b h.offset h.filesz h.memsz s.filled;
}
  where
    fit : (b : List ℕ) (at size most : ℕ) → size ≤ most → length (bytes_at b at size) ≤ most
    fit b at size most h = let e = length-take size (drop at b) in omega arith

segments_apart : (b : List ℕ) (g h : ProgramHeader) → Filling g → Filling h → (Meet g h → ⊥) → AreApart (segment b g) (segment b h)
segments_apart b g h fg fh none =
    elim (cases_lt h.vaddr (g.vaddr + g.memsz)) [
      | inr first ↦ inl first
      | inl before ↦ elim (cases_lt g.vaddr (h.vaddr + h.memsz)) [
        | inr second ↦ inr second
        | inl behind ↦ absurd (none (record {
          first_loads = fg.loads;
          second_loads = fh.loads;
          first_fills = fg.fills_some;
          second_fills = fh.fills_some;
          first_begins = behind;
          second_begins = before;
        }))
      ]
    ]

-- the segments of sound headers that do not meet
pub loaded : (b : List ℕ) → All (λ h. h.kind ≡ 1 → IsSoundLoad (length b) h) (program_headers b) → NoneMeet (program_header b) (file_header b).phnum → AreLoaded (segments_of b)
loaded b sound none =
    let hs = filter fills (program_headers b) in
    let len : length (map (segment b) hs) ≡ length hs = length-map hs (segment b) in
    let full : All (λ h. fills h ≡ true) hs = filter_passes fills (program_headers b) in
    let good : All (λ h. h.kind ≡ 1 → IsSoundLoad (length b) h) hs = All-filter fills (λ h. h.kind ≡ 1 → IsSoundLoad (length b) h) (program_headers b) sound in
    let apart : AllPairs (λ g h. Meet g h → ⊥) hs = AllPairs-filter (λ g h. Meet g h → ⊥) fills (program_headers b) (pairs_apart b (program_headers b) refl none) in
    record {
      within = λ k d h.
          let hk : k < length hs = omega arith in
          let f = filling (header_in hs k) (full k no_header hk) in
          subst IsWithinSpace (sym (get_or-map (segment b) hs k no_header d hk)) (within_space b (header_in hs k) f (good k no_header hk f.loads));
      apart = λ i j d h1 h2.
          let hj : j < length hs = omega arith in
          let hi : i < length hs = omega arith in
          let fi = filling (header_in hs i) (full i no_header hi) in
          let fj = filling (header_in hs j) (full j no_header hj) in
          rw (get_or-map (segment b) hs i no_header d hi, get_or-map (segment b) hs j no_header d hj) (segments_apart b (header_in hs i) (header_in hs j) fi fj (apart i j no_header h1 hj));
    }
