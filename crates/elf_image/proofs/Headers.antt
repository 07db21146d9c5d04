-- Steps of the loop over the program headers.
use Rattle.std.proofs.Common.{◌≡◌, ℕ, ◌+◌, ◌<◌, inr, List, [], ◌∷◌, ◌++◌, map, refl, sym, ap, subst, ◌∙◌, arith, below_more}
use Rattle.std.specs.List.{range_with_len}
use Rattle.std.proofs.lemmas.List.FromFn.{map-range_with_len_more}
use Rattle.elf_image.specs.declared.error.ElfError.{ElfError}
use Rattle.elf_image.specs.declared.error.ElfError.TheVariants.{Header}
use Rattle.elf_image.specs.declared.fields.ProgramHeader.{ProgramHeader}
use Rattle.elf_image.specs.Causes.{IsSoundHeader, IsSoundHeaderAt, IsRefusal, Passes, Cause, rank}
use Rattle.elf_image.specs.Fields.{file_header, program_header, program_header_at, program_header_place}

-- a cause after the first n, none of which stands, is the first
pub refusal_after : (bytes : List ℕ) (e : ElfError) (n : ℕ) → Passes n bytes → rank e ≡ n + 1 → Cause bytes e → IsRefusal bytes e
refusal_after bytes e n p r c =
    inr (record { stands = c; first = λ f h k. p.none f (omega arith) k })

-- a header that is not sound is refused, after sound ones
pub refused_header : (bytes : List ℕ) (index at : ℕ) → Passes 6 bytes → (file_header bytes).phentsize ≡ 32 → index < (file_header bytes).phnum → ((i : ℕ) → i < index → IsSoundHeader bytes i) → at ≡ program_header_place bytes index → (IsSoundHeaderAt bytes at → ⊥) → IsRefusal bytes (Header index)
refused_header bytes index at p sized among sound place bad =
    refusal_after bytes (Header index) 6 p refl
    (inr (sized, record { among = among; fails = λ s. bad (subst (IsSoundHeaderAt bytes) (sym place) s); before = sound }))

-- the next header
pub header_more : (bytes : List ℕ) (index at : ℕ) (headers : List ProgramHeader) (h : ProgramHeader) → headers ≡ map (program_header bytes) (range_with_len 0 index) → at ≡ program_header_place bytes index → h ≡ program_header_at bytes at → headers ++ (h ∷ []) ≡ map (program_header bytes) (range_with_len 0 (index + 1))
unfolding program_header
header_more bytes index at headers h items place is =
    let more = map-range_with_len_more (program_header bytes) 0 index index (omega arith) in
    let here : h ≡ program_header bytes index = is ∙ ap (program_header_at bytes) place in
    rw more (rw (items, here) refl)

-- the headers so far and the next are sound
pub sound_more : (bytes : List ℕ) (index at : ℕ) → ((i : ℕ) → i < index → IsSoundHeader bytes i) → at ≡ program_header_place bytes index → IsSoundHeaderAt bytes at → (i : ℕ) → i < index + 1 → IsSoundHeader bytes i
sound_more bytes index at sound place s =
    below_more (IsSoundHeader bytes) index sound (subst (IsSoundHeaderAt bytes) place s)
