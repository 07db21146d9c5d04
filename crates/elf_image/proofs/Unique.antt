-- At most one refusal has the first cause.
use Rattle.std.proofs.Common.{◌≡◌, ℕ, ◌≤◌, ◌⊎◌, inl, inr, List, Ok, Err, Result, refl, sym, ap, subst, ◌∙◌, arith}
use Rattle.std.specs.Prelude.{IfErr, IsErrAnd, OnOk}
use Rattle.std.proofs.lemmas.Bool.{cases_lt}
use Rattle.elf_image.specs.declared.error.ElfError.{ElfError}
use Rattle.elf_image.specs.declared.error.ElfError.TheVariants.{NoMemory, Short, NotElf, Class, Order, Kind, Machine, Header, Overlap, ThumbEntry, Symbols, TooLarge}
use Rattle.elf_image.specs.declared.fields.ProgramHeader.{ProgramHeader}
use Rattle.elf_image.specs.Causes.{Cause, IsFaultyHeader, IsFaultySection, IsFirstCause, IsFirstWithout, IsLeastOverlap, IsRefusal, IsSoundHeader, Passes, SectionInFile, SectionIsSound, rank}
use Rattle.elf_image.specs.Fields.{file_header, program_header}
use Rattle.elf_image.specs.Overlaps.{IsLeastMeeting}

-- the first place at which something does not hold is one place
one_first : (P : ℕ → Type 0) (n i j : ℕ) → IsFirstWithout P n i → IsFirstWithout P n j → i ≡ j
one_first P n i j x y = elim (cases_lt i j) [
  | inl h ↦ absurd (x.fails (y.before i h))
  | inr h ↦ elim (cases_lt j i) [ inl k ↦ absurd (y.fails (x.before j k)) | inr k ↦ omega arith ]
]

one_header : (b : List ℕ) (i j : ℕ) → IsFaultyHeader b i → IsFaultyHeader b j → i ≡ j
one_header b i j (inl x) (inl y) = x.2 ∙ sym y.2
one_header b i j (inl x) (inr y) = absurd (x.1 y.0)
one_header b i j (inr x) (inl y) = absurd (y.1 x.0)
one_header b i j (inr x) (inr y) = one_first (IsSoundHeader b) (file_header b).phnum i j x.1 y.1

one_section : (b : List ℕ) (i j : ℕ) → IsFaultySection b i → IsFaultySection b j → i ≡ j
one_section b i j (inl x) (inl y) = x.1 ∙ sym y.1
one_section b i j (inl x) (inr (inl y)) = absurd (x.0 y.0)
one_section b i j (inl x) (inr (inr y)) = absurd (x.0 y.0)
one_section b i j (inr (inl x)) (inl y) = absurd (y.0 x.0)
one_section b i j (inr (inl x)) (inr (inl y)) = one_first (SectionInFile b) (file_header b).shnum i j x.1 y.1
one_section b i j (inr (inl x)) (inr (inr y)) = absurd (x.1.fails (y.1 i x.1.among))
one_section b i j (inr (inr x)) (inl y) = absurd (y.0 x.0)
one_section b i j (inr (inr x)) (inr (inl y)) = absurd (y.1.fails (x.1 j y.1.among))
one_section b i j (inr (inr x)) (inr (inr y)) = one_first (SectionIsSound b) (file_header b).shnum i j x.2 y.2

-- the least pair has one first header
one_lower : (f : ℕ → ProgramHeader) (n a b c d : ℕ) → IsLeastMeeting f n a b → IsLeastMeeting f n c d → a ≡ c
one_lower f n a b c d x y = elim (cases_lt a c) [
  | inl h ↦ absurd (y.lower_first a b h x.ordered x.among x.meet)
  | inr h ↦ elim (cases_lt c a) [ inl k ↦ absurd (x.lower_first c d k y.ordered y.among y.meet) | inr k ↦ omega arith ]
]

-- and one second header
one_upper : (f : ℕ → ProgramHeader) (n a b d : ℕ) → IsLeastMeeting f n a b → IsLeastMeeting f n a d → b ≡ d
one_upper f n a b d x y = elim (cases_lt b d) [
  | inl h ↦ absurd (y.lower_second b x.ordered h x.meet)
  | inr h ↦ elim (cases_lt d b) [ inl k ↦ absurd (x.lower_second d y.ordered k y.meet) | inr k ↦ omega arith ]
]

one_overlap : (bytes : List ℕ) (a b c d : ℕ) → IsLeastOverlap bytes a b → IsLeastOverlap bytes c d → Overlap a b ≡ Overlap c d
one_overlap bytes a b c d x y =
    let f = program_header bytes in
    let n = (file_header bytes).phnum in
    let first : a ≡ c = one_lower f n a b c d x y in
    let second : b ≡ d = one_upper f n a b d x (subst (λ (k : ℕ). IsLeastMeeting f n k d) (sym first) y) in
    cc

same_rank : (b : List ℕ) (e f : ElfError) → Cause b e → Cause b f → rank e ≡ rank f → e ≡ f
same_rank b NoMemory f c d r = absurd c
same_rank b (Short x) (Short y) c d r = ap Short (c.1 ∙ sym d.1)
same_rank b NotElf NotElf c d r = refl
same_rank b (Class x) (Class y) c d r = ap Class (c.1 ∙ sym d.1)
same_rank b (Order x) (Order y) c d r = ap Order (c.1 ∙ sym d.1)
same_rank b (Kind x) (Kind y) c d r = ap Kind (c.1 ∙ sym d.1)
same_rank b (Machine x) (Machine y) c d r = ap Machine (c.1 ∙ sym d.1)
same_rank b (Header x) (Header y) c d r = ap Header (one_header b x y c d)
same_rank b (Overlap x y) (Overlap z w) c d r = one_overlap b x y z w c d
same_rank b ThumbEntry ThumbEntry c d r = refl
same_rank b (Symbols x) (Symbols y) c d r = ap Symbols (one_section b x y c.1 d.1)
same_rank b (TooLarge x) (TooLarge y) c d r = ap TooLarge (c.1 ∙ sym d.1)
same_rank b e f c d r = absurd (omega arith)

-- two first causes are one
pub one_first_cause : (b : List ℕ) (e f : ElfError) → IsFirstCause b e → IsFirstCause b f → e ≡ f
one_first_cause b e f x y = elim (cases_lt (rank e) (rank f)) [
  | inl h ↦ absurd (y.first e h x.stands)
  | inr h ↦ elim (cases_lt (rank f) (rank e)) [
    | inl k ↦ absurd (x.first f k y.stands)
    | inr k ↦ same_rank b e f x.stands y.stands (omega arith)
  ]
]

-- the refusal of bytes that have a first cause
pub refusal_is : (b : List ℕ) (e f : ElfError) → IsFirstCause b e → IsRefusal b f → (f ≡ NoMemory) ⊎ (f ≡ e)
refusal_is b e f x (inl h) = inl h
refusal_is b e f x (inr h) = inr (one_first_cause b f e h x)

-- no refusal has a rank above 11
pub rank_bound : (e : ElfError) → rank e ≤ 11
rank_bound NoMemory = omega arith
rank_bound (Short x) = omega arith
rank_bound NotElf = omega arith
rank_bound (Class x) = omega arith
rank_bound (Order x) = omega arith
rank_bound (Kind x) = omega arith
rank_bound (Machine x) = omega arith
rank_bound (Header x) = omega arith
rank_bound (Overlap x y) = omega arith
rank_bound ThumbEntry = omega arith
rank_bound (Symbols x) = omega arith
rank_bound (TooLarge x) = omega arith

-- bytes that no cause refuses are refused for want of memory alone
pub read_unless_memory : {X : Type 0} (b : List ℕ) (r : Result X ElfError) → IfErr r (IsRefusal b) → Passes 11 b → IfErr r (λ e. e ≡ NoMemory)
read_unless_memory b (Ok x) q p = tt
read_unless_memory b (Err e) (inl h) p = h
read_unless_memory b (Err e) (inr h) p = absurd (p.none e (rank_bound e) h.stands)

-- bytes with a first cause are refused by it, or for want of memory
pub exact_refusal : {X : Type 0} (b : List ℕ) (r : Result X ElfError) (first : ElfError) → OnOk r (Passes 11 b) → IfErr r (IsRefusal b) → IsFirstCause b first → IsErrAnd r (λ e. (e ≡ NoMemory) ⊎ (e ≡ first))
exact_refusal b (Ok x) first p q h = absurd (p.none first (rank_bound first) h.stands)
exact_refusal b (Err e) first p q h = refusal_is b first e h q
