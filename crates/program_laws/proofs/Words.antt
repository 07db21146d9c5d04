-- Words of code lie within memory, and can be read.
use Rattle.std.proofs.Common.{◌≡◌, ℕ, ◌+◌, ◌%◌, ◌^◌, ◌<◌, ◌≤◌, Bool, true, false, cond, ltb, leb, ◌==◌, ◌&&◌, List, [], ◌∷◌, Some, None, option_map, All, ◌⊎◌, refl, sym, ap, ◌∙◌, inl, inr, arith}
use Rattle.std.proofs.lemmas.Bool.{false≢true, and_parts, or_cases}
use Rattle.std.proofs.lemmas.Bool.Decides.{nat_tests}
use Rattle.std.proofs.lemmas.List.Elements.{All-head, All-tail}
use Rattle.std.specs.List.{find, list_any}
use Rattle.wx_base.specs.declared.image.Image.{Image}
use Rattle.wx_base.specs.declared.image.Segment.{Segment}
use Rattle.wx_base.specs.Bits.{add_words, word_of_bytes}
use Rattle.wx_base.specs.Functions.{code_at}
use Rattle.wx_base.specs.Image.{byte_in, byte_of, has_code, is_code_word, spans, word_from, word_of}
use Rattle.flow_laws.specs.Programs.{EndsInMemory}

below : (m n : ℕ) → ltb m n ≡ true → m < n
below m n t = grind (arith, nat_tests)

abbrev Ends : Segment → Type 0
Ends s = s.first + s.size ≤ 2 ^ 32

abbrev codes_at : ℕ → Segment → Bool
codes_at at segment = segment.code && spans at segment

code_below : (at : ℕ) (segments : List Segment) → All Ends segments → list_any (codes_at at) segments ≡ true → at < 2 ^ 32
code_below at [] all e = absurd (false≢true e)
code_below at (s ∷ segments) all e = elim (or_cases (codes_at at s) (list_any (codes_at at) segments) e) [
  | inl h ↦
      let spanned = (and_parts s.code (spans at s) h).1 in
      let less : at < s.first + s.size = below at (s.first + s.size) (and_parts (leb s.first at) (ltb at (s.first + s.size)) spanned).1 in
      let most : s.first + s.size ≤ 2 ^ 32 = All-head Ends s segments all in
      omega (arith, less, most)
  | inr h ↦ code_below at segments (All-tail Ends s segments all) h
]

-- a segment is found at each address with code
abbrev FoundAt : ℕ → List Segment → Type 0
FoundAt at segments = (s : Segment) × (find (λ segment. spans at segment) segments ≡ Some s)

segment_there : (at : ℕ) (segments : List Segment) → list_any (codes_at at) segments ≡ true → FoundAt at segments
segment_there at [] e = absurd (false≢true e)
segment_there at (s ∷ segments) e = by (spans at s) refl (segment_there at segments) (or_cases (codes_at at s) (list_any (codes_at at) segments) e)
  where
    by : (b : Bool) → spans at s ≡ b → (list_any (codes_at at) segments ≡ true → FoundAt at segments) → (codes_at at s ≡ true) ⊎ (list_any (codes_at at) segments ≡ true) → FoundAt at (s ∷ segments)
    by true is rest h = (s, ap (λ b. cond b (Some s) (find (λ segment. spans at segment) segments)) is)
    by false is rest (inl h) = absurd (false≢true (sym is ∙ (and_parts s.code (spans at s) h).1))
    by false is rest (inr h) = let r = rest h in (r.0, ap (λ b. cond b (Some s) (find (λ segment. spans at segment) segments)) is ∙ r.1)

byte_there : (image : Image) (at : ℕ) → has_code image at ≡ true → (byte : ℕ) × (byte_of image at ≡ Some byte)
byte_there image at code = let s = segment_there at image.segments code in (byte_in s.0 at, ap (option_map (λ segment. byte_in segment at)) s.1)

-- the four addresses of a word of code
record HasFour (image : Image) (at : ℕ) : Type 0 where
  first : has_code image at ≡ true
  second : has_code image (at + 1) ≡ true
  third : has_code image (at + 2) ≡ true
  fourth : has_code image (at + 3) ≡ true

four : (image : Image) (at : ℕ) → is_code_word image at ≡ true → HasFour image at
four image a code =
    let a3 = and_parts ((a % 4 == 0) && has_code image a && has_code image (a + 1) && has_code image (a + 2)) (has_code image (a + 3)) code in
    let a2 = and_parts ((a % 4 == 0) && has_code image a && has_code image (a + 1)) (has_code image (a + 2)) a3.0 in
    let a1 = and_parts ((a % 4 == 0) && has_code image a) (has_code image (a + 1)) a2.0 in
    record { first = (and_parts (a % 4 == 0) (has_code image a) a1.0).1; second = a1.1; third = a2.1; fourth = a3.1 }

pub word_below : (image : Image) (at : ℕ) → EndsInMemory image → is_code_word image at ≡ true → at < 2 ^ 32
word_below image at ends code = code_below at image.segments ends.each (four image at code).first

behind_within : (at k : ℕ) → at + k < 2 ^ 32 → add_words at k ≡ at + k
behind_within at k less = omega (arith, less)

pub word_there : (image : Image) (at : ℕ) → EndsInMemory image → is_code_word image at ≡ true → (word : ℕ) × (code_at image at ≡ Some word)
unfolding word_of
word_there image at ends code =
    let f = four image at code in
    let top : at + 3 < 2 ^ 32 = code_below (at + 3) image.segments ends.each f.fourth in
    let a = byte_there image at f.first in
    let b = byte_there image (at + 1) f.second in
    let c = byte_there image (at + 2) f.third in
    let d = byte_there image (at + 3) f.fourth in
    let b_is : byte_of image (add_words at 1) ≡ Some b.0 = ap (byte_of image) (behind_within at 1 (omega (arith, top))) ∙ b.1 in
    let c_is : byte_of image (add_words at 2) ≡ Some c.0 = ap (byte_of image) (behind_within at 2 (omega (arith, top))) ∙ c.1 in
    let d_is : byte_of image (add_words at 3) ≡ Some d.0 = ap (byte_of image) (behind_within at 3 (omega (arith, top))) ∙ d.1 in
    (word_of_bytes a.0 b.0 c.0 d.0, ap (λ (t : Bool). cond t (word_of image at) None) code ∙ (λ i. word_from (a.1 i) (b_is i) (c_is i) (d_is i)))
