-- The words of a program at their places in its image.
use Rattle.std.proofs.Common.{◌≡◌, ℕ, ◌+◌, ◌*◌, ◌-◌, ◌%◌, ◌^◌, ◌<◌, ◌≤◌, Bool, true, false, cond, ◌&&◌, nat_le, nat_lt, List, [], ◌∷◌, ◌++◌, length, get_or, Some, None, refl, sym, ap, ◌∙◌, arith, find, length-append, le-leb, lt-ltb, eq-eqb}
use Rattle.std.specs.Option.{option_map}
use Rattle.std.proofs.lemmas.List.{get_or_append_left, get_or-append-add}
use Rattle.std.proofs.lemmas.Nat.{from_le_bytes-to_le_bytes_4}
use Rattle.std.proofs.lemmas.Grind.{flat_map-append}
use Rattle.std.proofs.lemmas.List.Concat.{flat_map-cons}
use Rattle.std.proofs.lemmas.Bool.{or_left}
use Rattle.wx_base.specs.Bits.{bytes_of_word, word_of_bytes, add_words}
use Rattle.wx_base.specs.declared.image.Image.{Image}
use Rattle.wx_base.specs.declared.image.Segment.{Segment}
use Rattle.wx_base.specs.Image.{spans, byte_of, has_code, is_code_word, code_image}
use Rattle.wx_base.specs.State.{word_in}
use Rattle.wcet_cli.specs.Straight.{origin, bytes_of, address_behind, image_of}
use Rattle.wcet_cli.proofs.SoFar.{length_bytes}

-- the memory has the bytes of the image
pub record Loaded (image : Image) (memory : ℕ → ℕ) : Type 0 where
  pub each : (address byte : ℕ) → byte_of image address ≡ Some byte → memory address ≡ byte

both : (a b : Bool) → a ≡ true → b ≡ true → (a && b) ≡ true
both a b p q = rw (p, q) refl

five : (a b c d e : Bool) → a ≡ true → b ≡ true → c ≡ true → d ≡ true → e ≡ true → (a && b && c && d && e) ≡ true
five a b c d e p q r s t = rw (p, q, r, s, t) refl

inside : (segment : Segment) (a : ℕ) → segment.first ≤ a → a < segment.first + segment.size → spans a segment ≡ true
inside segment a p q = both (nat_le segment.first a) (nat_lt a (segment.first + segment.size)) (le-leb _ _ p) (lt-ltb _ _ q)

found : (segment : Segment) (a : ℕ) → segment.first ≤ a → a < segment.first + segment.size → find (λ (s : Segment). spans a s) (segment ∷ []) ≡ Some segment
found segment a p q =
    ap (λ (b : Bool). cond b (Some segment) None) (inside segment a p q)

the_segment : ℕ → List ℕ → Segment
the_segment first bytes = record { first = first; size = length bytes; code = true; bytes = bytes }

byte_inside : (first : ℕ) (bytes : List ℕ) (a : ℕ) → first ≤ a → a < first + length bytes → byte_of (code_image first bytes) a ≡ Some (get_or bytes (a - first) 0)
unfolding the_segment
byte_inside first bytes a p q = ap (option_map (λ (s : Segment). get_or s.bytes (a - s.first) 0)) (found (the_segment first bytes) a p q)

code_inside : (first : ℕ) (bytes : List ℕ) (a : ℕ) → first ≤ a → a < first + length bytes → has_code (code_image first bytes) a ≡ true
unfolding the_segment
code_inside first bytes a p q = or_left (spans a (the_segment first bytes)) false (inside (the_segment first bytes) a p q)

-- a word of code stands behind the words done
pub code_word_there : (program done : List ℕ) (word : ℕ) (left : List ℕ) (at : ℕ) → program ≡ done ++ word ∷ left → at ≡ address_behind done → is_code_word (image_of program) at ≡ true
code_word_there program done word left at p e =
    let count : length program ≡ length done + length (word ∷ left) = ap length p ∙ length-append done (word ∷ left) in
    let bytes = length_bytes program in
    five _ _ _ _ _ (eq-eqb (at % 4) 0 (omega arith))
    (code_inside origin (bytes_of program) at (omega arith) (omega arith))
    (code_inside origin (bytes_of program) (at + 1) (omega arith) (omega arith))
    (code_inside origin (bytes_of program) (at + 2) (omega arith) (omega arith))
    (code_inside origin (bytes_of program) (at + 3) (omega arith) (omega arith))

bytes_at : (done : List ℕ) (word : ℕ) (left : List ℕ) (j : ℕ) → j < 4 → get_or (bytes_of (done ++ word ∷ left)) (4 * length done + j) 0 ≡ get_or (bytes_of_word word) j 0
bytes_at done word left j h =
    ap (λ xs. get_or xs (4 * length done + j) 0) (flat_map-append bytes_of_word done (word ∷ left))
    ∙ ap (λ n. get_or (bytes_of done ++ bytes_of (word ∷ left)) (n + j) 0) (sym (length_bytes done))
    ∙ get_or-append-add (bytes_of done) (bytes_of (word ∷ left)) j 0
    ∙ ap (λ xs. get_or xs j 0) (flat_map-cons bytes_of_word word left)
    ∙ get_or_append_left (bytes_of_word word) (bytes_of left) 0 j h

-- byte j of the word behind the words done
byte_there : (program done : List ℕ) (word : ℕ) (left : List ℕ) (memory : ℕ → ℕ) (j at : ℕ) → program ≡ done ++ word ∷ left → Loaded (image_of program) memory → j < 4 → at ≡ address_behind done + j → memory at ≡ get_or (bytes_of_word word) j 0
byte_there program done word left memory j at p loaded h e =
    let count : length program ≡ length done + length (word ∷ left) = ap length p ∙ length-append done (word ∷ left) in
    let bytes = length_bytes program in
    let offset : at - origin ≡ 4 * length done + j = omega arith in
    loaded.each at _ (byte_inside origin (bytes_of program) at (omega arith) (omega arith))
    ∙ ap (λ n. get_or (bytes_of program) n 0) offset
    ∙ ap (λ ws. get_or (bytes_of ws) (4 * length done + j) 0) p
    ∙ bytes_at done word left j h

word_back : (word : ℕ) → word < 2 ^ 32 → word_of_bytes (get_or (bytes_of_word word) 0 0) (get_or (bytes_of_word word) 1 0) (get_or (bytes_of_word word) 2 0) (get_or (bytes_of_word word) 3 0) ≡ word
word_back word h = omega (arith, from_le_bytes-to_le_bytes_4 word h)

of_bytes : (a b c d a' b' c' d' : ℕ) → a ≡ a' → b ≡ b' → c ≡ c' → d ≡ d' → word_of_bytes a b c d ≡ word_of_bytes a' b' c' d'
of_bytes a b c d a' b' c' d' p q r s = omega arith

next_address : (at j : ℕ) → at + j < 2 ^ 32 → add_words at j ≡ at + j
next_address at j h = omega arith

-- the word behind the words done
pub word_there : (program done : List ℕ) (word : ℕ) (left : List ℕ) (memory : ℕ → ℕ) (at : ℕ) → program ≡ done ++ word ∷ left → Loaded (image_of program) memory → 4 * length program ≤ 16777216 → word < 2 ^ 32 → at ≡ address_behind done → word_in memory at ≡ word
word_there program done word left memory at p loaded small fits e =
    let count : length program ≡ length done + length (word ∷ left) = ap length p ∙ length-append done (word ∷ left) in
    let byte : (j : ℕ) → j < 4 → memory (add_words at j) ≡ get_or (bytes_of_word word) j 0 =
    λ j h. byte_there program done word left memory j (add_words at j) p loaded h (next_address at j (omega arith) ∙ omega arith)
    in
    of_bytes _ _ _ _ _ _ _ _
    (byte_there program done word left memory 0 at p loaded (omega arith) (omega arith))
    (byte 1 (omega arith)) (byte 2 (omega arith)) (byte 3 (omega arith))
    ∙ word_back word fits
