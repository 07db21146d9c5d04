-- The image that bytes are keeps to the ranges of its numbers.
use Rattle.std.proofs.Common.{◌≡◌, ℕ, zero, suc, ◌+◌, ◌*◌, ◌/◌, ◌<◌, ◌^◌, Bool, true, false, cond, ◌==◌, List, [], ◌∷◌, map, filter, get_or, take, drop, Option, Some, None, option_map, All, refl, subst, arith}
use Rattle.std.specs.Prelude.{slice_index}
use Rattle.std.specs.List.{AllByRecursion, find, range_with_len}
use Rattle.std.proofs.lemmas.List.Elements.{All-filter, All-head, All-map, All-tail}
use Rattle.wx_base.specs.declared.image.Segment.{Segment}
use Rattle.wx_base.specs.declared.symbol.Symbol.{Symbol}
use Rattle.wx_base.specs.Symbols.{first_value, has_global_name, has_name, or_else, symbol_value}
use Rattle.elf_image.specs.Bytes.{u32_at}
use Rattle.elf_image.specs.Causes.{string_table}
use Rattle.elf_image.specs.Fields.{fills, program_headers, symbol_entry}
use Rattle.elf_image.specs.Meaning.{found_symbols, image_of, is_defined, section_headers, segment, symbol, symbols_of}
use Rattle.start_laws.specs.Laws.{HoldsBytes}

abbrev AreSmall : List ℕ → Type 0
AreSmall bytes = AllByRecursion (λ byte. byte < 256) bytes

small_at : (bytes : List ℕ) → AreSmall bytes → (k : ℕ) → slice_index bytes k < 256
small_at [] all k = omega arith
small_at (b ∷ bytes) all zero = all.0
small_at (b ∷ bytes) all (suc k) = small_at bytes all.1 k

small_take : (n : ℕ) (bytes : List ℕ) → AreSmall bytes → AreSmall (take n bytes)
small_take zero bytes all = tt
small_take (suc n) [] all = tt
small_take (suc n) (b ∷ bytes) all = (all.0, small_take n bytes all.1)

small_drop : (n : ℕ) (bytes : List ℕ) → AreSmall bytes → AreSmall (drop n bytes)
small_drop zero bytes all = all
small_drop (suc n) [] all = tt
small_drop (suc n) (b ∷ bytes) all = small_drop n bytes all.1

word_small : (bytes : List ℕ) → AreSmall bytes → (at : ℕ) → u32_at bytes at < 2 ^ 32
unfolding u32_at
word_small bytes all at =
    let a = small_at bytes all at in
    let b = small_at bytes all (at + 1) in
    let c = small_at bytes all (at + 2) in
    let d = small_at bytes all (at + 3) in
    sum (slice_index bytes at) (slice_index bytes (at + 1)) (slice_index bytes (at + 2)) (slice_index bytes (at + 3)) a b c d
  where
    sum : (a b c d : ℕ) → a < 256 → b < 256 → c < 256 → d < 256 → a + 256 * b + 65536 * c + 16777216 * d < 2 ^ 32
    sum a b c d e f g h = omega (arith, e, f, g, h)

-- what is found has what all have
found_has : {X : Type 0} (P : X → Type 0) (p : X → Bool) (xs : List X) → All P xs → (x : X) → find p xs ≡ Some x → P x
found_has P p [] all x e = absurd (cc)
found_has P p (y ∷ ys) all x e = by (p y) (found_has P p ys (All-tail P y ys all) x) e
  where
    by : (b : Bool) → (find p ys ≡ Some x → P x) → cond b (Some y) (find p ys) ≡ Some x → P x
    by true later same = let here : y ≡ x = cc in subst P here (All-head P y ys all)
    by false later same = later same

-- what holds of each element that is made holds of those that are picked
picked : {A B C : Type 0} (P : C → Type 0) (f : B → C) (p : B → Bool) (g : A → B) (xs : List A) → ((x : A) → P (f (g x))) → All P (map f (filter p (map g xs)))
picked P f p g xs each =
    All-map P f (filter p (map g xs)) (All-filter p (λ y. P (f y)) (map g xs) (All-map (λ y. P (f y)) g xs (λ k d inside. each (get_or xs k d))))

-- ---- symbols
module _ (bytes : List ℕ) (all : AreSmall bytes) where
  abbrev IsSmall : Symbol → Type 0
  IsSmall s = s.value < 2 ^ 32

  symbols_small : (o : Option _) → All IsSmall (found_symbols bytes o)
  symbols_small None = λ k d inside. absurd (omega (arith, inside))
  symbols_small (Some s) =
      picked IsSmall (symbol (string_table bytes s)) is_defined (symbol_entry bytes s) (range_with_len 0 (s.size / 16)) (λ i. word_small bytes all _)

  found_small : (test : _ → Bool) → All IsSmall (found_symbols bytes (find test (section_headers bytes)))
  found_small test = symbols_small (find test (section_headers bytes))

  value_by : (test : Symbol → Bool) (symbols : List Symbol) → All IsSmall symbols → (v : ℕ) → first_value test symbols ≡ Some v → v < 2 ^ 32
  value_by test symbols small v e = by (find test symbols) refl e
    where
      by : (o : Option Symbol) → find test symbols ≡ o → option_map (λ (s : Symbol). s.value) o ≡ Some v → v < 2 ^ 32
      by (Some s) is same = let here : s.value ≡ v = cc in subst (λ n. n < 2 ^ 32) here (found_has IsSmall test symbols small s is)
      by None is same = absurd (cc)

  pub value_small : (name : List ℕ) (v : ℕ) → symbol_value (image_of bytes).symbols name ≡ Some v → v < 2 ^ 32
  value_small name v e =
      by (first_value (has_global_name name) (symbols_of bytes)) (first_value (has_name name) (symbols_of bytes))
      (value_by (has_global_name name) (symbols_of bytes) small v) (value_by (has_name name) (symbols_of bytes) small v) e
    where
      small : All IsSmall (symbols_of bytes)
      small = found_small (λ s. s.kind == 2)

      by : (a b : Option ℕ) → (a ≡ Some v → v < 2 ^ 32) → (b ≡ Some v → v < 2 ^ 32) → or_else a b ≡ Some v → v < 2 ^ 32
      by (Some x) b first second e = first e
      by None b first second e = second e

  pub entry_small : (image_of bytes).entry < 2 ^ 32
  entry_small = word_small bytes all 24

  -- ---- segments
  pub holds_bytes : HoldsBytes (image_of bytes)
  holds_bytes =
      All-map (λ (s : Segment). (k : ℕ) → slice_index s.bytes k < 256) (segment bytes) (filter fills (program_headers bytes))
      (λ k d inside. small_at _ (small_take _ _ (small_drop _ bytes all)))
