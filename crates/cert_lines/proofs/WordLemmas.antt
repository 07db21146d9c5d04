-- Words of lines: their fronts, what ends them, and what completes a front.
use Rattle.std.proofs.Common.{◌≡◌, ℕ, ◌+◌, ◌≤◌, codes, Bool, true, false, ◌&&◌, ◌==◌, nat_lt, List, [], ◌∷◌, ◌++◌, length, drop, ◌-◌, zero, suc, refl, sym, ap, ◌∙◌, arith, append_assoc, append-nil, ⊎_elim}
use Rattle.std.specs.Prelude.{nat_le}
use Rattle.std.specs.List.{list_all}
use Rattle.std.specs.Char.{is_ascii_digit}
use Rattle.std.specs.Str.{bytes_eq}
use Rattle.std.proofs.lemmas.Bool.{and_parts, and_from, or_cases, or_left, or_right, false_from_ne_true, false≢true}
use Rattle.std.proofs.lemmas.Bool.Decides.{Decides-eqb, nat_tests}
use Rattle.std.proofs.lemmas.List.{length-append}
use Rattle.std.proofs.lemmas.List.Folds.{list_all-append}
use Rattle.std.proofs.lemmas.Slice.Eq.{starts_is, bytes_eq-Decides}
use Rattle.wx_text.specs.Cursor.{is_hex_digit}
use Rattle.cert_lines.specs.declared.kind.Kind.{Kind}
use Rattle.cert_lines.specs.declared.kind.Role.{Role}
use Rattle.cert_lines.specs.declared.kind.Role.TheVariants as role
use Rattle.cert_lines.specs.Table.{name_of, is_front, is_number, is_word, begins_word}

-- ---- numbers
small_front : (n a b : ℕ) → nat_le n 8 ≡ true → n ≡ a + b → nat_le a 8 ≡ true
small_front n a b e is = grind (arith, nat_tests)

eight : (n : ℕ) → (n == 8) ≡ true → nat_le n 8 ≡ true
eight n e = grind (arith, nat_tests)

some : (n a : ℕ) → n ≡ a + 1 → nat_lt 0 n ≡ true
some n a e = grind (arith, nat_tests)

filled : (n a : ℕ) → n ≡ a + (8 - a) → nat_le a 8 ≡ true → (n == 8) ≡ true
filled n a is e = grind (arith, nat_tests)

-- ---- fronts of a fixed word
pub front_is : (word text : List ℕ) → is_front text word ≡ true → word ≡ text ++ drop (length text) word
front_is word text e = (starts_is Decides-eqb word text (is_front text word) refl).0 e

pub is_front_of : (word text rest : List ℕ) → word ≡ text ++ rest → is_front text word ≡ true
is_front_of word text rest e = (starts_is Decides-eqb word text (is_front text word) refl).1 rest e

shorter : (word a b : List ℕ) → is_front (a ++ b) word ≡ true → is_front a word ≡ true
shorter word a b e = is_front_of word a (b ++ drop (length (a ++ b)) word) (front_is word (a ++ b) e ∙ append_assoc a b (drop (length (a ++ b)) word))

itself : (word text : List ℕ) → text ≡ word → is_front text word ≡ true
itself word text e = is_front_of word text [] (sym e ∙ sym (append-nil text))

longer : (word text : List ℕ) (c : ℕ) → length word ≤ length text → is_front (text ++ c ∷ []) word ≡ true → ⊥
longer word text c long e =
    let n = ap length (front_is word (text ++ c ∷ []) e) ∙ length-append (text ++ c ∷ []) (drop (length (text ++ c ∷ [])) word) in
    let m = length-append text (c ∷ []) in
    absurd (omega (arith, n, m))

pub same_text : (a b : List ℕ) → bytes_eq a b ≡ true → a ≡ b
same_text a b e = (bytes_eq-Decides a b).0 e

-- ---- words of one sort of bytes
all_front : (p : ℕ → Bool) (a b : List ℕ) → list_all p (a ++ b) ≡ true → list_all p a ≡ true
all_front p a b e = (and_parts (list_all p a) (list_all p b) (sym (list_all-append p a b) ∙ e)).0

not_all : (p : ℕ → Bool) (text : List ℕ) (c : ℕ) → p c ≡ false → list_all p (text ++ c ∷ []) ≡ true → ⊥
not_all p text c other e =
    let last = (and_parts (list_all p text) (p c && true) (sym (list_all-append p text (c ∷ [])) ∙ e)).1 in
    false≢true (sym other ∙ (and_parts (p c) true last).0)

all_more : (p : ℕ → Bool) (a b : List ℕ) → list_all p a ≡ true → list_all p b ≡ true → list_all p (a ++ b) ≡ true
all_more p a b e h = list_all-append p a b ∙ and_from (list_all p a) (list_all p b) e h

digits_of : (text : List ℕ) → is_number text ≡ true → list_all is_ascii_digit text ≡ true
digits_of text e = (and_parts (nat_lt 0 (length text)) (list_all is_ascii_digit text) e).1

-- digits that no text of `run` begins with
no_run : (text : List ℕ) (c : ℕ) → is_number text ≡ true → is_front (text ++ c ∷ []) (codes "run") ≡ true → ⊥
no_run [] c e h = false≢true e
no_run (d ∷ ds) c e h =
    let same : 114 ≡ d = ap (λ l. elim l as (λ _. ℕ) [ [] ↦ 0 | (x ∷ xs) ↦ x ]) (front_is (codes "run") ((d ∷ ds) ++ c ∷ []) h) in
    let digit = (and_parts (is_ascii_digit d) (list_all is_ascii_digit ds) (digits_of (d ∷ ds) e)).0 in
    false≢true (ap is_ascii_digit same ∙ digit)

pub front_begins : (kind : Kind) (r : Role) (a b : List ℕ) → begins_word kind r (a ++ b) ≡ true → begins_word kind r a ≡ true
front_begins kind role.Name a b e = shorter (name_of kind) a b e
front_begins kind role.Version a b e =
    ⊎_elim (λ h. or_left (is_front a (codes "1")) (is_front a (codes "2")) (shorter (codes "1") a b h))
    (λ h. or_right (is_front a (codes "1")) (is_front a (codes "2")) (shorter (codes "2") a b h)) (or_cases (is_front (a ++ b) (codes "1")) (is_front (a ++ b) (codes "2")) e)
front_begins kind role.First a b e = all_front is_ascii_digit a b e
front_begins kind role.Last a b e = all_front is_ascii_digit a b e
front_begins kind role.Left a b e = all_front is_ascii_digit a b e
front_begins kind role.Right a b e = all_front is_ascii_digit a b e
front_begins kind role.Address a b e =
    let parts = and_parts (nat_le (length (a ++ b)) 8) (list_all is_hex_digit (a ++ b)) e in
    let short : nat_le (length a) 8 ≡ true = small_front (length (a ++ b)) (length a) (length b) parts.0 (length-append a b) in
    and_from (nat_le (length a) 8) (list_all is_hex_digit a) short (all_front is_hex_digit a b parts.1)
front_begins kind role.Scope a b e =
    ⊎_elim (λ h. or_left (is_front a (codes "run")) (list_all is_ascii_digit a) (shorter (codes "run") a b h))
    (λ h. or_right (is_front a (codes "run")) (list_all is_ascii_digit a) (all_front is_ascii_digit a b h)) (or_cases (is_front (a ++ b) (codes "run")) (list_all is_ascii_digit (a ++ b)) e)

pub word_begins : (kind : Kind) (r : Role) (w : List ℕ) → is_word kind r w ≡ true → begins_word kind r w ≡ true
word_begins kind role.Name w e = itself (name_of kind) w (same_text w (name_of kind) e)
word_begins kind role.Version w e =
    ⊎_elim (λ h. or_left (is_front w (codes "1")) (is_front w (codes "2")) (itself (codes "1") w (same_text w (codes "1") h)))
    (λ h. or_right (is_front w (codes "1")) (is_front w (codes "2")) (itself (codes "2") w (same_text w (codes "2") h))) (or_cases (bytes_eq w (codes "1")) (bytes_eq w (codes "2")) e)
word_begins kind role.First w e = digits_of w e
word_begins kind role.Last w e = digits_of w e
word_begins kind role.Left w e = digits_of w e
word_begins kind role.Right w e = digits_of w e
word_begins kind role.Address w e =
    let parts = and_parts (length w == 8) (list_all is_hex_digit w) e in
    and_from (nat_le (length w) 8) (list_all is_hex_digit w) (eight (length w) parts.0) parts.1
word_begins kind role.Scope w e =
    ⊎_elim (λ h. or_left (is_front w (codes "run")) (list_all is_ascii_digit w) (itself (codes "run") w (same_text w (codes "run") h)))
    (λ h. or_right (is_front w (codes "run")) (list_all is_ascii_digit w) (digits_of w h)) (or_cases (bytes_eq w (codes "run")) (is_number w) e)

too_long : (word text : List ℕ) (c : ℕ) → bytes_eq text word ≡ true → is_front (text ++ c ∷ []) word ≡ true → ⊥
too_long word text c e h = let n = ap length (same_text text word e) in longer word text c (omega (arith, n)) h

-- a byte that is no digit goes on with no word
goes_on_not : (kind : Kind) (r : Role) (w : List ℕ) (c : ℕ) → is_ascii_digit c ≡ false → is_hex_digit c ≡ false → is_word kind r w ≡ true → begins_word kind r (w ++ c ∷ []) ≡ true → ⊥
goes_on_not kind role.Name w c digit hex e h = too_long (name_of kind) w c e h
goes_on_not kind role.Version w c digit hex e h =
    let short : length w ≤ 1 = ⊎_elim (λ k. let n = ap length (same_text w (codes "1") k) in omega (arith, n)) (λ k. let n = ap length (same_text w (codes "2") k) in omega (arith, n)) (or_cases (bytes_eq w (codes "1")) (bytes_eq w (codes "2")) e) in
    let full : 1 ≤ length w = ⊎_elim (λ k. let n = ap length (same_text w (codes "1") k) in omega (arith, n)) (λ k. let n = ap length (same_text w (codes "2") k) in omega (arith, n)) (or_cases (bytes_eq w (codes "1")) (bytes_eq w (codes "2")) e) in
    ⊎_elim (λ k. longer (codes "1") w c full k) (λ k. longer (codes "2") w c full k) (or_cases (is_front (w ++ c ∷ []) (codes "1")) (is_front (w ++ c ∷ []) (codes "2")) h)
goes_on_not kind role.First w c digit hex e h = not_all is_ascii_digit w c digit h
goes_on_not kind role.Last w c digit hex e h = not_all is_ascii_digit w c digit h
goes_on_not kind role.Left w c digit hex e h = not_all is_ascii_digit w c digit h
goes_on_not kind role.Right w c digit hex e h = not_all is_ascii_digit w c digit h
goes_on_not kind role.Address w c digit hex e h = not_all is_hex_digit w c hex (and_parts (nat_le (length (w ++ c ∷ [])) 8) (list_all is_hex_digit (w ++ c ∷ [])) h).1
goes_on_not kind role.Scope w c digit hex e h =
    ⊎_elim
    (λ k. ⊎_elim (λ run. too_long (codes "run") w c run k) (λ number. no_run w c number k) (or_cases (bytes_eq w (codes "run")) (is_number w) e))
    (λ k. not_all is_ascii_digit w c digit k) (or_cases (is_front (w ++ c ∷ []) (codes "run")) (list_all is_ascii_digit (w ++ c ∷ [])) h)

pub word_ends : (kind : Kind) (r : Role) (w : List ℕ) (c : ℕ) → is_ascii_digit c ≡ false → is_hex_digit c ≡ false → is_word kind r w ≡ true → begins_word kind r (w ++ c ∷ []) ≡ false
word_ends kind r w c digit hex e = false_from_ne_true (begins_word kind r (w ++ c ∷ [])) (goes_on_not kind r w c digit hex e)

-- ---- what completes a front
pub record Completes (kind : Kind) (r : Role) (text : List ℕ) : Type 0 where
  pub more : List ℕ
  pub whole : is_word kind r (text ++ more) ≡ true

abbrev zeros : ℕ → List ℕ
zeros zero = []
zeros (suc n) = 48 ∷ zeros n

zeros_hex : (n : ℕ) → list_all is_hex_digit (zeros n) ≡ true
zeros_hex zero = refl
zeros_hex (suc n) = zeros_hex n

zeros_length : (n : ℕ) → length (zeros n) ≡ n
zeros_length zero = refl
zeros_length (suc n) = ap suc (zeros_length n)

fixed : (word text : List ℕ) → is_front text word ≡ true → bytes_eq (text ++ drop (length text) word) word ≡ true
fixed word text e = (bytes_eq-Decides (text ++ drop (length text) word) word).1 (sym (front_is word text e))

number_more : (text : List ℕ) → list_all is_ascii_digit text ≡ true → is_number (text ++ 48 ∷ []) ≡ true
number_more text e =
    and_from (nat_lt 0 (length (text ++ 48 ∷ []))) (list_all is_ascii_digit (text ++ 48 ∷ [])) (some (length (text ++ 48 ∷ [])) (length text) (length-append text (48 ∷ []))) (all_more is_ascii_digit text (48 ∷ []) e refl)

pub completes : (kind : Kind) (r : Role) (text : List ℕ) → begins_word kind r text ≡ true → Completes kind r text
completes kind role.Name text e = record { more = drop (length text) (name_of kind); whole = fixed (name_of kind) text e }
completes kind role.Version text e =
    ⊎_elim (λ h. record { more = drop (length text) (codes "1"); whole = or_left _ _ (fixed (codes "1") text h) })
    (λ h. record { more = drop (length text) (codes "2"); whole = or_right _ _ (fixed (codes "2") text h) }) (or_cases (is_front text (codes "1")) (is_front text (codes "2")) e)
completes kind role.First text e = record { more = 48 ∷ []; whole = number_more text e }
completes kind role.Last text e = record { more = 48 ∷ []; whole = number_more text e }
completes kind role.Left text e = record { more = 48 ∷ []; whole = number_more text e }
completes kind role.Right text e = record { more = 48 ∷ []; whole = number_more text e }
completes kind role.Address text e =
    let parts = and_parts (nat_le (length text) 8) (list_all is_hex_digit text) e in
    record {
      more = zeros (8 - length text);
      whole = and_from _ _ (filled (length (text ++ zeros (8 - length text))) (length text) (length-append text (zeros (8 - length text)) ∙ ap (λ n. length text + n) (zeros_length (8 - length text))) parts.0) (all_more is_hex_digit text (zeros (8 - length text)) parts.1 (zeros_hex (8 - length text)));
    }
completes kind role.Scope text e =
    ⊎_elim (λ h. record { more = drop (length text) (codes "run"); whole = or_left _ _ (fixed (codes "run") text h) })
    (λ h. record { more = 48 ∷ []; whole = or_right _ _ (number_more text h) }) (or_cases (is_front text (codes "run")) (list_all is_ascii_digit text) e)
