-- A start text by its parts and as its lines one after another.
use Rattle.std.proofs.Common.{◌≡◌, ℕ, ◌<◌, ◌≤◌, ◌^◌, ◌/◌, ◌%◌, Bool, true, false, ◌&&◌, ◌==◌, nat_lt, List, [], ◌∷◌, ◌++◌, map, All, refl, sym, ◌∙◌, ap, arith, append_assoc, append-nil}
use Rattle.std.proofs.lemmas.Bool.{and_parts}
use Rattle.std.proofs.lemmas.Bool.Decides.{nat_tests}
use Rattle.std.proofs.lemmas.List.Elements.{All-weaker, All-append, All-cons, All-head, All-tail}
use Rattle.std.proofs.lemmas.List.Sums.{AllPass-from_list_all}
use Rattle.std.proofs.lemmas.List.Splits.{slice_split_none, slice_split_at, join_with_byte-slice_split}
use Rattle.std.proofs.lemmas.Fmt.{decimal_is_IsNumeral}
use Rattle.std.proofs.lemmas.Str.Parse.{tells_digits}
use Rattle.std.specs.List.{list_all, join_with_byte, concat}
use Rattle.std.specs.Int.{IsInRange}
use Rattle.std.specs.Str.Parse.{AllDigits}
use Rattle.wx_text.specs.Decimal.{decimal}
use Rattle.wx_text.specs.Hexadecimal.{hex_byte, hex_digit, hex_word}
use Rattle.wx_base.specs.declared.image.Image.{Image}
use Rattle.wx_base.specs.declared.machine.Shape.{Shape}
use Rattle.start_file.specs.declared.start_item.Item.{Item}
use Rattle.start_file.specs.declared.start_item.Item.TheVariants as item
use Rattle.start_file.specs.Start.{words_of, name_of, kind_of, arguments, flag_digit, Fits}
use Rattle.start_file.specs.StartText.{words_in, lines_in, IsProper, IsStart, IsStartText}
use Rattle.start_file.specs.StartLaws.{line_text}

-- ---- words have no space and no line feed
abbrev is_plain : List ℕ → Bool
is_plain word = list_all (λ b. nat_lt 32 b) word

both : (x y : Bool) → x ≡ true → y ≡ true → (x && y) ≡ true
both true true h k = refl
both true false h k = k
both false y h k = h

plain_digit : (d : ℕ) → nat_lt 32 (hex_digit d) ≡ true
plain_digit d = grind (arith, nat_tests)

plain_byte : (byte : ℕ) → is_plain (hex_byte byte) ≡ true
unfolding hex_byte
plain_byte byte = both _ _ (plain_digit (byte / 16)) (both _ _ (plain_digit (byte % 16)) refl)

plain_word : (word : ℕ) → is_plain (hex_word word) ≡ true
unfolding hex_word
plain_word word =
    both _ _ (plain_digit (word / 2 ^ 28 % 16)) (both _ _ (plain_digit (word / 2 ^ 24 % 16)) (both _ _ (plain_digit (word / 2 ^ 20 % 16)) (both _ _ (plain_digit (word / 2 ^ 16 % 16))
    (both _ _ (plain_digit (word / 2 ^ 12 % 16)) (both _ _ (plain_digit (word / 2 ^ 8 % 16)) (both _ _ (plain_digit (word / 2 ^ 4 % 16)) (both _ _ (plain_digit (word % 16)) refl)))))))

above : (c : ℕ) → IsInRange 48 57 c → nat_lt 32 c ≡ true
above c inside = grind (arith, nat_tests)

plain_digits : (text : List ℕ) → AllDigits 10 text → is_plain text ≡ true
plain_digits [] digits = refl
plain_digits (c ∷ cs) digits = let parts = tells_digits.parts c cs digits in both _ _ (above c parts.0) (plain_digits cs parts.1)

plain_number : (n : ℕ) → n < 2 ^ 32 → is_plain (decimal n) ≡ true
plain_number n small = plain_digits (decimal n) (decimal_is_IsNumeral n (omega arith)).0.1

plain_flag : (flag : Bool) → nat_lt 32 (flag_digit flag) ≡ true
plain_flag true = refl
plain_flag false = refl

plain_words : (lines : List ℕ) → list_all is_plain (map hex_word lines) ≡ true
plain_words [] = refl
plain_words (line ∷ lines) = both _ _ (plain_word line) (plain_words lines)

plain_line : (x : Item) → Fits x → list_all is_plain (words_of x) ≡ true
plain_line item.Head fits = refl
plain_line (item.Register number value) fits = both _ _ (plain_number number fits.0) (both _ _ (plain_word value) refl)
plain_line (item.Flags flags) fits =
    both _ _ (both _ _ (plain_flag flags.n) (both _ _ (plain_flag flags.z) (both _ _ (plain_flag flags.c) (both _ _ (plain_flag flags.v) refl)))) refl
plain_line (item.Fill byte) fits = both _ _ (plain_byte byte) refl
plain_line (item.Byte address byte) fits = both _ _ (plain_word address) (both _ _ (plain_byte byte) refl)
plain_line (item.Set set lines) fits = both _ _ (plain_number set fits.0) (plain_words lines)
plain_line item.End fits = refl

apart : (c b : ℕ) → c ≤ 32 → nat_lt 32 b ≡ true → (b == c) ≡ false
apart c b low high = grind (arith, nat_tests)

without : (c : ℕ) → c ≤ 32 → (word : List ℕ) → is_plain word ≡ true → All (λ b. (b == c) ≡ false) word
without c low word plain = All-weaker (λ b. nat_lt 32 b ≡ true) (λ b. (b == c) ≡ false) (λ b high. apart c b low high) word (AllPass-from_list_all (λ b. nat_lt 32 b) word plain)

-- ---- words and lines
split_words : (word : List ℕ) (words : List (List ℕ)) → list_all is_plain (word ∷ words) ≡ true → words_in (join_with_byte 32 (word ∷ words)) ≡ word ∷ words
split_words word [] plain = slice_split_none (λ b. b == 32) word (without 32 (omega arith) word (and_parts _ _ plain).0)
split_words word (next ∷ words) plain =
    slice_split_at (λ b. b == 32) word 32 (join_with_byte 32 (next ∷ words)) (without 32 (omega arith) word (and_parts _ _ plain).0) refl
    ∙ ap (λ parts. word ∷ parts) (split_words next words (and_parts _ _ plain).1)

joined_without : (word : List ℕ) (words : List (List ℕ)) → list_all is_plain (word ∷ words) ≡ true → All (λ b. (b == 10) ≡ false) (join_with_byte 32 (word ∷ words))
joined_without word [] plain = without 10 (omega arith) word (and_parts _ _ plain).0
joined_without word (next ∷ words) plain =
    All-append (λ b. (b == 10) ≡ false) word (32 ∷ join_with_byte 32 (next ∷ words)) (without 10 (omega arith) word (and_parts _ _ plain).0)
    (All-cons (λ b. (b == 10) ≡ false) 32 (join_with_byte 32 (next ∷ words)) refl (joined_without next words (and_parts _ _ plain).1))

-- a line without its line feed
abbrev line_of : Item → List ℕ
line_of x = join_with_byte 32 (words_of x)

split_lines : (items : List Item) → ((x : Item) → Fits x → All (λ b. (b == 10) ≡ false) (line_of x)) → All Fits items → lines_in (concat (map line_text items)) ≡ map line_of items ++ [] ∷ []
split_lines [] free fits = refl
split_lines (x ∷ items) free fits =
    ap lines_in (append_assoc (line_of x) (10 ∷ []) (concat (map line_text items)))
    ∙ slice_split_at (λ b. b == 10) (line_of x) 10 (concat (map line_text items)) (free x (All-head Fits x items fits)) refl
    ∙ ap (λ parts. line_of x ∷ parts) (split_lines items free (All-tail Fits x items fits))

words_back : (items : List Item) → All Fits items → map words_in (map line_of items) ≡ map words_of items
words_back [] fits = refl
words_back (x ∷ items) fits =
    ap (λ words. words ∷ map words_in (map line_of items)) (split_words _ _ (plain_line x (All-head Fits x items fits)))
    ∙ ap (λ lines. words_of x ∷ lines) (words_back items (All-tail Fits x items fits))

pub start_text : (image : Image) (shape : Shape) (items : List Item) → IsStart image shape items → IsStartText image shape (concat (map line_text items)) items
start_text image shape items start =
    let fits : All Fits items = All-weaker (IsProper image shape) Fits (λ x proper. proper.fits) items start.proper in
    record {
      lines = map line_of items;
      split = split_lines items (λ x fits. joined_without (name_of (kind_of x)) (arguments x) (plain_line x fits)) fits;
      are = record { start = start; spelled = words_back items fits };
    }

-- ---- and back
joined_lines : (lines : List (List ℕ)) → join_with_byte 10 (lines ++ [] ∷ []) ≡ concat (map (λ l. l ++ 10 ∷ []) lines)
joined_lines [] = refl
joined_lines (x ∷ []) = sym (append-nil (x ++ 10 ∷ []))
joined_lines (x ∷ y ∷ lines) = ap (λ rest. x ++ 10 ∷ rest) (joined_lines (y ∷ lines)) ∙ sym (append_assoc x (10 ∷ []) (concat (map (λ l. l ++ 10 ∷ []) (y ∷ lines))))

same_cons : {X : Type 0} (x y : X) (xs ys : List X) → x ∷ xs ≡ y ∷ ys → (x ≡ y) × (xs ≡ ys)
same_cons x y xs ys e = (cc, cc)

pub lines_of_words : (lines : List (List ℕ)) (items : List Item) → map words_in lines ≡ map words_of items → map (λ l. l ++ 10 ∷ []) lines ≡ map line_text items
lines_of_words [] [] same = refl
lines_of_words [] (x ∷ items) same = absurd (cc)
lines_of_words (l ∷ lines) [] same = absurd (cc)
lines_of_words (l ∷ lines) (x ∷ items) same =
    let parts = same_cons (words_in l) (words_of x) (map words_in lines) (map words_of items) same in
    let here : l ≡ line_of x = sym (join_with_byte-slice_split 32 l) ∙ ap (join_with_byte 32) parts.0 in
    ap (λ t. (t ++ 10 ∷ []) ∷ map (λ l. l ++ 10 ∷ []) lines) here ∙ ap (λ rest. line_text x ∷ rest) (lines_of_words lines items parts.1)

pub text_is_lines : (image : Image) (shape : Shape) (text : List ℕ) (items : List Item) → IsStartText image shape text items → text ≡ concat (map line_text items)
text_is_lines image shape text items is =
    sym (join_with_byte-slice_split 10 text) ∙ ap (join_with_byte 10) is.split ∙ joined_lines is.lines ∙ ap concat (lines_of_words is.lines items is.are.spelled)
