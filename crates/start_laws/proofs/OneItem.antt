-- Lines are told by their words, and the lines of a start text by the text.
use Rattle.std.proofs.Common.{◌≡◌, ℕ, ◌<◌, ◌^◌, Bool, true, false, cond, ◌==◌, List, [], ◌∷◌, map, length, get_or, All, refl, sym, ap, ◌∙◌, arith}
use Rattle.std.proofs.lemmas.List.{same_from_push}
use Rattle.std.proofs.lemmas.List.Elements.{All-head, All-tail}
use Rattle.wx_base.specs.declared.image.Image.{Image}
use Rattle.wx_base.specs.declared.machine.Shape.{Shape}
use Rattle.wx_base.specs.declared.step.Flags.{Flags}
use Rattle.wx_text.specs.Hexadecimal.{hex_word}
use Rattle.spelling_laws.specs.Laws.{ByteIsOne, DecimalIsOne, WordIsOne}
use Rattle.start_file.specs.declared.start_item.Kind.{Kind}
use Rattle.start_file.specs.declared.start_item.Kind.TheVariants as kind
use Rattle.start_file.specs.declared.start_item.Item.{Item}
use Rattle.start_file.specs.declared.start_item.Item.TheVariants as item
use Rattle.start_file.specs.Start.{Fits, arguments, flag_digit, flag_digits, kind_of, name_of, words_of}
use Rattle.start_file.specs.StartText.{IsProper, IsStartText, rank, words_in}

first : {A : Type 0} {x y : A} {xs ys : List A} → x ∷ xs ≡ y ∷ ys → x ≡ y
first e = cc

later : {A : Type 0} {x y : A} {xs ys : List A} → x ∷ xs ≡ y ∷ ys → xs ≡ ys
later e = cc

same_flag : (a b : Bool) → flag_digit a ≡ flag_digit b → a ≡ b
same_flag true true e = refl
same_flag false false e = refl
same_flag true false e = absurd (omega (arith, e))
same_flag false true e = absurd (omega (arith, e))

same_flags : (a b : Flags) → flag_digits a ≡ flag_digits b → a ≡ b
same_flags a b e0 =
    let e1 = later e0 in
    let e2 = later e1 in
    let e3 = later e2 in
    let n = same_flag a.n b.n (first e0) in
    let z = same_flag a.z b.z (first e1) in
    let c = same_flag a.c b.c (first e2) in
    let v = same_flag a.v b.v (first e3) in
    λ i. record { n = n i; z = z i; c = c i; v = v i }

-- the kind of a line, by its number, is told by the line's name
number_by : List ℕ → ℕ
number_by name =
    let letter = get_or name 0 0 in
    cond (letter == 119) 0 (cond (letter == 114) 1 (cond (letter == 102) (cond (length name == 5) 2 3) (cond (letter == 98) 4 (cond (letter == 115) 5 6))))

told_by_name : (k : Kind) → number_by (name_of k) ≡ rank k
unfolding number_by
told_by_name kind.Head = refl
told_by_name kind.Register = refl
told_by_name kind.Flags = refl
told_by_name kind.Fill = refl
told_by_name kind.Byte = refl
told_by_name kind.Set = refl
told_by_name kind.End = refl

same_rank : (x y : Item) → name_of (kind_of x) ≡ name_of (kind_of y) → rank (kind_of x) ≡ rank (kind_of y)
same_rank x y e = sym (told_by_name (kind_of x)) ∙ ap number_by e ∙ told_by_name (kind_of y)

module _ (one_decimal : DecimalIsOne) (one_word : WordIsOne) (one_byte : ByteIsOne) where
  words : (xs ys : List ℕ) → All (λ x. x < 2 ^ 32) xs → All (λ y. y < 2 ^ 32) ys → map hex_word xs ≡ map hex_word ys → xs ≡ ys
  words [] [] p q e = refl
  words [] (y ∷ ys) p q e = absurd (cc)
  words (x ∷ xs) [] p q e = absurd (cc)
  words (x ∷ xs) (y ∷ ys) p q e =
      let here = one_word x y (All-head (λ x. x < 2 ^ 32) x xs p) (All-head (λ x. x < 2 ^ 32) y ys q) (first e) in
      let rest = words xs ys (All-tail (λ x. x < 2 ^ 32) x xs p) (All-tail (λ x. x < 2 ^ 32) y ys q) (later e) in
      λ i. here i ∷ rest i

  -- two lines with the same words are one
  same_item : (x y : Item) → Fits x → Fits y → rank (kind_of x) ≡ rank (kind_of y) → arguments x ≡ arguments y → x ≡ y
  same_item item.Head item.Head p q n e = refl
  same_item (item.Register m v) (item.Register n w) p q name e =
      let number = one_decimal m n (omega (arith, p.0)) (omega (arith, q.0)) (first e) in
      let value = one_word v w p.1 q.1 (first (later e)) in
      λ i. item.Register (number i) (value i)
  same_item (item.Flags a) (item.Flags b) p q n e = ap item.Flags (same_flags a b (first e))
  same_item (item.Fill a) (item.Fill b) p q n e = ap item.Fill (one_byte a b p q (first e))
  same_item (item.Byte a x) (item.Byte b y) p q n e =
      let address = one_word a b p.0 q.0 (first e) in
      let byte = one_byte x y p.1 q.1 (first (later e)) in
      λ i. item.Byte (address i) (byte i)
  same_item (item.Set m xs) (item.Set n ys) p q name e =
      let set = one_decimal m n (omega (arith, p.0)) (omega (arith, q.0)) (first e) in
      let lines = words xs ys p.1 q.1 (later e) in
      λ i. item.Set (set i) (lines i)
  same_item item.End item.End p q n e = refl
  same_item x y p q n e = absurd (omega (arith, n))

  same_items : (image : Image) (shape : Shape) (xs ys : List Item) → All (IsProper image shape) xs → All (IsProper image shape) ys → map words_of xs ≡ map words_of ys → xs ≡ ys
  same_items image shape [] [] p q e = refl
  same_items image shape [] (y ∷ ys) p q e = absurd (cc)
  same_items image shape (x ∷ xs) [] p q e = absurd (cc)
  same_items image shape (x ∷ xs) (y ∷ ys) p q e =
      let here = same_item x y (All-head (IsProper image shape) x xs p).fits (All-head (IsProper image shape) y ys q).fits (same_rank x y (first (first e))) (later (first e)) in
      let rest = same_items image shape xs ys (All-tail (IsProper image shape) x xs p) (All-tail (IsProper image shape) y ys q) (later e) in
      λ i. here i ∷ rest i

  -- a text has one list of lines
  pub one_list : (image : Image) (shape : Shape) (text : List ℕ) (xs ys : List Item) → IsStartText image shape text xs → IsStartText image shape text ys → xs ≡ ys
  one_list image shape text xs ys p q =
      let lines = (same_from_push p.lines q.lines [] [] (sym p.split ∙ q.split)).0 in
      same_items image shape xs ys p.are.start.proper q.are.start.proper (sym p.are.spelled ∙ ap (map words_in) lines ∙ q.are.spelled)
