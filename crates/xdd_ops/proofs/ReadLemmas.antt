-- Texts read from their front, and lines one by one.
use Rattle.std.proofs.Common.{◌≡◌, ℕ, zero, suc, ◌+◌, ◌<◌, ◌≤◌, ◌^◌, Bool, true, false, List, [], ◌∷◌, ◌++◌, length, drop, take, slice_get, get_or, Option, Some, None, IfSome, is_some, refl, sym, ap, ◌∙◌, arith, inl, inr, if◌then◌else◌, cond, eqb, nat_eq, nat_lt, ◌&&◌, append_assoc, lit<, codes, Result, Ok, Err, length-append, length-drop}
use Rattle.std.proofs.lemmas.Bool.{false≢true, cases_lt}
use Rattle.std.proofs.lemmas.Bool.Decides.{nat_tests}
use Rattle.std.proofs.lemmas.Fmt.{decimal-digits_value, decimal_digit}
use Rattle.std.proofs.lemmas.List.{take-append-drop}
use Rattle.std.proofs.Math.Seq.{drop-nil, drop-length}
use Rattle.std.proofs.lemmas.List.Folds.{length-prefix_len}
use Rattle.std.proofs.lemmas.Option.{slice_get_within}
use Rattle.std.proofs.lemmas.Str.Parse.{numerals_by_value, tells_digits}
use Rattle.std.specs.Char.{is_ascii_digit}
use Rattle.std.specs.Fmt.{decimal}
use Rattle.std.specs.List.{starts_with, prefix_len}
use Rattle.std.specs.Result.{OkIff, result_ok}
use Rattle.std.specs.Str.Parse.{digits_value, AllDigits}
use Rattle.wx_text.proofs.DigitLemmas as digits
use Rattle.wx_text.specs.Cursor.{Reading, rest, stepped, leading_digits, number_at}
use Rattle.xdd_table.specs.declared.node.Node.{Node}
use Rattle.xdd_table.specs.declared.node.Node.TheVariants.{Leaf, Branch}
use Rattle.xdd_table.specs.Diagram.{BeginsAfter}
use Rattle.xdd_ops.specs.Refusal.{IsFront, BeginsWithLine, LacksLine, GoesOn, HasNoCount, IsSyntaxPlace, IsLineRefusal, IsCountedRefusal}
use Rattle.xdd_ops.specs.declared.diagram_error.DiagramError.{DiagramError}
use Rattle.xdd_ops.specs.declared.diagram_error.DiagramError.TheVariants.{Syntax, NotReduced, Order, NoMemory}
use Rattle.xdd_ops.specs.Read.{line_text, lines_text, count_line, IsLineAt, AreLines, HasLines}

-- a text that begins with another
same_head : (b : Bool) (x y : ℕ) (t xs : List ℕ) → b ≡ eqb y x → (b && starts_with nat_eq xs t) ≡ true → (starts_with nat_eq xs t ≡ true → xs ≡ t ++ drop (length t) xs) → x ∷ xs ≡ y ∷ (t ++ drop (length t) xs)
same_head true x y t xs e h more = let s : y ≡ x = grind (arith, nat_tests) in rw s (ap (λ l. x ∷ l) (more h))
same_head false x y t xs e h more = absurd (false≢true h)

starts_from : (t xs : List ℕ) → starts_with nat_eq xs t ≡ true → xs ≡ t ++ drop (length t) xs
starts_from [] xs h = refl
starts_from (y ∷ t) [] h = absurd (false≢true h)
starts_from (y ∷ t) (x ∷ xs) h = same_head (eqb y x) x y t xs refl h (λ h'. starts_from t xs h')

pub drop_twice : (n k : ℕ) (xs : List ℕ) → drop (n + k) xs ≡ drop k (drop n xs)
drop_twice zero k xs = let e : zero + k ≡ k = omega arith in rw e refl
drop_twice (suc n) k [] = drop-nil (suc n + k) ∙ sym (drop-nil k)
drop_twice (suc n) k (x ∷ xs) = let e : suc n + k ≡ suc (n + k) = omega arith in rw e (drop_twice n k xs)

-- the text that was expected stood there
pub passed : (a b : Reading) (r : Bool) (t : List ℕ) → r ≡ starts_with nat_eq (rest a) t → b ≡ (if r then stepped a (length t) else a) → r ≡ true → rest a ≡ t ++ rest b
passed a b true t found after is =
    let e : rest b ≡ drop (length t) (rest a) = ap rest after ∙ drop_twice a.place (length t) a.bytes in
    rw e (starts_from t (rest a) (sym found))
passed a b false t found after is = absurd (false≢true is)

-- what was expected did not stand there
pub failed : (a b : Reading) (r : Bool) (n : ℕ) → b ≡ (if r then stepped a n else a) → r ≡ false → b ≡ a
failed a b true n after is = absurd (false≢true (sym is))
failed a b false n after is = after

pub join : (x y z t u : List ℕ) → x ≡ t ++ y → y ≡ u ++ z → x ≡ (t ++ u) ++ z
join x y z t u e e' = e ∙ (ap (λ l. t ++ l) e' ∙ sym (append_assoc t u z))

-- the digits at the front of a text are digits
one_digit : (b : Bool) (x : ℕ) (xs : List ℕ) → b ≡ is_ascii_digit x → AllDigits 10 (take (prefix_len is_ascii_digit xs) xs) → AllDigits 10 (take (cond b (1 + prefix_len is_ascii_digit xs) 0) (x ∷ xs))
one_digit true x xs e more =
    let d = digits.decimal_digit x (sym e) in
    let n : 1 + prefix_len is_ascii_digit xs ≡ suc (prefix_len is_ascii_digit xs) = omega arith in
    rw n (omega (arith, d.0, d.1, d.2), more)
one_digit false x xs e more = tt

digits_at_front : (xs : List ℕ) → AllDigits 10 (take (prefix_len is_ascii_digit xs) xs)
digits_at_front [] = tt
digits_at_front (x ∷ xs) = one_digit (is_ascii_digit x) x xs refl (digits_at_front xs)

-- what a cursor read of a number
record Taken (xs : List ℕ) (n : ℕ) : Type 0 where
  some : 0 < length (leading_digits xs)
  value : digits_value 10 (leading_digits xs) ≡ n
  small : n < 2 ^ 64

taken : (b c : Bool) (xs : List ℕ) (n : ℕ) → b ≡ nat_lt 0 (length (leading_digits xs)) → c ≡ nat_lt (digits_value 10 (leading_digits xs)) (2 ^ 64)
    → Some n ≡ (if b && c then Some (digits_value 10 (leading_digits xs)) else None) → Taken xs n
taken true true xs n e e' is =
    let v : n ≡ digits_value 10 (leading_digits xs) = cc in
    let l : digits_value 10 (leading_digits xs) < 2 ^ 64 = grind (arith, nat_tests) in
    record { some = grind (arith, nat_tests); value = sym v; small = omega (arith, v, l) }
taken true false xs n e e' is = cc
taken false c xs n e e' is = cc

-- a text that does not begin with `0`
head_is : (b : Bool) (x n : ℕ) (xs : List ℕ) → get_or (take (cond b (1 + n) 0) (x ∷ xs)) 0 0 ≡ 48 → x ≡ 48
head_is true x n xs e = let k : 1 + n ≡ suc n = omega arith in rw k at e
head_is false x n xs e = absurd (omega (arith, e))

not_zero : (xs : List ℕ) → starts_with nat_eq xs (48 ∷ []) ≡ false → get_or (leading_digits xs) 0 0 ≡ 48 → length (leading_digits xs) ≡ 1
not_zero [] h e = absurd (omega (arith, e))
not_zero (x ∷ xs) h e =
    let s : x ≡ 48 = head_is (is_ascii_digit x) x (prefix_len is_ascii_digit xs) xs e in
    let h' = rw s at h in
    absurd (false≢true (sym h'))

number_read : (a b : Reading) (r : Option ℕ) → starts_with nat_eq (rest a) (48 ∷ []) ≡ false → r ≡ number_at (rest a)
    → b ≡ (if is_some r then stepped a (length (leading_digits (rest a))) else a) → IfSome r (λ n. rest a ≡ decimal n ++ rest b)
number_read a b None h value after = tt
number_read a b (Some n) h value after =
    let t = taken (nat_lt 0 (length (leading_digits (rest a)))) (nat_lt (digits_value 10 (leading_digits (rest a))) (2 ^ 64)) (rest a) n refl refl value in
    let d : decimal (digits_value 10 (leading_digits (rest a))) ≡ leading_digits (rest a) =
    decimal-digits_value (numerals_by_value _ tells_digits) (leading_digits (rest a)) (digits_at_front (rest a)) t.some (not_zero (rest a) h) (omega (arith, t.value, t.small)) in
    let d' : decimal n ≡ leading_digits (rest a) = ap decimal (sym t.value) ∙ d in
    let e : rest b ≡ drop (prefix_len is_ascii_digit (rest a)) (rest a) =
    ap rest after ∙ (drop_twice a.place (length (leading_digits (rest a))) a.bytes ∙ ap (λ k. drop k (rest a)) (length-prefix_len is_ascii_digit (rest a))) in
    rw (e, d') (sym (take-append-drop (prefix_len is_ascii_digit (rest a)) (rest a)))

pub number_text : (a o b : Reading) (r : Option ℕ) → o ≡ a → starts_with nat_eq (rest a) (48 ∷ []) ≡ false → r ≡ number_at (rest o)
    → b ≡ (if is_some r then stepped o (length (leading_digits (rest o))) else o) → IfSome r (λ n. rest a ≡ decimal n ++ rest b)
number_text a o b r same h value after = number_read a b r h (rw same at value) (rw same at after)

pub zero_text : (x y : List ℕ) → x ≡ (48 ∷ []) ++ y → x ≡ decimal 0 ++ y
zero_text x y e = rw (decimal_digit 0 (lit< tt)) e

pub append_none : (xs : List ℕ) → xs ++ [] ≡ xs
append_none [] = refl
append_none (x ∷ xs) = ap (λ l. x ∷ l) (append_none xs)

-- one more line
lines_push : (lines : List Node) (x : Node) → lines_text (lines ++ x ∷ []) ≡ lines_text lines ++ line_text x
lines_push [] x = append_none (line_text x)
lines_push (y ∷ lines) x = ap (λ l. line_text y ++ l) (lines_push lines x) ∙ sym (append_assoc (line_text y) (lines_text lines) (line_text x))

pub text_more : (lines : List Node) (x : Node) (s a b : List ℕ) → s ≡ lines_text lines ++ a → a ≡ line_text x ++ b → s ≡ lines_text (lines ++ x ∷ []) ++ b
text_more lines x s a b e e' = rw (lines_push lines x) (join s a b (lines_text lines) (line_text x) e e')

-- the front of a longer list
pub slice_get-front : (xs ys : List Node) (p : ℕ) → p < length xs → slice_get (xs ++ ys) p ≡ slice_get xs p
slice_get-front [] ys p h = absurd (omega arith)
slice_get-front (x ∷ xs) ys zero h = refl
slice_get-front (x ∷ xs) ys (suc p) h = slice_get-front xs ys p (omega arith)

begins_front : (lines : List Node) (x : Node) (e p : ℕ) → p < length lines → BeginsAfter lines e p → BeginsAfter (lines ++ x ∷ []) e p
begins_front lines x e p h after = rw (slice_get-front lines (x ∷ []) p h) after

line_front : (lines : List Node) (y x : Node) (i : ℕ) → i ≤ length lines → IsLineAt lines i x → IsLineAt (lines ++ y ∷ []) i x
line_front lines y (Leaf t) i h w = w
line_front lines y (Branch e hit miss) i h w = record {
  small = w.small;
  hit_earlier = w.hit_earlier;
  miss_earlier = w.miss_earlier;
  hit_after = begins_front lines y e hit.place (omega (arith, w.hit_earlier)) w.hit_after;
  miss_after = begins_front lines y e miss.place (omega (arith, w.miss_earlier)) w.miss_after;
}

last_of : (lines : List Node) (x y : Node) → slice_get (lines ++ x ∷ []) (length lines) ≡ Some y → x ≡ y
last_of [] x y e = cc
last_of (z ∷ lines) x y e = last_of lines x y e

pub length_push : (lines : List Node) (x : Node) → length (lines ++ x ∷ []) ≡ suc (length lines)
length_push [] x = refl
length_push (y ∷ lines) x = ap suc (length_push lines x)

pub lines_more : (lines : List Node) (x : Node) → AreLines lines → IsLineAt lines (length lines) x → AreLines (lines ++ x ∷ [])
lines_more lines x all w = record {
  each = λ i y at. elim (cases_lt i (length lines)) [
    | inl l ↦ line_front lines x y i (omega arith) (all.each i y (sym (slice_get-front lines (x ∷ []) i l) ∙ at))
    | inr g ↦
        let h = slice_get_within (lines ++ x ∷ []) i y at in
        let n = length_push lines x in
        let s : i ≡ length lines = omega (arith, h, n) in
        let at' : slice_get (lines ++ x ∷ []) (length lines) ≡ Some y = rw (← s) at in
        rw (s, ← last_of lines x y at') (line_front lines x x (length lines) (omega arith) w)
  ];
}

pub lines_none : AreLines []
lines_none = record { each = λ i x at. cc }

-- pieces that stand behind one another
pub three : (x0 x1 x2 x3 a b c : List ℕ) → x0 ≡ a ++ x1 → x1 ≡ b ++ x2 → x2 ≡ c ++ x3 → x0 ≡ ((a ++ b) ++ c) ++ x3
three x0 x1 x2 x3 a b c p q r = join x0 x2 x3 (a ++ b) c (join x0 x1 x2 a b p q) r

pub six : (x0 x1 x2 x3 x4 x5 x6 a b c d e f : List ℕ) → x0 ≡ a ++ x1 → x1 ≡ b ++ x2 → x2 ≡ c ++ x3 → x3 ≡ d ++ x4 → x4 ≡ e ++ x5 → x5 ≡ f ++ x6
    → x0 ≡ (((((a ++ b) ++ c) ++ d) ++ e) ++ f) ++ x6
six x0 x1 x2 x3 x4 x5 x6 a b c d e f p q r s t u =
    join x0 x5 x6 ((((a ++ b) ++ c) ++ d) ++ e) f (join x0 x4 x5 (((a ++ b) ++ c) ++ d) e (join x0 x3 x4 ((a ++ b) ++ c) d (three x0 x1 x2 x3 a b c p q r) s) t) u

pub passed_second : (a o b : Reading) (r : Bool) (t : List ℕ) → o ≡ a → r ≡ starts_with nat_eq (rest o) t → b ≡ (if r then stepped o (length t) else o) → r ≡ true → rest a ≡ t ++ rest b
passed_second a o b r t same found after is = passed a b r t (rw same at found) (rw same at after) is

pub leaf_text : (r : Option Node) (a o b : List ℕ) → a ≡ codes "leaf " ++ o → IfSome r (λ x. (t : ℕ) × (t < 2 ^ 64) × (x ≡ Leaf t) × (o ≡ decimal t ++ codes "\n" ++ b))
    → IfSome r (λ x. a ≡ line_text x ++ b)
leaf_text None a o b e w = tt
leaf_text (Some x) a o b e w = rw (w.2) (join a o b (codes "leaf ") (decimal w.0 ++ codes "\n") e w.3)

-- the whole text of some lines
pub whole_text : (a b c : Reading) (n : ℕ) (lines : List Node) → a.place ≡ 0 → c.bytes ≡ a.bytes → rest a ≡ count_line n ++ rest b → rest b ≡ lines_text lines ++ rest c → c.place ≡ length c.bytes
    → 0 < n → n < 2 ^ 64 → length lines ≡ n → AreLines lines → HasLines a.bytes lines
whole_text a b c n lines start same head tail end some fits counted proper = record {
  some = omega arith;
  fits = omega arith;
  proper = proper;
  whole =
      let z : rest c ≡ [] = rw end (drop-length c.bytes) in
      let w : rest a ≡ (count_line n ++ lines_text lines) ++ rest c = join (rest a) (rest b) (rest c) (count_line n) (lines_text lines) head tail in
      let f : rest a ≡ a.bytes = rw start refl in
      let w' = rw (z, f) at w in
      rw counted (w' ∙ append_none (count_line n ++ lines_text lines));
}

-- a number that was made smaller is that number
pub tried : {E : Type 0} (P : Type 0) (r : Result ℕ E) (n e : ℕ) → OkIff r P n → Some e ≡ result_ok r → e ≡ n
tried P (Ok m) n e h is = let k : m ≡ n = h.1 in let s : e ≡ m = cc in s ∙ k
tried P (Err x) n e h is = cc

-- the text up to a place
pub front_of : (a b : Reading) (n at : ℕ) (lines : List Node) → a.place ≡ 0 → b.bytes ≡ a.bytes → rest a ≡ count_line n ++ rest b → 0 < n → n < 2 ^ 64 → AreLines lines
    → rest b ≡ lines_text lines ++ drop at a.bytes → at ≤ length a.bytes → IsFront a.bytes n at lines
front_of a b n at lines start same head some fits proper text within =
    let w : rest a ≡ (count_line n ++ lines_text lines) ++ drop at a.bytes = join (rest a) (rest b) (drop at a.bytes) (count_line n) (lines_text lines) head text in
    let f : rest a ≡ a.bytes = rw start refl in
    let front : a.bytes ≡ (count_line n ++ lines_text lines) ++ drop at a.bytes = sym f ∙ w in
    let l : length a.bytes ≡ length (count_line n ++ lines_text lines) + length (drop at a.bytes) = ap length front ∙ length-append (count_line n ++ lines_text lines) (drop at a.bytes) in
    let m = length-drop at a.bytes in
    record {
      some = some;
      fits = fits;
      proper = proper;
      text = front;
      ends = omega (arith, l, m, within);
    }

-- what reading the announced lines refuses, in the whole text
pub refused_of : (a b : Reading) (n : ℕ) (bytes : List ℕ) (e : DiagramError) → a.place ≡ 0 → a.bytes ≡ bytes → b.bytes ≡ a.bytes → rest a ≡ count_line n ++ rest b → 0 < n → n < 2 ^ 64
    → IsCountedRefusal b n e → IsLineRefusal bytes e
refused_of a b n bytes (Syntax at) start from same head some fits h =
    let d : drop at b.bytes ≡ drop at a.bytes = ap (drop at) same in
    let w = rw same at h.within in
    let none : BeginsWithLine h.lines (drop at a.bytes) → ⊥ = rw same at h.none in
    let lacks : LacksLine a.bytes at = record {
      count = n;
      lines = h.lines;
      front = front_of a b n at h.lines start same head some fits h.proper (h.text ∙ ap (λ l. lines_text h.lines ++ l) d) w;
      fewer = h.fewer;
      none = none;
    } in
    inr (inl (rw (← from) lacks))
refused_of a b n bytes (NotReduced line) start from same head some fits h = h
refused_of a b n bytes (Order line) start from same head some fits h = h
refused_of a b n bytes NoMemory start from same head some fits h = tt

pub end_of : (a b c : Reading) (n at : ℕ) (bytes : List ℕ) (lines : List Node) → a.place ≡ 0 → a.bytes ≡ bytes → b.bytes ≡ a.bytes → c.bytes ≡ b.bytes → rest a ≡ count_line n ++ rest b → 0 < n → n < 2 ^ 64
    → length lines ≡ n → AreLines lines → rest b ≡ lines_text lines ++ rest c → at ≡ c.place → at ≤ length c.bytes → (c.place ≡ length c.bytes → ⊥) → IsSyntaxPlace bytes at
end_of a b c n at bytes lines start from same same' head some fits count proper text place within more =
    let e : c.bytes ≡ a.bytes = same' ∙ same in
    let d : rest c ≡ drop at a.bytes = rw (place, ← e) refl in
    let w = rw e at within in
    let z = rw e at more in
    let front : IsFront a.bytes n at lines = front_of a b n at lines start same head some fits proper (text ∙ ap (λ l. lines_text lines ++ l) d) w in
    let on : GoesOn a.bytes at = record { lines = lines; front = rw count front; more = omega (arith, z, w) } in
    inr (inr (rw (← from) on))

pub no_count : (a : Reading) (bytes : List ℕ) → a.place ≡ 0 → a.bytes ≡ bytes → ((n : ℕ) (tail : List ℕ) → 0 < n → n < 2 ^ 64 → rest a ≡ count_line n ++ tail → ⊥) → HasNoCount bytes
no_count a bytes start from none = record {
  none = λ n tail some small e.
      let f : rest a ≡ bytes = rw (start, from) refl in
      none n tail some small (f ∙ e);
}
