-- Lines that are spelled from what they tell make a text.
use Rattle.std.proofs.Common.{◌≡◌, ℕ, ◌/◌, ◌%◌, ◌<◌, ◌≤◌, ◌^◌, Bool, true, false, ◌&&◌, List, [], ◌∷◌, ◌++◌, length, map, All, Some, None, refl, sym, ◌∙◌, ap, subst, arith, append_assoc, append-nil}
use Rattle.std.specs.Prelude.{Option, codes, ◌||◌, ltb}
use Rattle.std.specs.List.{list_all, AllByRecursion}
use Rattle.std.specs.Char.{is_ascii_digit}
use Rattle.std.specs.Str.{bytes_eq}
use Rattle.std.specs.Int.{IsInRange}
use Rattle.std.specs.Str.Parse.{AllDigits}
use Rattle.std.proofs.lemmas.Bool.Decides.{nat_tests}
use Rattle.std.proofs.lemmas.List.{map-append}
use Rattle.std.proofs.lemmas.List.Elements.{All-head, All-tail}
use Rattle.std.proofs.lemmas.Grind.{flat_map-append}
use Rattle.std.proofs.lemmas.Str.Parse.{tells_digits}
use Rattle.std.proofs.lemmas.Fmt.{decimal_is_IsNumeral}
use Rattle.wx_text.specs.Decimal.{decimal}
use Rattle.wx_text.specs.Hexadecimal.{hex_digit, hex_word}
use Rattle.wx_text.specs.Cursor.{is_hex_digit}
use Rattle.flow_ctx.specs.declared.scope.Scope.{Scope}
use Rattle.flow_ctx.specs.declared.scope.Scope.TheVariants.{Run, Loop}
use Rattle.cert_lines.specs.declared.kind.Version.{Version}
use Rattle.cert_lines.specs.declared.kind.Version.TheVariants.{One, Two}
use Rattle.cert_lines.specs.declared.kind.Kind.{Kind}
use Rattle.cert_lines.specs.declared.kind.Kind.TheVariants as kind
use Rattle.cert_lines.specs.declared.kind.Role.{Role}
use Rattle.cert_lines.specs.declared.kind.Role.TheVariants as role
use Rattle.cert_lines.specs.Table.{name_of, part_of, may_stand, next, may_end, separator, is_number, is_word}
use Rattle.cert_lines.specs.Grammar.{Line, IsBegun, AreLines, version_behind}
use Rattle.cert_lines.specs.Grammar.IsBegun.{named, worded}
use Rattle.cert_lines.specs.Grammar.AreLines.{lined}
use Rattle.cert_items.specs.declared.item.Pair.{Pair}
use Rattle.cert_items.specs.declared.item.Item.{Item}
use Rattle.cert_items.specs.declared.item.Item.TheVariants as item
use Rattle.cert_items.specs.Said.{kind_of, flat, arguments, scope_word, most, IsSlot, IsPlace, FitsScope, Fits}
use Rattle.cert_text.specs.Written.{spelled, line_text, text_of}

-- the line that tells this
abbrev pub line_of : Item → Line
line_of x = record { kind = kind_of x; words = name_of (kind_of x) ∷ arguments x }

-- behind a word of the role these words lead to the end of the line
pub data Ends (kind : Kind) : Role → List (List ℕ) → Type 0 where
  stop : {r : Role} → may_end kind r ≡ true → Ends kind r []
  go : {r : Role} {words : List (List ℕ)} (following : Role) (word : List ℕ) → next kind r ≡ Some following → is_word kind following word ≡ true → Ends kind following words → Ends kind r (word ∷ words)

-- the text is a whole line of these words
pub record IsWhole (kind : Kind) (words : List (List ℕ)) (text : List ℕ) : Type 0 where
  pub last : Role
  pub begun : IsBegun kind words last text
  pub ends : may_end kind last ≡ true

whole_by : (kind : Kind) (words others : List (List ℕ)) (text other : List ℕ) → words ≡ others → text ≡ other → IsWhole kind words text → IsWhole kind others other
whole_by kind words others text other e h w = subst (λ t. IsWhole kind others t) h (subst (λ (l : List (List ℕ)). IsWhole kind l text) e w)

pub whole : (kind : Kind) (words : List (List ℕ)) (r : Role) (text : List ℕ) (behind : List (List ℕ)) → IsBegun kind words r text → Ends kind r behind → IsWhole kind (words ++ behind) (text ++ spelled kind (next kind r) behind)
whole kind words r text [] begun (stop e) =
    whole_by kind words (words ++ []) text (text ++ spelled kind (next kind r) []) (sym (append-nil words)) (sym (append-nil text) ∙ ap (λ t. text ++ t) (sym (nothing (next kind r)))) (record { last = r; begun = begun; ends = e })
  where
    nothing : (o : Option Role) → spelled kind o [] ≡ []
    nothing None = refl
    nothing (Some role) = refl
whole kind words r text (w ∷ behind) begun (go following word leads is rest) =
    let longer = worded following word begun leads is in
    let step = whole kind (words ++ word ∷ []) following (text ++ separator following ∷ word) behind longer rest in
    let spell : spelled kind (next kind r) (word ∷ behind) ≡ separator following ∷ word ++ spelled kind (next kind following) behind = ap (λ (o : Option Role). spelled kind o (word ∷ behind)) leads in
    whole_by kind ((words ++ word ∷ []) ++ behind) (words ++ word ∷ behind) ((text ++ separator following ∷ word) ++ spelled kind (next kind following) behind) (text ++ spelled kind (next kind r) (word ∷ behind))
    (append_assoc words (word ∷ []) behind)
    (append_assoc text (separator following ∷ word) (spelled kind (next kind following) behind) ∙ ap (λ t. text ++ t) (sym spell)) step

-- ---- words that are numbers
digit_is : (c : ℕ) → IsInRange 48 57 c → is_ascii_digit c ≡ true
digit_is c inside = grind (arith, nat_tests)

digits_are : (text : List ℕ) → AllDigits 10 text → list_all is_ascii_digit text ≡ true
digits_are [] digits = refl
digits_are (c ∷ text) digits = rw (digit_is c (tells_digits.parts c text digits).0) (digits_are text (tells_digits.parts c text digits).1)

number_is : (n : ℕ) → n < 2 ^ 64 → is_number (decimal n) ≡ true
number_is n small =
    let p = (decimal_is_IsNumeral n small).0 in
    let some : 0 < length (decimal n) = p.0 in
    by (length (decimal n)) (list_all is_ascii_digit (decimal n)) some (digits_are (decimal n) p.1)
  where
    by : (n : ℕ) (b : Bool) → 0 < n → b ≡ true → (ltb 0 n && b) ≡ true
    by n b some all = rw all (grind (arith, nat_tests))

hex_is : (d : ℕ) → d < 16 → is_hex_digit (hex_digit d) ≡ true
hex_is d small = grind (arith, nat_tests)

address_is : (kind : Kind) (w : ℕ) → is_word kind role.Address (hex_word w) ≡ true
unfolding hex_word
address_is kind w = rw (
  hex_is (w / 2 ^ 28 % 16) (omega arith),
  hex_is (w / 2 ^ 24 % 16) (omega arith),
  hex_is (w / 2 ^ 20 % 16) (omega arith),
  hex_is (w / 2 ^ 16 % 16) (omega arith),
  hex_is (w / 2 ^ 12 % 16) (omega arith),
  hex_is (w / 2 ^ 8 % 16) (omega arith),
  hex_is (w / 2 ^ 4 % 16) (omega arith),
  hex_is (w % 16) (omega arith),
) refl

amount_is : (n : ℕ) → n ≤ most → is_number (decimal n) ≡ true
amount_is n small = number_is n (omega (arith, small))

count_is : (n : ℕ) → n < 2 ^ 32 → is_number (decimal n) ≡ true
count_is n small = number_is n (omega (arith, small))

scope_is : (kind : Kind) (s : Scope) → FitsScope s → is_word kind role.Scope (scope_word s) ≡ true
scope_is kind Run fits = refl
scope_is kind (Loop n) fits = rw (count_is n fits) (or_true (bytes_eq (decimal n) (codes "run")))
  where
    or_true : (b : Bool) → (b || true) ≡ true
    or_true true = refl
    or_true false = refl

-- ---- pairs
slots_end : (kind : Kind) (r : Role) → may_end kind r ≡ true → next kind r ≡ Some role.Left → next kind role.Left ≡ Some role.Right → next kind role.Right ≡ Some role.Left → may_end kind role.Right ≡ true
    → (pairs : List Pair) → ((p : Pair) → IsSlot p → is_number (decimal p.left) ≡ true) → All IsSlot pairs → Ends kind r (map decimal (flat pairs))
slots_end kind r stops left right again ends [] f all = stop stops
slots_end kind r stops left right again ends (p ∷ pairs) f all =
    let here = All-head IsSlot p pairs all in
    go role.Left (decimal p.left) left (f p here) (go role.Right (decimal p.right) right (amount_is p.right here.value)
    (slots_end kind role.Right ends again right again ends pairs f (All-tail IsSlot p pairs all)))

places_end : (kind : Kind) (r : Role) → may_end kind r ≡ true → next kind r ≡ Some role.Left → next kind role.Left ≡ Some role.Right → next kind role.Right ≡ Some role.Left → may_end kind role.Right ≡ true
    → (pairs : List Pair) → All IsPlace pairs → Ends kind r (map decimal (flat pairs))
places_end kind r stops left right again ends [] all = stop stops
places_end kind r stops left right again ends (p ∷ pairs) all =
    let here = All-head IsPlace p pairs all in
    go role.Left (decimal p.left) left (amount_is p.left here.potential) (go role.Right (decimal p.right) right (count_is p.right here.place)
    (places_end kind role.Right ends again right again ends pairs (All-tail IsPlace p pairs all)))

slot_is : (p : Pair) → IsSlot p → is_number (decimal p.left) ≡ true
slot_is p fits = number_is p.left (let s = fits.slot in omega (arith, s))

-- the words behind the name of a line end it
pub line_ends : (x : Item) → Fits x → Ends (kind_of x) role.Name (arguments x)
line_ends (item.Head One) fits = go role.Version (codes "1") refl refl (stop refl)
line_ends (item.Head Two) fits = go role.Version (codes "2") refl refl (stop refl)
line_ends (item.Node number count) fits = go role.First (decimal number) refl (count_is number fits.0) (go role.Last (decimal count) refl (count_is count fits.1) (stop refl))
line_ends (item.Vector potential slots) fits = go role.First (decimal potential) refl (amount_is potential fits.0) (slots_end kind.Vector role.First refl refl refl refl refl slots slot_is fits.1)
line_ends (item.Count count) fits = go role.Last (decimal count) refl (count_is count fits) (stop refl)
line_ends (item.Listed slots) fits = slots_end kind.Listed role.Name refl refl refl refl refl slots slot_is fits
line_ends (item.Places number places) fits = go role.First (decimal number) refl (count_is number fits.0) (places_end kind.Places role.First refl refl refl refl refl places fits.1)
line_ends (item.Charge line scope amount) fits =
    go role.Address (hex_word line) refl (address_is kind.Charge line) (go role.Scope (scope_word scope) refl (scope_is kind.Charge scope fits.1) (go role.Last (decimal amount) refl (amount_is amount fits.2) (stop refl)))
line_ends (item.Multiplier number amount) fits = go role.First (decimal number) refl (count_is number fits.0) (go role.Last (decimal amount) refl (amount_is amount fits.1) (stop refl))
line_ends (item.Total address amount) fits = go role.Address (hex_word address) refl (address_is kind.Total address) (go role.Last (decimal amount) refl (amount_is amount fits.1) (stop refl))
line_ends (item.Bound amount) fits = go role.Last (decimal amount) refl (amount_is amount fits) (stop refl)
line_ends item.End fits = stop refl

-- ---- lines behind one another
-- one line more
pub line_more : (v : Version) (lines : List Line) (last : Option Kind) (text : List ℕ) (x : Item) → AreLines v lines last text → may_stand v (part_of last) (kind_of x) ≡ true → Fits x
    → AreLines (version_behind v (kind_of x) (name_of (kind_of x) ∷ arguments x)) (lines ++ line_of x ∷ []) (Some (kind_of x)) (text ++ line_text x)
line_more v lines last text x so stand fits =
    let w = whole (kind_of x) (name_of (kind_of x) ∷ []) role.Name (name_of (kind_of x)) (arguments x) named (line_ends x fits) in
    subst (λ t. AreLines (version_behind v (kind_of x) (name_of (kind_of x) ∷ arguments x)) (lines ++ line_of x ∷ []) (Some (kind_of x)) (text ++ t))
    (append_assoc (name_of (kind_of x)) (spelled (kind_of x) (next (kind_of x) role.Name) (arguments x)) (10 ∷ []))
    (lined (kind_of x) so stand w.begun w.ends)

-- the lines of these items are the first of a text of version 2, and the last one is of no later part
pub record AreFront (items : List Item) (part : ℕ) : Type 0 where
  pub last : Option Kind
  pub lines : AreLines Two (map line_of items) last (text_of items)
  pub low : 2 ≤ part_of last
  pub high : part_of last ≤ part

-- a line of this part, which may stand behind the second line and all others up to the part
pub record IsOfPart (part : ℕ) (x : Item) : Type 0 where
  pub is : part_of (Some (kind_of x)) ≡ part
  pub stand : (p : ℕ) → 2 ≤ p → p ≤ part → may_stand Two p (kind_of x) ≡ true
  pub same : version_behind Two (kind_of x) (name_of (kind_of x) ∷ arguments x) ≡ Two

text_push : (items : List Item) (x : Item) → text_of (items ++ x ∷ []) ≡ text_of items ++ line_text x
text_push items x = flat_map-append line_text items (x ∷ []) ∙ ap (λ t. text_of items ++ t) (append-nil (line_text x))

pub line_by : (v : Version) (items : List Item) (last : Option Kind) (x : Item) → AreLines v (map line_of items) last (text_of items) → may_stand v (part_of last) (kind_of x) ≡ true → Fits x
    → AreLines (version_behind v (kind_of x) (name_of (kind_of x) ∷ arguments x)) (map line_of (items ++ x ∷ [])) (Some (kind_of x)) (text_of (items ++ x ∷ []))
line_by v items last x so stand fits =
    let w = version_behind v (kind_of x) (name_of (kind_of x) ∷ arguments x) in
    subst (λ t. AreLines w (map line_of (items ++ x ∷ [])) (Some (kind_of x)) t) (sym (text_push items x))
    (subst (λ (l : List Line). AreLines w l (Some (kind_of x)) (text_of items ++ line_text x)) (sym (map-append line_of items (x ∷ [])))
    (line_more v (map line_of items) last (text_of items) x so stand fits))

front_more : (items : List Item) (from part : ℕ) (x : Item) → AreFront items from → from ≤ part → 2 ≤ part → IsOfPart part x → Fits x → AreFront (items ++ x ∷ []) part
front_more items from part x f order low is fits =
    let h = f.high in
    let so = line_by Two items f.last x f.lines (is.stand (part_of f.last) f.low (omega (arith, h, order))) fits in
    record {
      last = Some (kind_of x);
      lines = subst (λ (v : Version). AreLines v (map line_of (items ++ x ∷ [])) (Some (kind_of x)) (text_of (items ++ x ∷ []))) is.same so;
      low = subst (λ n. 2 ≤ n) (sym is.is) low;
      high = subst (λ n. n ≤ part) (sym is.is) (omega arith);
    }

front_by : (items : List Item) (from part : ℕ) → from ≤ part → AreFront items from → AreFront items part
front_by items from part order f = record { last = f.last; lines = f.lines; low = f.low; high = (let h = f.high in omega (arith, h, order)) }

-- lines of one part behind lines of earlier ones
pub front_all : (items behind : List Item) (from part : ℕ) → AreFront items from → from ≤ part → 2 ≤ part → AllByRecursion (IsOfPart part) behind → AllByRecursion Fits behind → AreFront (items ++ behind) part
front_all items [] from part f order low are fits = subst (λ (l : List Item). AreFront l part) (sym (append-nil items)) (front_by items from part order f)
front_all items (x ∷ behind) from part f order low are fits =
    subst (λ (l : List Item). AreFront l part) (append_assoc items (x ∷ []) behind)
    (front_all (items ++ x ∷ []) behind part part (front_more items from part x f order low are.0 fits.0) (omega arith) low are.1 fits.1)
