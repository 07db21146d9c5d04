-- Bytes are the lines of a certificate's text in one way.
use Rattle.std.proofs.Common.{◌≡◌, ◌⊎◌, inl, inr, ⊎_elim, ℕ, Bool, true, false, cond, ◌==◌, ◌&&◌, not, codes, List, [], ◌∷◌, ◌++◌, length, get_or, Option, Some, refl, sym, ap, ◌∙◌, subst, arith, append_assoc}
use Rattle.std.specs.Char.{is_ascii_digit}
use Rattle.std.specs.List.{list_all}
use Rattle.std.proofs.lemmas.Bool.{and_parts, false≢true, or_cases}
use Rattle.std.proofs.lemmas.Bool.Decides.{nat_tests}
use Rattle.std.proofs.lemmas.List.{same_from_push}
use Rattle.std.proofs.lemmas.List.Folds.{list_all-append}
use Rattle.std.proofs.lemmas.Slice.Eq.{bytes_eq-Decides}
use Rattle.wx_text.specs.Cursor.{is_hex_digit}
use Rattle.cert_lines.specs.declared.kind.Version.{Version}
use Rattle.cert_lines.specs.declared.kind.Version.TheVariants.{One, Two}
use Rattle.cert_lines.specs.declared.kind.Kind.{Kind}
use Rattle.cert_lines.specs.declared.kind.Kind.TheVariants as kind
use Rattle.cert_lines.specs.declared.kind.Role.{Role}
use Rattle.cert_lines.specs.declared.kind.Role.TheVariants as role
use Rattle.cert_lines.specs.Table.{is_number, is_one, is_word, may_stand, name_of, part_of, separator}
use Rattle.cert_lines.specs.Grammar.{AreLines, IsBegun, Line, version_behind}
use Rattle.cert_lines.specs.Grammar.IsBegun.{named, worded}
use Rattle.cert_lines.specs.Grammar.AreLines.{empty, lined}

-- ---- words have no separators in them
abbrev is_plain : ℕ → Bool
is_plain b = not (b == 10) && not (b == 32) && not (b == 58)

abbrev is_feedless : ℕ → Bool
is_feedless b = not (b == 10)

abbrev AreAll : (ℕ → Bool) → List ℕ → Type 0
AreAll p bytes = list_all p bytes ≡ true

and_both : (a b : Bool) → a ≡ true → b ≡ true → (a && b) ≡ true
and_both true b p q = q
and_both false b p q = absurd (false≢true p)

all_more : (p q : ℕ → Bool) → ((b : ℕ) → p b ≡ true → q b ≡ true) → (bytes : List ℕ) → AreAll p bytes → AreAll q bytes
all_more p q each [] all = refl
all_more p q each (b ∷ bytes) all =
    let parts = and_parts (p b) (list_all p bytes) all in
    and_both (q b) (list_all q bytes) (each b parts.0) (all_more p q each bytes parts.1)

digit_plain : (b : ℕ) → is_ascii_digit b ≡ true → is_plain b ≡ true
digit_plain b e = grind (arith, nat_tests)

hex_plain : (b : ℕ) → is_hex_digit b ≡ true → is_plain b ≡ true
hex_plain b e = grind (arith, nat_tests)

plain_feedless : (b : ℕ) → is_plain b ≡ true → is_feedless b ≡ true
plain_feedless b e = (and_parts (not (b == 10)) (not (b == 32)) (and_parts (not (b == 10) && not (b == 32)) (not (b == 58)) e).0).0

number_plain : (text : List ℕ) → is_number text ≡ true → AreAll is_plain text
number_plain text e = all_more is_ascii_digit is_plain digit_plain text (and_parts _ (list_all is_ascii_digit text) e).1

name_plain : (k : Kind) → AreAll is_plain (name_of k)
name_plain kind.Head = refl
name_plain kind.Node = refl
name_plain kind.Vector = refl
name_plain kind.Count = refl
name_plain kind.Listed = refl
name_plain kind.Places = refl
name_plain kind.Charge = refl
name_plain kind.Multiplier = refl
name_plain kind.Total = refl
name_plain kind.Bound = refl
name_plain kind.End = refl

word_plain : (k : Kind) (r : Role) (word : List ℕ) → is_word k r word ≡ true → AreAll is_plain word
word_plain k role.Name word e = subst (AreAll is_plain) (sym ((bytes_eq-Decides word (name_of k)).0 e)) (name_plain k)
word_plain k role.Version word e =
    ⊎_elim (λ h. subst (AreAll is_plain) (sym ((bytes_eq-Decides word (codes "1")).0 h)) refl)
    (λ h. subst (AreAll is_plain) (sym ((bytes_eq-Decides word (codes "2")).0 h)) refl) (or_cases _ _ e)
word_plain k role.First word e = number_plain word e
word_plain k role.Last word e = number_plain word e
word_plain k role.Left word e = number_plain word e
word_plain k role.Right word e = number_plain word e
word_plain k role.Address word e = all_more is_hex_digit is_plain hex_plain word (and_parts _ (list_all is_hex_digit word) e).1
word_plain k role.Scope word e =
    ⊎_elim (λ h. subst (AreAll is_plain) (sym ((bytes_eq-Decides word (codes "run")).0 h)) refl) (λ h. number_plain word h) (or_cases _ _ e)

separates : (r : Role) → is_plain (separator r) ≡ false
separates role.Right = refl
separates role.Name = refl
separates role.Version = refl
separates role.First = refl
separates role.Last = refl
separates role.Left = refl
separates role.Address = refl
separates role.Scope = refl

no_feed : (r : Role) → is_feedless (separator r) ≡ true
no_feed role.Right = refl
no_feed role.Name = refl
no_feed role.Version = refl
no_feed role.First = refl
no_feed role.Last = refl
no_feed role.Left = refl
no_feed role.Address = refl
no_feed role.Scope = refl

-- ---- the last separator
first : {A : Type 0} {x y : A} {xs ys : List A} → x ∷ xs ≡ y ∷ ys → x ≡ y
first e = cc

later : {A : Type 0} {x y : A} {xs ys : List A} → x ∷ xs ≡ y ∷ ys → xs ≡ ys
later e = cc

none_among : (p : ℕ → Bool) (a : List ℕ) (s : ℕ) (w : List ℕ) → p s ≡ false → AreAll p (a ++ s ∷ w) → ⊥
none_among p [] s w lacks all = false≢true (sym lacks ∙ (and_parts (p s) (list_all p w) all).0)
none_among p (x ∷ a) s w lacks all = none_among p a s w lacks (and_parts (p x) (list_all p (a ++ s ∷ w)) all).1

record AreSame (a b : List ℕ) (s t : ℕ) (w v : List ℕ) : Type 0 where
  before : a ≡ b
  between : s ≡ t
  behind : w ≡ v

last_split : (p : ℕ → Bool) (a b : List ℕ) (s t : ℕ) (w v : List ℕ) → AreAll p w → AreAll p v → p s ≡ false → p t ≡ false → a ++ s ∷ w ≡ b ++ t ∷ v → AreSame a b s t w v
last_split p [] [] s t w v all also lacks none e = record { before = refl; between = first e; behind = later e }
last_split p [] (y ∷ b) s t w v all also lacks none e = absurd (none_among p b t v none (subst (AreAll p) (later e) all))
last_split p (x ∷ a) [] s t w v all also lacks none e = absurd (none_among p a s w lacks (subst (AreAll p) (sym (later e)) also))
last_split p (x ∷ a) (y ∷ b) s t w v all also lacks none e =
    let rest = last_split p a b s t w v all also lacks none (later e) in
    let here = first e in
    record { before = λ i. here i ∷ rest.before i; between = rest.between; behind = rest.behind }

-- ---- a line
one_line : {k l : Kind} {ws vs : List (List ℕ)} {r q : Role} (t u : List ℕ) → IsBegun k ws r t → IsBegun l vs q u → t ≡ u → ws ≡ vs
one_line t u named named e = ap (λ name. name ∷ []) e
one_line {k = k} t u named (worded {text = c} g v d leads is) e = absurd (none_among is_plain c (separator g) v (separates g) (subst (AreAll is_plain) e (name_plain k)))
one_line {l = l} t u (worded {text = a} f w b leads is) named e = absurd (none_among is_plain a (separator f) w (separates f) (subst (AreAll is_plain) (sym e) (name_plain l)))
one_line {k = k} {l = l} t u (worded {text = a} f w b leads is) (worded {text = c} g v d leads' is') e =
    let s = last_split is_plain a c (separator f) (separator g) w v (word_plain k f w is) (word_plain l g v is') (separates f) (separates g) e in
    let words = one_line a c b d s.before in
    let word = s.behind in
    λ i. words i ++ word i ∷ []

-- its first word is the name
name_first : {k : Kind} {ws : List (List ℕ)} {r : Role} {t : List ℕ} → IsBegun k ws r t → (rest : List (List ℕ)) × (ws ≡ name_of k ∷ rest)
name_first named = ([], refl)
name_first (worded following word b leads is) = let h = name_first b in (h.0 ++ word ∷ [], ap (λ (l : List (List ℕ)). l ++ word ∷ []) h.1)

-- no byte of it is a line feed
line_feedless : {k : Kind} {ws : List (List ℕ)} {r : Role} {t : List ℕ} → IsBegun k ws r t → AreAll is_feedless t
line_feedless {k = k} named = all_more is_plain is_feedless plain_feedless (name_of k) (name_plain k)
line_feedless {k = k} (worded {text = a} f w b leads is) =
    list_all-append is_feedless a (separator f ∷ w)
    ∙ and_both (list_all is_feedless a) (list_all is_feedless (separator f ∷ w)) (line_feedless b)
    (and_both (is_feedless (separator f)) (list_all is_feedless w) (no_feed f) (all_more is_plain is_feedless plain_feedless w (word_plain k f w is)))

-- ---- the kind of a line
by_letter : Version → ℕ → ℕ → Kind
by_letter v c size =
    cond (c == 119) kind.Head
    (cond (c == 110) (cond (is_one v) kind.Node kind.Places)
    (cond (c == 118) (cond (size == 3) kind.Vector (cond (size == 7) kind.Count kind.Listed))
    (cond (c == 99) kind.Charge (cond (c == 109) kind.Multiplier (cond (c == 116) kind.Total (cond (c == 98) kind.Bound kind.End))))))

kind_by : Version → List ℕ → Kind
kind_by v name = by_letter v (get_or name 0 0) (length name)

told_by_name : (v : Version) (part : ℕ) (k : Kind) → may_stand v part k ≡ true → kind_by v (name_of k) ≡ k
unfolding kind_by by_letter
told_by_name v part kind.Head e = refl
told_by_name One part kind.Node e = refl
told_by_name Two part kind.Node e = absurd (false≢true e)
told_by_name v part kind.Vector e = refl
told_by_name v part kind.Count e = refl
told_by_name v part kind.Listed e = refl
told_by_name One part kind.Places e = absurd (false≢true e)
told_by_name Two part kind.Places e = refl
told_by_name v part kind.Charge e = refl
told_by_name v part kind.Multiplier e = refl
told_by_name v part kind.Total e = refl
told_by_name v part kind.Bound e = refl
told_by_name v part kind.End e = refl

same_kind : (v w : Version) (part other : ℕ) (k l : Kind) → v ≡ w → may_stand v part k ≡ true → may_stand w other l ≡ true → name_of k ≡ name_of l → k ≡ l
same_kind v w part other k l same p q e = sym (told_by_name v part k p) ∙ (λ i. kind_by (same i) (e i)) ∙ told_by_name w other l q

-- ---- lines
abbrev IsEnded : List ℕ → Type 0
IsEnded t = (t ≡ []) ⊎ ((u : List ℕ) × (t ≡ u ++ 10 ∷ []))

ended : {v : Version} {lines : List Line} {last : Option Kind} {t : List ℕ} → AreLines v lines last t → IsEnded t
ended empty = inl refl
ended (lined {text = a} {line = l} k before stands begun ends) = inr (a ++ l, sym (append_assoc a l (10 ∷ [])))

-- behind the last line feed
cut : (a b l m : List ℕ) → IsEnded a → IsEnded b → AreAll is_feedless l → AreAll is_feedless m → a ++ l ≡ b ++ m → (a ≡ b) × (l ≡ m)
cut a b l m (inl p) (inl q) all also e = (p ∙ sym q, ap (λ (x : List ℕ). x ++ l) (sym p) ∙ e ∙ ap (λ (x : List ℕ). x ++ m) q)
cut a b l m (inl p) (inr (u, q)) all also e =
    absurd (none_among is_feedless u 10 m refl (subst (AreAll is_feedless) (ap (λ (x : List ℕ). x ++ l) (sym p) ∙ e ∙ ap (λ (x : List ℕ). x ++ m) q ∙ append_assoc u (10 ∷ []) m) all))
cut a b l m (inr (u, p)) (inl q) all also e =
    absurd (none_among is_feedless u 10 l refl (subst (AreAll is_feedless) (ap (λ (x : List ℕ). x ++ m) (sym q) ∙ sym e ∙ ap (λ (x : List ℕ). x ++ l) p ∙ append_assoc u (10 ∷ []) l) also))
cut a b l m (inr (u, p)) (inr (x, q)) all also e =
    let split : u ++ 10 ∷ l ≡ x ++ 10 ∷ m = sym (append_assoc u (10 ∷ []) l) ∙ ap (λ (y : List ℕ). y ++ l) (sym p) ∙ e ∙ ap (λ (y : List ℕ). y ++ m) q ∙ append_assoc x (10 ∷ []) m in
    let s = last_split is_feedless u x 10 10 l m all also refl refl split in
    (p ∙ ap (λ (y : List ℕ). y ++ 10 ∷ []) s.before ∙ sym q, s.behind)

not_nothing : (a l : List ℕ) → [] ≡ a ++ (l ++ 10 ∷ []) → ⊥
not_nothing [] [] e = cc
not_nothing [] (x ∷ l) e = cc
not_nothing (x ∷ a) l e = cc

pub record AreOne (v w : Version) (lines others : List Line) (last final : Option Kind) : Type 0 where
  pub same_version : v ≡ w
  pub same_lines : lines ≡ others
  pub same_last : last ≡ final

pub one_text : {v w : Version} {lines others : List Line} {last final : Option Kind} (t u : List ℕ) → AreLines v lines last t → AreLines w others final u → t ≡ u → AreOne v w lines others last final
one_text t u empty empty e = record { same_version = refl; same_lines = refl; same_last = refl }
one_text t u empty (lined {text = b} {line = m} l after stands begun ends) e = absurd (not_nothing b m e)
one_text t u (lined {text = a} {line = m} k before stands begun ends) empty e = absurd (not_nothing a m (sym e))
one_text t u (lined {v = v} {last = last} {text = a} {words = ws} {line = l} k before stands begun ends) (lined {v = w} {last = final} {text = b} {words = vs} {line = m} j after stands' begun' ends') e =
    let whole : a ++ l ≡ b ++ m = (same_from_push (a ++ l) (b ++ m) 10 10 (append_assoc a l (10 ∷ []) ∙ e ∙ sym (append_assoc b m (10 ∷ [])))).0 in
    let parts = cut a b l m (ended before) (ended after) (line_feedless begun) (line_feedless begun') whole in
    let so_far = one_text a b before after parts.0 in
    let words : ws ≡ vs = one_line l m begun begun' parts.1 in
    let h = name_first begun in
    let g = name_first begun' in
    let kinds : k ≡ j = same_kind v w (part_of last) (part_of final) k j so_far.same_version stands stands' (first (sym h.1 ∙ words ∙ g.1)) in
    record {
      same_version = λ i. version_behind (so_far.same_version i) (kinds i) (words i);
      same_lines = λ i. so_far.same_lines i ++ record { kind = kinds i; words = words i } ∷ [];
      same_last = ap Some kinds;
    }
