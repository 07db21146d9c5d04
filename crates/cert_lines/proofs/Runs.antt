-- Reading a text of lines leads to what its lines say.
use Rattle.std.proofs.Common.{◌≡◌, ℕ, true, false, ◌==◌, List, [], ◌∷◌, ◌++◌, Some, None, refl, sym, ap, ◌∙◌, arith, append_assoc, append-nil}
use Rattle.std.specs.Prelude.{Option}
use Rattle.std.specs.Char.{is_ascii_digit}
use Rattle.std.proofs.lemmas.Bool.{false≢true}
use Rattle.std.proofs.lemmas.Bool.Decides.{nat_tests}
use Rattle.std.proofs.lemmas.Slice.Eq.{bytes_eq-Decides}
use Rattle.wx_text.specs.Cursor.{is_hex_digit}
use Rattle.cert_lines.specs.declared.kind.Version.{Version}
use Rattle.cert_lines.specs.declared.kind.Version.TheVariants.{One, Two}
use Rattle.cert_lines.specs.declared.kind.Kind.{Kind}
use Rattle.cert_lines.specs.declared.kind.Kind.TheVariants as kind
use Rattle.cert_lines.specs.declared.kind.Role.{Role}
use Rattle.cert_lines.specs.declared.kind.Role.TheVariants as role
use Rattle.cert_lines.specs.Table.{name_of, part_of, may_stand, next, may_end, separator, is_word, begins_word, lies}
use Rattle.cert_lines.specs.Grammar.{Line, IsBegun, AreLines, version_behind}
use Rattle.cert_lines.specs.Grammar.IsBegun.{named, worded}
use Rattle.cert_lines.specs.Grammar.AreLines.{empty, lined}
use Rattle.cert_lines.specs.Machine.{State, start, step, run, lettered}
use Rattle.cert_lines.specs.Machine.State.{Between, Within}
use Rattle.cert_lines.proofs.WordLemmas.{front_begins, word_begins, word_ends}

pub run-append : (x : Option State) (a b : List ℕ) → run x (a ++ b) ≡ run (run x a) b
run-append None a b = refl
run-append (Some s) [] b = refl
run-append (Some s) (c ∷ a) b = run-append (step s c) a b

-- ---- a word is read
grows : (v : Version) (lines : List Line) (kind : Kind) (words : List (List ℕ)) (r : Role) (text : List ℕ) (c : ℕ) → begins_word kind r (text ++ c ∷ []) ≡ true
    → step (Within v lines kind words r text) c ≡ Some (Within v lines kind words r (text ++ c ∷ []))
unfolding step
grows v lines kind words r text c e = rw e refl

pub word_runs : (v : Version) (lines : List Line) (kind : Kind) (words : List (List ℕ)) (r : Role) (text more : List ℕ) → begins_word kind r (text ++ more) ≡ true
    → run (Some (Within v lines kind words r text)) more ≡ Some (Within v lines kind words r (text ++ more))
word_runs v lines kind words r text [] e = ap (λ t. Some (Within v lines kind words r t)) (sym (append-nil text))
word_runs v lines kind words r text (c ∷ more) e =
    let whole : begins_word kind r ((text ++ c ∷ []) ++ more) ≡ true = ap (begins_word kind r) (append_assoc text (c ∷ []) more) ∙ e in
    ap (λ (x : Option State). run x more) (grows v lines kind words r text c (front_begins kind r (text ++ c ∷ []) more whole))
    ∙ word_runs v lines kind words r (text ++ c ∷ []) more whole
    ∙ ap (λ t. Some (Within v lines kind words r t)) (append_assoc text (c ∷ []) more)

-- ---- a word ends
no_digit : (r : Role) → is_ascii_digit (separator r) ≡ false
no_digit role.Right = refl
no_digit r = refl

no_hex : (r : Role) → is_hex_digit (separator r) ≡ false
no_hex role.Right = refl
no_hex r = refl

no_feed : (r : Role) → (separator r == 10) ≡ false
no_feed role.Right = refl
no_feed r = refl

same_byte : (r : Role) → (separator r == separator r) ≡ true
same_byte role.Right = refl
same_byte r = refl

next_word : (v : Version) (lines : List Line) (kind : Kind) (words : List (List ℕ)) (r following : Role) (word : List ℕ) → is_word kind r word ≡ true → next kind r ≡ Some following
    → step (Within v lines kind words r word) (separator following) ≡ Some (Within v lines kind (words ++ word ∷ []) following [])
unfolding step
next_word v lines kind words r following word w e =
    rw (word_ends kind r word (separator following) (no_digit following) (no_hex following) w, w, no_feed following, e, same_byte following) refl

line_ends : (v : Version) (lines : List Line) (kind : Kind) (words : List (List ℕ)) (r : Role) (word : List ℕ) → is_word kind r word ≡ true → may_end kind r ≡ true
    → step (Within v lines kind words r word) 10 ≡ Some (Between (version_behind v kind (words ++ word ∷ [])) (lines ++ record { kind = kind; words = words ++ word ∷ [] } ∷ []) (Some kind))
unfolding step
line_ends v lines kind words r word w e = rw (word_ends kind r word 10 refl refl w, w, e) refl

-- ---- a line begins
abbrev pub initial : Kind → ℕ
initial kind.Head = 119
initial kind.Node = 110
initial kind.Vector = 118
initial kind.Count = 118
initial kind.Listed = 118
initial kind.Places = 110
initial kind.Charge = 99
initial kind.Multiplier = 109
initial kind.Total = 116
initial kind.Bound = 98
initial kind.End = 101

not_first : (part : ℕ) → lies 2 3 part ≡ true → (part == 1) ≡ false
not_first part e = grind (arith, nat_tests)

letter_is : (v : Version) (part : ℕ) (kind : Kind) → may_stand v part kind ≡ true → lettered v part (initial kind) ≡ Some kind
letter_is One part kind.Node e = refl
letter_is Two part kind.Node e = absurd (false≢true e)
letter_is One part kind.Vector e = refl
letter_is Two part kind.Vector e = absurd (false≢true e)
letter_is One part kind.Count e = absurd (false≢true e)
letter_is Two part kind.Count e = rw e refl
letter_is One part kind.Listed e = absurd (false≢true e)
letter_is Two part kind.Listed e = rw (not_first part e) refl
letter_is One part kind.Places e = absurd (false≢true e)
letter_is Two part kind.Places e = refl
letter_is v part kind.Head e = refl
letter_is v part kind.Charge e = refl
letter_is v part kind.Multiplier e = refl
letter_is v part kind.Total e = refl
letter_is v part kind.Bound e = refl
letter_is v part kind.End e = refl

opens : (v : Version) (lines : List Line) (last : Option Kind) (kind : Kind) → may_stand v (part_of last) kind ≡ true
    → step (Between v lines last) (initial kind) ≡ Some (Within v lines kind [] role.Name (initial kind ∷ []))
unfolding step
opens v lines last kind e = rw (letter_is v (part_of last) kind e, e) refl

abbrev rest_of : Kind → List ℕ
rest_of kind.Head = 120 ∷ 45 ∷ 99 ∷ 101 ∷ 114 ∷ 116 ∷ []
rest_of kind.Node = 111 ∷ 100 ∷ 101 ∷ []
rest_of kind.Vector = 101 ∷ 99 ∷ []
rest_of kind.Count = 101 ∷ 99 ∷ 116 ∷ 111 ∷ 114 ∷ 115 ∷ []
rest_of kind.Listed = []
rest_of kind.Places = 111 ∷ 100 ∷ 101 ∷ []
rest_of kind.Charge = 104 ∷ 97 ∷ 114 ∷ 103 ∷ 101 ∷ []
rest_of kind.Multiplier = 117 ∷ 108 ∷ 116 ∷ 105 ∷ 112 ∷ 108 ∷ 105 ∷ 101 ∷ 114 ∷ []
rest_of kind.Total = 111 ∷ 116 ∷ 97 ∷ 108 ∷ []
rest_of kind.Bound = 111 ∷ 117 ∷ 110 ∷ 100 ∷ []
rest_of kind.End = 110 ∷ 100 ∷ []

name_is : (kind : Kind) → name_of kind ≡ initial kind ∷ rest_of kind
name_is kind.Head = refl
name_is kind = refl

is_name : (kind : Kind) → is_word kind role.Name (name_of kind) ≡ true
is_name kind = (bytes_eq-Decides (name_of kind) (name_of kind)).1 refl

name_runs : (v : Version) (lines : List Line) (last : Option Kind) (kind : Kind) → may_stand v (part_of last) kind ≡ true
    → run (Some (Between v lines last)) (name_of kind) ≡ Some (Within v lines kind [] role.Name (name_of kind))
name_runs v lines last kind e =
    let begins : begins_word kind role.Name (initial kind ∷ rest_of kind) ≡ true = ap (begins_word kind role.Name) (sym (name_is kind)) ∙ word_begins kind role.Name (name_of kind) (is_name kind) in
    ap (run (Some (Between v lines last))) (name_is kind)
    ∙ ap (λ (x : Option State). run x (rest_of kind)) (opens v lines last kind e)
    ∙ word_runs v lines kind [] role.Name (initial kind ∷ []) (rest_of kind) begins
    ∙ ap (λ t. Some (Within v lines kind [] role.Name t)) (sym (name_is kind))

-- where reading the front of a line leads: to its last word
pub record Stands (v : Version) (lines : List Line) (last : Option Kind) (kind : Kind) (words : List (List ℕ)) (r : Role) (line : List ℕ) : Type 0 where
  pub before : List (List ℕ)
  pub word : List ℕ
  pub is : before ++ word ∷ [] ≡ words
  pub whole : is_word kind r word ≡ true
  pub runs : run (Some (Between v lines last)) line ≡ Some (Within v lines kind before r word)

pub line_runs : (v : Version) (lines : List Line) (last : Option Kind) (kind : Kind) (words : List (List ℕ)) (r : Role) (line : List ℕ) → may_stand v (part_of last) kind ≡ true
    → IsBegun kind words r line → Stands v lines last kind words r line
line_runs v lines last kind words r line e named = record { before = []; word = name_of kind; is = refl; whole = is_name kind; runs = name_runs v lines last kind e }
line_runs v lines last kind words r line e (worded {words = earlier} {role = r0} {text = text} following word begun leads is) =
    let s = line_runs v lines last kind earlier r0 text e begun in
    record {
      before = earlier;
      word = word;
      is = refl;
      whole = is;
      runs = run-append (Some (Between v lines last)) text (separator following ∷ word)
          ∙ ap (λ (x : Option State). run x (separator following ∷ word)) s.runs
          ∙ ap (λ (x : Option State). run x word) (next_word v lines kind s.before r0 following s.word s.whole leads)
          ∙ word_runs v lines kind (s.before ++ s.word ∷ []) following [] word (word_begins kind following word is)
          ∙ ap (λ w. Some (Within v lines kind w following word)) s.is;
    }

pub lines_run : (v : Version) (lines : List Line) (last : Option Kind) (text : List ℕ) → AreLines v lines last text → run (Some start) text ≡ Some (Between v lines last)
lines_run v lines last text empty = refl
lines_run v lines last text (lined {v = v0} {lines = earlier} {last = last0} {text = text0} {words = words} {role = r} {line = line} kind so stand begun ends) =
    let s = line_runs v0 earlier last0 kind words r line stand begun in
    run-append (Some start) text0 (line ++ 10 ∷ [])
    ∙ ap (λ (x : Option State). run x (line ++ 10 ∷ [])) (lines_run v0 earlier last0 text0 so)
    ∙ run-append (Some (Between v0 earlier last0)) line (10 ∷ [])
    ∙ ap (λ (x : Option State). run x (10 ∷ [])) s.runs
    ∙ ap (λ (x : Option State). run x []) (line_ends v0 earlier kind s.before r s.word s.whole ends)
    ∙ ap (λ w. Some (Between (version_behind v0 kind w) (earlier ++ record { kind = kind; words = w } ∷ []) (Some kind))) s.is
