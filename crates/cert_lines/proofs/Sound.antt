-- Where reading some bytes leads, these bytes are what is known.
use Rattle.std.proofs.Common.{◌≡◌, ℕ, Bool, true, false, cond, ◌&&◌, ◌==◌, List, [], ◌∷◌, ◌++◌, Some, None, refl, sym, ap, subst, ◌∙◌, append_assoc, append-nil}
use Rattle.std.specs.Prelude.{Option}
use Rattle.std.proofs.lemmas.Bool.{and_parts, eqb-true}
use Rattle.cert_lines.specs.declared.kind.Version.{Version}
use Rattle.cert_lines.specs.declared.kind.Kind.{Kind}
use Rattle.cert_lines.specs.declared.kind.Kind.TheVariants as kind
use Rattle.cert_lines.specs.declared.kind.Role.{Role}
use Rattle.cert_lines.specs.declared.kind.Role.TheVariants as role
use Rattle.cert_lines.specs.Table.{name_of, part_of, may_stand, next, may_end, separator, is_word, begins_word, is_one}
use Rattle.cert_lines.specs.Grammar.{Line, IsBegun, AreLines, version_behind}
use Rattle.cert_lines.specs.Grammar.IsBegun.{named, worded}
use Rattle.cert_lines.specs.Grammar.AreLines.{empty, lined}
use Rattle.cert_lines.specs.Machine.{State, start, step, run, lettered, allowed, opened, continued, behind_word}
use Rattle.cert_lines.specs.Machine.State.{Between, Within}
use Rattle.cert_lines.proofs.WordLemmas.{same_text}

pub some_is : {A : Type 0} {a b : A} → Some a ≡ Some b → a ≡ b
some_is {A = A} {a = a} e = ap (λ (o : Option A). elim o as (λ _. A) [ None ↦ a | (Some x) ↦ x ]) e

pub none_is : {A X : Type 0} {a : A} → None ≡ Some a → X
none_is {a = a} e = absurd (cc)

-- what stands in a line before the word of the role that is read
pub data IsOpen (kind : Kind) : List (List ℕ) → Role → List ℕ → Type 0 where
  first : IsOpen kind [] role.Name []
  behind : {words : List (List ℕ)} {r : Role} {text : List ℕ} (following : Role) → IsBegun kind words r text → next kind r ≡ Some following → IsOpen kind words following (text ++ separator following ∷ [])

-- the word that is read is whole
pub worded_so : (kind : Kind) (words : List (List ℕ)) (r : Role) (text word : List ℕ) → IsOpen kind words r text → is_word kind r word ≡ true → IsBegun kind (words ++ word ∷ []) r (text ++ word)
worded_so kind words r text word first e = subst (λ w. IsBegun kind (w ∷ []) role.Name w) (sym (same_text word (name_of kind) e)) named
worded_so kind words r text word (behind {words = before} {r = r0} {text = line} following begun leads) e =
    subst (λ t. IsBegun kind (before ++ word ∷ []) following t) (sym (append_assoc line (separator following ∷ []) word)) (worded following word begun leads e)

-- the line in which the next byte stands
pub record IsWithin (v : Version) (lines : List Line) (kind : Kind) (words : List (List ℕ)) (r : Role) (word text : List ℕ) : Type 0 where
  pub last : Option Kind
  pub before : List ℕ
  pub so : AreLines v lines last before
  pub stand : may_stand v (part_of last) kind ≡ true
  pub line : List ℕ
  pub opened : IsOpen kind words r line
  pub is : text ≡ before ++ (line ++ word)
  pub begins : begins_word kind r word ≡ true

-- the text is what the state tells
abbrev pub Tells : State → List ℕ → Type 0
Tells (Between v lines last) text = AreLines v lines last text
Tells (Within v lines kind words r word) text = IsWithin v lines kind words r word text

-- each state that comes out tells the text
abbrev Told : List ℕ → Option State → Type 0
Told text o = (s : State) → o ≡ Some s → Tells s text

told_some : (text : List ℕ) (s : State) → Tells s text → Told text (Some s)
told_some text s tells = λ t e. subst (λ (x : State). Tells x text) (some_is e) tells

told_none : (text : List ℕ) → Told text None
told_none text = λ t e. none_is e

pub pick : {A : Type 0} (P : A → Type 0) (b : Bool) (x y : A) → (b ≡ true → P x) → (b ≡ false → P y) → P (cond b x y)
pick P true x y f g = f refl
pick P false x y f g = g refl

-- ---- a line begins
abbrev Lettered : ℕ → Option Kind → Type 0
Lettered c o = (kind : Kind) → o ≡ Some kind → begins_word kind role.Name (c ∷ []) ≡ true

one_kind : (c at : ℕ) (k : Kind) → (c == at) ≡ true → begins_word k role.Name (at ∷ []) ≡ true → Lettered c (Some k)
one_kind c at k e h = λ kind same. subst (λ (x : Kind). begins_word x role.Name (c ∷ []) ≡ true) (some_is same) (subst (λ x. begins_word k role.Name (x ∷ []) ≡ true) (sym (eqb-true c at e)) h)

no_kind : (c : ℕ) → Lettered c None
no_kind c = λ kind e. none_is e

pub letters : (v : Version) (part c : ℕ) → Lettered c (lettered v part c)
letters v part c =
    pick (Lettered c) (c == 119) _ _ (λ e. one_kind c 119 kind.Head e refl) λ _.
    pick (Lettered c) (c == 110) _ _ (λ e. pick (Lettered c) (is_one v) _ _ (λ _. one_kind c 110 kind.Node e refl) (λ _. one_kind c 110 kind.Places e refl)) λ _.
    pick (Lettered c) (c == 118) _ _ (λ e. pick (Lettered c) (is_one v) _ _ (λ _. one_kind c 118 kind.Vector e refl) λ _.
    pick (Lettered c) (part == 1) _ _ (λ _. one_kind c 118 kind.Count e refl) (λ _. one_kind c 118 kind.Listed e refl)) λ _.
    pick (Lettered c) (c == 99) _ _ (λ e. one_kind c 99 kind.Charge e refl) λ _.
    pick (Lettered c) (c == 109) _ _ (λ e. one_kind c 109 kind.Multiplier e refl) λ _.
    pick (Lettered c) (c == 116) _ _ (λ e. one_kind c 116 kind.Total e refl) λ _.
    pick (Lettered c) (c == 98) _ _ (λ e. one_kind c 98 kind.Bound e refl) λ _.
    pick (Lettered c) (c == 101) _ _ (λ e. one_kind c 101 kind.End e refl) (λ _. no_kind c)

told_opened : (v : Version) (lines : List Line) (last : Option Kind) (c : ℕ) (text : List ℕ) (o : Option Kind) → AreLines v lines last text → Lettered c o
    → Told (text ++ c ∷ []) (opened v lines c (allowed v (part_of last) o))
told_opened v lines last c text None so lettered = told_none (text ++ c ∷ [])
told_opened v lines last c text (Some kind) so lettered =
    pick (λ (o : Option Kind). Told (text ++ c ∷ []) (opened v lines c o)) (may_stand v (part_of last) kind) (Some kind) None
    (λ e. told_some (text ++ c ∷ []) (Within v lines kind [] role.Name (c ∷ [])) (record {
      last = last;
      before = text;
      so = so;
      stand = e;
      line = [];
      opened = first;
      is = refl;
      begins = lettered kind refl;
    }))
    (λ _. told_none (text ++ c ∷ []))

-- ---- a word ends
empty_begins : (kind : Kind) (r : Role) → begins_word kind r [] ≡ true
empty_begins kind role.Name = refl
empty_begins kind r = refl

told_continued : (v : Version) (lines : List Line) (kind : Kind) (words : List (List ℕ)) (r : Role) (word text : List ℕ) (c : ℕ) (o : Option Role) → next kind r ≡ o
    → IsWithin v lines kind words r word text → is_word kind r word ≡ true → Told (text ++ c ∷ []) (continued v lines kind (words ++ word ∷ []) c o)
told_continued v lines kind words r word text c None leads w e = told_none (text ++ c ∷ [])
told_continued v lines kind words r word text c (Some following) leads w e =
    pick (Told (text ++ c ∷ [])) (c == separator following) (Some (Within v lines kind (words ++ word ∷ []) following [])) None
    (λ same. told_some (text ++ c ∷ []) (Within v lines kind (words ++ word ∷ []) following []) (record {
      last = w.last;
      before = w.before;
      so = w.so;
      stand = w.stand;
      line = (w.line ++ word) ++ separator following ∷ [];
      opened = behind following (worded_so kind words r w.line word w.opened e) leads;
      is = ap (λ t. t ++ c ∷ []) w.is ∙ append_assoc w.before (w.line ++ word) (c ∷ []) ∙ ap (λ x. w.before ++ ((w.line ++ word) ++ x ∷ [])) (eqb-true c (separator following) same)
          ∙ ap (λ t. w.before ++ t) (sym (append-nil ((w.line ++ word) ++ separator following ∷ [])));
      begins = empty_begins kind following;
    }))
    (λ _. told_none (text ++ c ∷ []))

told_behind : (v : Version) (lines : List Line) (kind : Kind) (words : List (List ℕ)) (r : Role) (word text : List ℕ) (c : ℕ) → IsWithin v lines kind words r word text → is_word kind r word ≡ true
    → Told (text ++ c ∷ []) (behind_word v lines kind (words ++ word ∷ []) r c)
told_behind v lines kind words r word text c w e =
    let ended : State = Between (version_behind v kind (words ++ word ∷ [])) (lines ++ record { kind = kind; words = words ++ word ∷ [] } ∷ []) (Some kind) in
    pick (Told (text ++ c ∷ [])) ((c == 10) && may_end kind r) (Some ended) (continued v lines kind (words ++ word ∷ []) c (next kind r))
    (λ both.
    let parts = and_parts (c == 10) (may_end kind r) both in
    let is : w.before ++ ((w.line ++ word) ++ 10 ∷ []) ≡ text ++ c ∷ [] =
    sym (append_assoc w.before (w.line ++ word) (10 ∷ [])) ∙ ap (λ t. t ++ 10 ∷ []) (sym w.is) ∙ ap (λ x. text ++ x ∷ []) (sym (eqb-true c 10 parts.0)) in
    told_some (text ++ c ∷ []) ended
    (subst (λ t. AreLines (version_behind v kind (words ++ word ∷ [])) (lines ++ record { kind = kind; words = words ++ word ∷ [] } ∷ []) (Some kind) t) is
    (lined kind w.so w.stand (worded_so kind words r w.line word w.opened e) parts.1)))
    (λ _. told_continued v lines kind words r word text c (next kind r) refl w e)

-- ---- a byte
pub told : (s : State) (text : List ℕ) (c : ℕ) → Tells s text → Told (text ++ c ∷ []) (step s c)
unfolding step
told (Between v lines last) text c so = told_opened v lines last c text (lettered v (part_of last) c) so (letters v (part_of last) c)
told (Within v lines kind words r word) text c w =
    pick (Told (text ++ c ∷ [])) (begins_word kind r (word ++ c ∷ [])) _ _
    (λ e. told_some (text ++ c ∷ []) (Within v lines kind words r (word ++ c ∷ [])) (record {
      last = w.last;
      before = w.before;
      so = w.so;
      stand = w.stand;
      line = w.line;
      opened = w.opened;
      is = ap (λ t. t ++ c ∷ []) w.is ∙ append_assoc w.before (w.line ++ word) (c ∷ []) ∙ ap (λ t. w.before ++ t) (append_assoc w.line word (c ∷ []));
      begins = e;
    }))
    (λ _. pick (Told (text ++ c ∷ [])) (is_word kind r word) _ _ (λ e. told_behind v lines kind words r word text c w e) (λ _. told_none (text ++ c ∷ [])))

-- all bytes
told_on : (bytes text : List ℕ) (o : Option State) (t : State) → Told text o → run o bytes ≡ Some t → Tells t (text ++ bytes)
told_on bytes text None t all e = none_is e
told_on [] text (Some s) t all e = subst (λ (x : State). Tells x (text ++ [])) (some_is e) (subst (Tells s) (sym (append-nil text)) (all s refl))
told_on (c ∷ bytes) text (Some s) t all e = subst (Tells t) (append_assoc text (c ∷ []) bytes) (told_on bytes (text ++ c ∷ []) (step s c) t (told s text c (all s refl)) e)

pub told_all : (bytes : List ℕ) (s : State) → run (Some start) bytes ≡ Some s → Tells s bytes
told_all bytes s e = told_on bytes [] (Some start) s (told_some [] start empty) e
