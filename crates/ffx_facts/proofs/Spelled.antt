-- What is spelled by the grammar is a file.
use Rattle.std.proofs.Common.{◌≡◌, ℕ, zero, suc, ◌+◌, ◌-◌, ◌<◌, Bool, true, false, cond, ◌&&◌, List, [], ◌∷◌, ◌++◌, length, get_or, take, Some, None, inl, inr, refl, sym, ap, subst, ◌∙◌, arith, length-append, append_assoc, append-nil, eq-eqb}
use Rattle.std.specs.Prelude.{Option, ◌⊎◌, ◌==◌, ◌||◌, codes, find, is_some, nat_eq, not}
use Rattle.std.specs.List.{list_all, starts_with}
use Rattle.std.specs.Str.{bytes_eq}
use Rattle.std.proofs.Math.Seq.{take-append_seam}
use Rattle.std.proofs.lemmas.Bool.{and_parts, eqb-true, false≢true}
use Rattle.std.proofs.lemmas.Slice.Eq.{bytes_eq-Decides}
use Rattle.ffx_facts.specs.declared.kind.Kind.{Kind}
use Rattle.ffx_facts.specs.declared.word.Word.{Word}
use Rattle.ffx_facts.specs.declared.word.Word.TheVariants as word
use Rattle.ffx_facts.specs.declared.word.TheConstants.{WORDS}
use Rattle.ffx_facts.specs.declared.state.Stage.{Stage}
use Rattle.ffx_facts.specs.declared.state.Stage.TheVariants.{First, Ahead, Declared, Rooted}
use Rattle.ffx_facts.specs.declared.state.Part.{Part}
use Rattle.ffx_facts.specs.declared.state.Part.TheVariants as part
use Rattle.ffx_facts.specs.Pieces.{is_blank, is_name_byte, name_of, spelling}
use Rattle.ffx_facts.specs.Machine.{Element, State, added, began, begins_word, behind, behind_word, comment_part, ended_tag, entered, found_word, in_word, innermost, is_whole, may_come, may_end, moved, named, past_first, run, start, step, step_in, tail, to_part, word_found}
use Rattle.ffx_facts.specs.File.{IsFile}
use Rattle.ffx_facts.proofs.Live.{Then, either}
use Rattle.ffx_facts.specs.Grammar.{Piece, IsAttribute, IsSpelled, IsValue, Leads, MayStand, NoPair, behind_piece, done, spaces, spell, spell_all}
use Rattle.ffx_facts.specs.Grammar.Piece.{Mark, Blank, Comment, Declaration, Open, Attribute, Enter, Empty, End}
use Rattle.ffx_facts.proofs.Endings.{any_word, begins_so, each_word, in_part, none_found, number_of, run-append}

-- a state without where it is and what was read of the piece
abbrev pub keep : State → State
keep s = record s { place = 0; start = 0; text = [] }

-- a state without that and without the last attribute's name
abbrev pub core : State → State
core s = record s { place = 0; name = []; start = 0; text = [] }

-- the bytes lead from a state to one like another
pub record Goes (x : Option State) (a : List ℕ) (like : State) : Type 0 where
  pub reached : State
  pub runs : run x a ≡ Some reached
  pub same : core reached ≡ core like

goes_by : (x y : Option State) (a : List ℕ) (like : State) → x ≡ y → Goes y a like → Goes x a like
goes_by x y a like e g = record { reached = g.reached; runs = ap (λ (z : Option State). run z a) e ∙ g.runs; same = g.same }

goes_step : (s : State) (c : ℕ) (x : Option State) (a : List ℕ) (like : State) → step s c ≡ x → Goes x a like → Goes (Some s) (c ∷ a) like
goes_step s c x a like e g = record { reached = g.reached; runs = ap (λ (z : Option State). run z a) e ∙ g.runs; same = g.same }

-- ---- words

-- a word that begins another is that word
begins_itself : list_all (λ w. list_all (λ v. not (starts_with nat_eq (spelling w) (spelling v)) || (number_of v == number_of w)) WORDS) WORDS ≡ true
unfolding number_of
begins_itself = refl

all_at : (p : Word → Bool) (ws : List Word) (i : ℕ) (d : Word) → list_all p ws ≡ true → i < length ws → p (get_or ws i d) ≡ true
all_at p [] i d h k = absurd (omega arith)
all_at p (w ∷ ws) zero d h k = (and_parts _ _ h).0
all_at p (w ∷ ws) (suc i) d h k = all_at p ws i d (and_parts _ _ h).1 (omega arith)

all_words : (p : Word → Bool) → list_all p WORDS ≡ true → (w : Word) → p w ≡ true
all_words p h w = let a = each_word w in ap p (sym a.is) ∙ all_at p WORDS (number_of w) word.Mark h a.within

same_number : (v w : Word) → number_of v ≡ number_of w → v ≡ w
same_number v w e = sym (each_word v).is ∙ ap (λ (n : ℕ). get_or WORDS n word.Mark) e ∙ (each_word w).is

prefix_free : (v w : Word) → starts_with nat_eq (spelling w) (spelling v) ≡ true → v ≡ w
prefix_free v w h =
    let one = all_words (λ (x : Word). list_all (λ (y : Word). not (starts_with nat_eq (spelling x) (spelling y)) || (number_of y == number_of x)) WORDS) begins_itself w in
    let two = all_words (λ (y : Word). not (starts_with nat_eq (spelling w) (spelling y)) || (number_of y == number_of w)) one v in
    same_number v w (eqb-true _ _ (of _ (number_of v == number_of w) h two))
  where
    of : (a b : Bool) → a ≡ true → (not a || b) ≡ true → b ≡ true
    of true b e k = k
    of false b e k = absurd (false≢true e)

pub find_passes : (p : Word → Bool) (ws : List Word) (v : Word) → find p ws ≡ Some v → p v ≡ true
find_passes p [] v h = cc
find_passes p (w ∷ ws) v h = by (p w) refl h (find_passes p ws v)
  where
    by : (b : Bool) → p w ≡ b → cond b (Some w) (find p ws) ≡ Some v → (find p ws ≡ Some v → p v ≡ true) → p v ≡ true
    by true e k later = let same : w ≡ v = cc in ap p (sym same) ∙ e
    by false e k later = later k

-- the word that is found begins a word only if it is that word
found_is : (s : State) (v w : Word) (text rest : List ℕ) → found_word s text ≡ Some v → spelling w ≡ text ++ rest → (v ≡ w) × (spelling v ≡ text)
found_is s v w text rest found e =
    let p : Word → Bool = λ x. may_come s.stage (innermost s.nesting) x && bytes_eq (spelling x) text in
    let test = and_parts _ _ (find_passes p WORDS v found) in
    let is : spelling v ≡ text = (bytes_eq-Decides (spelling v) text).0 test.1 in
    let front : spelling v ≡ take (length (spelling v)) (spelling w) =
    is ∙ sym (take-append_seam text rest) ∙ ap (take (length text)) (sym e) ∙ ap (λ (t : List ℕ). take (length t) (spelling w)) (sym is) in
    (prefix_free v w ((bytes_eq-Decides (spelling v) (take (length (spelling v)) (spelling w))).1 front), is)

-- a word that may come is found at its last byte
found_at_end : (s : State) (w : Word) (text : List ℕ) → may_come s.stage (innermost s.nesting) w ≡ true → spelling w ≡ text → found_word s text ≡ Some w
found_at_end s w text comes e = by (found_word s text) refl
  where
    p : Word → Bool
    p = λ x. may_come s.stage (innermost s.nesting) x && bytes_eq (spelling x) text

    by : (f : Option Word) → found_word s text ≡ f → found_word s text ≡ Some w
    by None k = absurd (false≢true (sym (none_found p WORDS k) ∙ any_word p w (rw comes ((bytes_eq-Decides (spelling w) text).1 e))))
    by (Some v) k = k ∙ ap (λ (x : Word). Some x) (found_is s v w text [] k (e ∙ sym (append-nil text))).0

-- and none is found before
found_before_end : (s : State) (w : Word) (text : List ℕ) (c : ℕ) (rest : List ℕ) → spelling w ≡ text ++ c ∷ rest → found_word s text ≡ None
found_before_end s w text c rest e = by (found_word s text) refl
  where
    by : (f : Option Word) → found_word s text ≡ f → found_word s text ≡ None
    by None k = k
    by (Some v) k =
        let w' = found_is s v w text (c ∷ rest) k e in
        let long : length text ≡ length (text ++ c ∷ rest) = ap length (sym w'.1 ∙ ap spelling w'.0 ∙ e) in
        absurd (omega (arith, long, length-append text (c ∷ rest)))

-- the bytes of a word that are left
word_rest : (rest : List ℕ) (w : Word) (m : State) (a : List ℕ) (like : State) → m.part ≡ part.Word → may_come m.stage (innermost m.nesting) w ≡ true → spelling w ≡ m.text ++ rest
    → ((u : State) → keep u ≡ keep m → u.start ≡ m.start → Goes (Some (behind_word u w)) a like) → Goes (in_word m) (rest ++ a) like
unfolding in_word step
word_rest [] w m a like at comes e later =
    let found = found_at_end m w m.text comes (e ∙ append-nil m.text) in
    goes_by (in_word m) (Some (behind_word m w)) a like (rw found refl) (later m refl refl)
word_rest (c ∷ rest) w m a like at comes e later =
    let none = found_before_end m w m.text c rest e in
    let begins = begins_so m w m.text (c ∷ rest) comes e in
    let more = word_rest rest w (moved m c) a like at comes (e ∙ sym (append_assoc m.text (c ∷ []) rest)) later in
    goes_by (in_word m) (Some m) ((c ∷ rest) ++ a) like (rw (none, begins) refl) (goes_step m c (in_word (moved m c)) (rest ++ a) like (rw at refl) more)

-- the first byte of a word is no white space
record FirstByte (w : Word) : Type 0 where
  first : ℕ
  rest : List ℕ
  is : spelling w ≡ first ∷ rest
  seen : is_blank first ≡ false

first_byte : (w : Word) → FirstByte w
first_byte word.Mark = record { first = 0xef; rest = 0xbb ∷ 0xbf ∷ []; is = refl; seen = refl }
first_byte word.Comment = record { first = 0x3c; rest = codes "!--"; is = refl; seen = refl }
first_byte word.Declaration = record { first = 0x3c; rest = codes "?xml"; is = refl; seen = refl }
first_byte (word.Start kind) = record { first = 0x3c; rest = name_of kind; is = refl; seen = refl }
first_byte (word.End kind) = record { first = 0x3c; rest = 0x2f ∷ name_of kind; is = refl; seen = refl }

-- the bytes of a word, between two pieces
word_goes : (w : Word) (s : State) (a : List ℕ) (like : State) → may_come s.stage (innermost s.nesting) w ≡ true
    → ((u : State) → keep u ≡ keep (in_part part.Word s) → u.start ≡ s.place → Goes (Some (behind_word u w)) a like) → Goes (Some (in_part part.Between s)) (spelling w ++ a) like
unfolding step
word_goes w s a like comes later =
    let f = first_byte w in
    let m : State = began (moved s f.first) f.first part.Word in
    let more = word_rest f.rest w m a like refl comes f.is (λ u k e. later u k (e ∙ (let n : s.place + 1 - 1 ≡ s.place = omega arith in n))) in
    subst (λ (b : List ℕ). Goes (Some (in_part part.Between s)) (b ++ a) like) (sym f.is)
    (goes_step (in_part part.Between s) f.first (in_word m) (f.rest ++ a) like (rw f.seen refl) more)

-- ---- spaces

spaces_go : (q : Part) → ((u : State) → step (in_part q u) 0x20 ≡ Some (in_part q (moved u 0x20))) → (n : ℕ) (s : State) (a : List ℕ) (like : State)
    → ((u : State) → keep u ≡ keep s → Goes (Some (in_part q u)) a like) → Goes (Some (in_part q s)) (spaces n ++ a) like
spaces_go q h zero s a like later = later s refl
spaces_go q h (suc n) s a like later = goes_step (in_part q s) 0x20 _ (spaces n ++ a) like (h s) (spaces_go q h n (moved s 0x20) a like later)

gap_stays : (u : State) → step (in_part part.Gap u) 0x20 ≡ Some (in_part part.Gap (moved u 0x20))
unfolding step
gap_stays u = refl

named_stays : (u : State) → step (in_part part.Named u) 0x20 ≡ Some (in_part part.Named (moved u 0x20))
unfolding step
named_stays u = refl

equals_stays : (u : State) → step (in_part part.Equals u) 0x20 ≡ Some (in_part part.Equals (moved u 0x20))
unfolding step
equals_stays u = refl

closing_stays : (u : State) → step (in_part part.Closing u) 0x20 ≡ Some (in_part part.Closing (moved u 0x20))
unfolding step
closing_stays u = refl

-- spaces within a start tag, and what comes behind them
behind_spaces : (n : ℕ) (s : State) (a : List ℕ) (like : State) → Goes (Some (in_part part.Behind s)) a like → ((u : State) → keep u ≡ keep s → Goes (Some (in_part part.Gap u)) a like)
    → Goes (Some (in_part part.Behind s)) (spaces n ++ a) like
unfolding step
behind_spaces zero s a like now later = now
behind_spaces (suc n) s a like now later =
    goes_step (in_part part.Behind s) 0x20 (Some (in_part part.Gap (moved s 0x20))) (spaces n ++ a) like refl (spaces_go part.Gap gap_stays n (moved s 0x20) a like later)

at_end : (s like : State) → core s ≡ core like → Goes (Some s) [] like
at_end s like e = record { reached = s; runs = refl; same = e }

enter_goes : (n : ℕ) (s : State) → Goes (Some (in_part part.Behind s)) (spaces n ++ codes ">") (entered (in_part part.Behind s))
unfolding step
enter_goes n s =
    behind_spaces n s (codes ">") (entered (in_part part.Behind s))
    (goes_step (in_part part.Behind s) 0x3e (Some (entered (moved (in_part part.Behind s) 0x3e))) [] _ refl (at_end _ _ refl))
    (λ u k. goes_step (in_part part.Gap u) 0x3e (Some (entered (moved (in_part part.Gap u) 0x3e))) [] _ refl (at_end _ _ (ap (λ (x : State). core (entered x)) k)))

slash_goes : (u : State) (like : State) → core (ended_tag u) ≡ core like → Goes (Some (in_part part.Slash u)) (codes ">") like
unfolding step
slash_goes u like e = goes_step (in_part part.Slash u) 0x3e (Some (ended_tag (moved (in_part part.Slash u) 0x3e))) [] like refl (at_end _ like e)

empty_goes : (n : ℕ) (s : State) → Goes (Some (in_part part.Behind s)) (spaces n ++ codes "/>") (ended_tag (in_part part.Behind s))
unfolding step
empty_goes n s =
    behind_spaces n s (codes "/>") (ended_tag (in_part part.Behind s))
    (goes_step (in_part part.Behind s) 0x2f (Some (in_part part.Slash (moved s 0x2f))) (codes ">") _ refl (slash_goes (moved s 0x2f) _ refl))
    (λ u k. goes_step (in_part part.Gap u) 0x2f (Some (in_part part.Slash (moved u 0x2f))) (codes ">") _ refl (slash_goes (moved u 0x2f) _ (ap (λ (x : State). core (ended_tag x)) k)))

closing_goes : (n : ℕ) (s : State) (like : State) → core (record s { nesting = tail s.nesting; part = part.Between }) ≡ core like → Goes (Some (in_part part.Closing s)) (spaces n ++ codes ">") like
unfolding step
closing_goes n s like e =
    spaces_go part.Closing closing_stays n s (codes ">") like
    (λ u k. goes_step (in_part part.Closing u) 0x3e (Some (record (moved u 0x3e) { nesting = tail u.nesting; part = part.Between })) [] like refl
    (at_end _ like (ap (λ (x : State). core (record x { nesting = tail x.nesting; part = part.Between })) k ∙ e)))

-- ---- comments and the declaration

abbrev pub with_last : Bool → ℕ → List ℕ → List ℕ
with_last true c bytes = c ∷ bytes
with_last false c bytes = bytes

abbrev pub dash_count : Bool → ℕ
dash_count true = 1
dash_count false = 0

no_pair_behind : (a b c : ℕ) (bytes : List ℕ) → NoPair a b (c ∷ bytes) → NoPair a b bytes
no_pair_behind a b c [] h = tt
no_pair_behind a b c (d ∷ bytes) h = h.1

comment_goes : (body : List ℕ) (dash : Bool) (u like : State) → NoPair 0x2d 0x2d (with_last dash 0x2d body) → core (in_part part.Between u) ≡ core like
    → Goes (Some (in_part (part.Comment (dash_count dash)) u)) (body ++ codes "-->") like
unfolding step
comment_goes [] true u like h e = record { reached = _; runs = refl; same = e }
comment_goes [] false u like h e = record { reached = _; runs = refl; same = e }
comment_goes (c ∷ body) dash u like h e = by dash (c == 0x2d) refl h (λ d v k. comment_goes body d v like k)
  where
    by : (dash b : Bool) → (c == 0x2d) ≡ b → NoPair 0x2d 0x2d (with_last dash 0x2d (c ∷ body))
        → ((d : Bool) (v : State) → NoPair 0x2d 0x2d (with_last d 0x2d body) → core (in_part part.Between v) ≡ core like → Goes (Some (in_part (part.Comment (dash_count d)) v)) (body ++ codes "-->") like)
        → Goes (Some (in_part (part.Comment (dash_count dash)) u)) (c ∷ (body ++ codes "-->")) like
    by true true k h later = absurd (h.0 refl (eqb-true c 0x2d k))
    by true false k h later =
        goes_step (in_part (part.Comment 1) u) c (Some (in_part (part.Comment 0) (moved u c))) _ like (rw k refl) (later false (moved u c) (no_pair_behind 0x2d 0x2d c body h.1) e)
    by false true k h later =
        goes_step (in_part (part.Comment 0) u) c (Some (in_part (part.Comment 1) (moved u c))) _ like (rw k refl)
        (later true (moved u c) (subst (λ (x : ℕ). NoPair 0x2d 0x2d (x ∷ body)) (eqb-true c 0x2d k) h) e)
    by false false k h later =
        goes_step (in_part (part.Comment 0) u) c (Some (in_part (part.Comment 0) (moved u c))) _ like (rw k refl) (later false (moved u c) (no_pair_behind 0x2d 0x2d c body h) e)

declaration_goes : (body : List ℕ) (question : Bool) (u like : State) → NoPair 0x3f 0x3e (with_last question 0x3f body) → core (record u { stage = Declared; part = part.Between }) ≡ core like
    → Goes (Some (in_part (part.Declaration question) u)) (body ++ codes "?>") like
unfolding step
declaration_goes [] true u like h e = record { reached = _; runs = refl; same = e }
declaration_goes [] false u like h e = record { reached = _; runs = refl; same = e }
declaration_goes (c ∷ body) question u like h e = by question (c == 0x3e) (c == 0x3f) refl refl h (λ d v k. declaration_goes body d v like k)
  where
    by : (question ends b : Bool) → (c == 0x3e) ≡ ends → (c == 0x3f) ≡ b → NoPair 0x3f 0x3e (with_last question 0x3f (c ∷ body))
        → ((d : Bool) (v : State) → NoPair 0x3f 0x3e (with_last d 0x3f body) → core (record v { stage = Declared; part = part.Between }) ≡ core like → Goes (Some (in_part (part.Declaration d) v)) (body ++ codes "?>") like)
        → Goes (Some (in_part (part.Declaration question) u)) (c ∷ (body ++ codes "?>")) like
    by true true b k l h later = absurd (h.0 refl (eqb-true c 0x3e k))
    by true false true k l h later =
        goes_step (in_part (part.Declaration true) u) c (Some (in_part (part.Declaration true) (moved u c))) _ like (rw (k, l) refl)
        (later true (moved u c) (subst (λ (x : ℕ). NoPair 0x3f 0x3e (x ∷ body)) (eqb-true c 0x3f l) h.1) e)
    by true false false k l h later =
        goes_step (in_part (part.Declaration true) u) c (Some (in_part (part.Declaration false) (moved u c))) _ like (rw (k, l) refl) (later false (moved u c) (no_pair_behind 0x3f 0x3e c body h.1) e)
    by false ends true k l h later =
        goes_step (in_part (part.Declaration false) u) c (Some (in_part (part.Declaration true) (moved u c))) _ like (rw l refl)
        (later true (moved u c) (subst (λ (x : ℕ). NoPair 0x3f 0x3e (x ∷ body)) (eqb-true c 0x3f l) h) e)
    by false ends false k l h later =
        goes_step (in_part (part.Declaration false) u) c (Some (in_part (part.Declaration false) (moved u c))) _ like (rw l refl) (later false (moved u c) (no_pair_behind 0x3f 0x3e c body h) e)

-- ---- attributes

untrue : (b : Bool) → not b ≡ true → b ≡ false
untrue true h = absurd (false≢true h)
untrue false h = refl

name_goes : (name : List ℕ) (u : State) (a : List ℕ) (like : State) → list_all is_name_byte name ≡ true
    → ((v : State) → keep v ≡ keep u → v.text ≡ u.text ++ name → Goes (Some (in_part part.Name v)) a like) → Goes (Some (in_part part.Name u)) (name ++ a) like
unfolding step
name_goes [] u a like h later = later u refl (sym (append-nil u.text))
name_goes (c ∷ name) u a like h later =
    let parts = and_parts (is_name_byte c) (list_all is_name_byte name) h in
    goes_step (in_part part.Name u) c (Some (in_part part.Name (moved u c))) (name ++ a) like (rw parts.0 refl)
    (name_goes name (moved u c) a like parts.1 (λ v k e. later v k (e ∙ append_assoc u.text (c ∷ []) name)))

value_goes : (quote : ℕ) (value : List ℕ) (u : State) (a : List ℕ) (like : State) → IsValue quote value
    → ((v : State) → keep v ≡ keep u → v.text ≡ u.text ++ value → Goes (Some (in_part (part.Value quote) v)) a like) → Goes (Some (in_part (part.Value quote) u)) (value ++ a) like
unfolding step
value_goes quote [] u a like h later = later u refl (sym (append-nil u.text))
value_goes quote (c ∷ value) u a like h later =
    let parts = and_parts (not (c == quote) && not (c == 0x3c)) (list_all (λ x. not (x == quote) && not (x == 0x3c)) value) h in
    let ends = and_parts (not (c == quote)) (not (c == 0x3c)) parts.0 in
    goes_step (in_part (part.Value quote) u) c (Some (in_part (part.Value quote) (moved u c))) (value ++ a) like (rw (untrue (c == quote) ends.0, untrue (c == 0x3c) ends.1) refl)
    (value_goes quote value (moved u c) a like parts.1 (λ v k e. later v k (e ∙ append_assoc u.text (c ∷ []) value)))

-- the quote that ends a value
quote_goes : (quote : ℕ) (u : State) (value : List ℕ) (like : State) → u.text ≡ value → core (record u { attributes = added u.attributes u.name value; part = part.Behind }) ≡ core like
    → Goes (Some (in_part (part.Value quote) u)) (quote ∷ []) like
unfolding step
quote_goes quote u value like e same =
    goes_step (in_part (part.Value quote) u) quote (Some (record (moved u quote) { attributes = added u.attributes u.name u.text; part = part.Behind })) [] like (rw (eq-eqb quote quote refl) refl)
    (at_end _ like (ap (λ (t : List ℕ). core (record u { attributes = added u.attributes u.name t; part = part.Behind })) e ∙ same))

-- a value in its quotes
quoted_goes : (quote : ℕ) (value : List ℕ) (u : State) (like : State) → (quote ≡ 0x22) ⊎ (quote ≡ 0x27) → IsValue quote value → core (record u { attributes = added u.attributes u.name value; part = part.Behind }) ≡ core like
    → Goes (Some (in_part part.Equals u)) (quote ∷ (value ++ quote ∷ [])) like
unfolding step
quoted_goes quote value u like is within same = by is
  where
    from : Goes (Some (record (moved u quote) { part = part.Value quote; start = u.place + 1; text = [] })) (value ++ quote ∷ []) like
    from = value_goes quote value (record (moved u quote) { start = u.place + 1; text = [] }) (quote ∷ []) like within
        (λ v k e. quote_goes quote v value like e (ap (λ (x : State). core (record x { attributes = added x.attributes x.name value; part = part.Behind })) k ∙ same))

    opens : (q : ℕ) → (q ≡ 0x22) ⊎ (q ≡ 0x27) → step (in_part part.Equals u) q ≡ Some (record (moved u q) { part = part.Value q; start = u.place + 1; text = [] })
    opens q (inl e) = subst (λ (x : ℕ). step (in_part part.Equals u) x ≡ Some (record (moved u x) { part = part.Value x; start = u.place + 1; text = [] })) (sym e) refl
    opens q (inr e) = subst (λ (x : ℕ). step (in_part part.Equals u) x ≡ Some (record (moved u x) { part = part.Value x; start = u.place + 1; text = [] })) (sym e) refl

    by : (quote ≡ 0x22) ⊎ (quote ≡ 0x27) → Goes (Some (in_part part.Equals u)) (quote ∷ (value ++ quote ∷ [])) like
    by i = goes_step (in_part part.Equals u) quote _ (value ++ quote ∷ []) like (opens quote i) from

-- from the end of a name on
named_goes : (before after quote : ℕ) (name value : List ℕ) (u : State) (like : State) → u.text ≡ name → u.attributes name ≡ None → (quote ≡ 0x22) ⊎ (quote ≡ 0x27) → IsValue quote value
    → core (record u { attributes = added u.attributes name value; part = part.Behind }) ≡ core like
    → Goes (Some (in_part part.Name u)) (spaces before ++ (codes "=" ++ (spaces after ++ (quote ∷ (value ++ quote ∷ []))))) like
unfolding step
named_goes before after quote name value u like e new is within same = by before
  where
    free : u.attributes u.text ≡ None
    free = ap u.attributes e ∙ new

    -- from the equals sign on
    from : (v : State) → keep v ≡ keep (record u { name = u.text }) → Goes (Some (in_part part.Equals v)) (spaces after ++ (quote ∷ (value ++ quote ∷ []))) like
    from v k = spaces_go part.Equals equals_stays after v (quote ∷ (value ++ quote ∷ [])) like
        (λ w l. quoted_goes quote value w like is within
        (ap (λ (x : State). core (record x { attributes = added x.attributes x.name value; part = part.Behind })) (l ∙ k)
        ∙ ap (λ (t : List ℕ). core (record u { attributes = added u.attributes t value; part = part.Behind })) e ∙ same))

    by : (n : ℕ) → Goes (Some (in_part part.Name u)) (spaces n ++ (codes "=" ++ (spaces after ++ (quote ∷ (value ++ quote ∷ []))))) like
    by zero = goes_step (in_part part.Name u) 0x3d (Some (record (moved u 0x3d) { name = u.text; part = part.Equals })) _ like (rw free refl) (from (record (moved u 0x3d) { name = u.text }) refl)
    by (suc n) =
        goes_step (in_part part.Name u) 0x20 (Some (record (moved u 0x20) { name = u.text; part = part.Named })) _ like (rw free refl)
        (spaces_go part.Named named_stays n (record (moved u 0x20) { name = u.text }) (codes "=" ++ (spaces after ++ (quote ∷ (value ++ quote ∷ [])))) like
        (λ v k. goes_step (in_part part.Named v) 0x3d (Some (in_part part.Equals (moved v 0x3d))) _ like refl (from (moved v 0x3d) k)))

-- a whole attribute
attribute_goes : (gap before after quote : ℕ) (name value : List ℕ) (s : State) → IsAttribute s.attributes name quote value
    → Goes (Some (in_part part.Behind s)) (spell (Attribute gap name before after quote value)) (record (in_part part.Behind s) { attributes = added s.attributes name value })
unfolding step
attribute_goes gap before after quote [] value s h = absurd h.named
attribute_goes gap before after quote (c ∷ name) value s h =
    goes_step (in_part part.Behind s) 0x20 (Some (in_part part.Gap (moved s 0x20))) _ _ refl
    (spaces_go part.Gap gap_stays gap (moved s 0x20) _ _
    (λ u k.
    let parts = and_parts (is_name_byte c) (list_all is_name_byte name) h.named in
    let m : State = record (moved u c) { start = u.place + 1 - 1; text = c ∷ [] } in
    let new : u.attributes (c ∷ name) ≡ None = ap (λ (x : State). x.attributes (c ∷ name)) k ∙ h.new in
    goes_step (in_part part.Gap u) c (Some (in_part part.Name m)) _ _ (rw parts.0 refl)
    (name_goes name m _ _ parts.1
    (λ v l e. named_goes before after quote (c ∷ name) value v _ e (ap (λ (x : State). x.attributes (c ∷ name)) l ∙ new) h.quoted h.within
    (ap (λ (x : State). core (record x { attributes = added x.attributes (c ∷ name) value; part = part.Behind })) (l ∙ k))))))

-- ---- pieces

pub end_stage : (stage : Stage) (inner : Option Kind) (kind : Kind) → may_end stage inner kind ≡ true → past_first stage ≡ stage
end_stage First inner kind h = cc
end_stage Ahead inner kind h = refl
end_stage Declared inner kind h = refl
end_stage Rooted inner kind h = refl

piece_in : (q : Part) (p : Piece) (s : State) → MayStand q s.stage s.nesting s.attributes p → Goes (Some (in_part q s)) (spell p) (done (in_part q s) p)
unfolding step
piece_in part.Between Mark s h =
    word_goes word.Mark s [] _ h (λ u k e. at_end _ _ (ap (λ (x : State). core (record x { stage = past_first x.stage; part = part.Between })) k))
piece_in part.Between (Blank c) s h = goes_step (in_part part.Between s) c (Some (record (moved (in_part part.Between s) c) { stage = past_first s.stage })) [] _ (rw h refl) (at_end _ _ refl)
piece_in part.Between (Comment body) s h =
    word_goes word.Comment s (body ++ codes "-->") _ refl
    (λ u k e. comment_goes body false (record u { stage = past_first u.stage }) _ h (ap (λ (x : State). core (record x { stage = past_first x.stage; part = part.Between })) k))
piece_in part.Between (Declaration body) s h =
    word_goes word.Declaration s (body ++ codes "?>") _ h.0
    (λ u k e. declaration_goes body false (record u { stage = past_first u.stage }) _ h.1 (ap (λ (x : State). core (record x { stage = Declared; part = part.Between })) k))
piece_in part.Between (Open kind) s h =
    let like = done (in_part part.Between s) (Open kind) in
    subst (λ (b : List ℕ). Goes (Some (in_part part.Between s)) b like) (append-nil (spelling (word.Start kind)))
    (word_goes (word.Start kind) s [] like h
    (λ u k e. at_end _ like
    (ap (λ (x : State). core (record x { stage = past_first x.stage; kind = kind; at = u.start; attributes = λ _. None; part = part.Behind })) k
    ∙ ap (λ (n : ℕ). core (record s { stage = past_first s.stage; kind = kind; at = n; attributes = λ _. None; part = part.Behind })) e)))
piece_in part.Between (End kind gap) s h =
    word_goes (word.End kind) s (spaces gap ++ codes ">") _ h
    (λ u k e. closing_goes gap (record u { stage = past_first u.stage }) _
    (ap (λ (x : State). core (record x { stage = past_first x.stage; nesting = tail x.nesting; part = part.Between })) k
    ∙ ap (λ (g : Stage). core (record s { stage = g; nesting = tail s.nesting; part = part.Between })) (end_stage s.stage (innermost s.nesting) kind h)))
piece_in part.Behind (Attribute gap name before after quote value) s h = attribute_goes gap before after quote name value s h
piece_in part.Behind (Enter gap) s h = enter_goes gap s
piece_in part.Behind (Empty gap) s h = empty_goes gap s
piece_in _ _ s h = absurd h

-- ---- the place

abbrev AtPlace : ℕ → State → Type 0
AtPlace n s = s.place ≡ n

place_in_word : (s : State) → Then (AtPlace s.place) (in_word s)
unfolding in_word
place_in_word s = by (found_word s s.text) (begins_word s s.text)
  where
    of : (w : Word) → (behind_word s w).place ≡ s.place
    of word.Mark = refl
    of word.Comment = refl
    of word.Declaration = refl
    of (word.Start kind) = refl
    of (word.End kind) = refl

    by : (f : Option Word) (b : Bool) → Then (AtPlace s.place) (word_found s f b)
    by (Some w) b = of w
    by None true = refl
    by None false = tt

place_to_part : (s : State) (p : Option Part) → Then (AtPlace s.place) (to_part s p)
place_to_part s None = tt
place_to_part s (Some p) = refl

place_declaration : (b : Bool) (s : State) (c : ℕ) → (cond b (record s { stage = Declared; part = part.Between }) (record s { part = part.Declaration (c == 0x3f) })).place ≡ s.place
place_declaration true s c = refl
place_declaration false s c = refl

place_behind : (s : State) (c : ℕ) → Then (AtPlace s.place) (behind s c)
place_behind s c = either (AtPlace s.place) (c == 0x20) _ _ refl (either (AtPlace s.place) (c == 0x2f) _ _ refl (either (AtPlace s.place) (c == 0x3e) _ _ refl tt))

place_named : (s : State) (c : ℕ) → Then (AtPlace s.place) (named s c)
place_named s c = either (AtPlace s.place) (c == 0x20) _ _ refl (either (AtPlace s.place) (c == 0x3d) _ _ refl tt)

place_step_in : (p : Part) (before : List ℕ) (s : State) (c : ℕ) → Then (AtPlace s.place) (step_in p before s c)
place_step_in part.Between before s c = either (AtPlace s.place) (is_blank c) _ _ refl (place_in_word (began s c part.Word))
place_step_in part.Word before s c = place_in_word s
place_step_in (part.Comment dashes) before s c = place_to_part s (comment_part dashes c)
place_step_in (part.Declaration question) before s c = place_declaration (question && (c == 0x3e)) s c
place_step_in part.Behind before s c = place_behind s c
place_step_in part.Gap before s c = either (AtPlace s.place) (is_name_byte c) _ _ refl (place_behind s c)
place_step_in part.Slash before s c = either (AtPlace s.place) (c == 0x3e) _ _ refl tt
place_step_in part.Name before s c = either (AtPlace s.place) (is_name_byte c) _ _ refl (either (AtPlace s.place) (is_some (s.attributes before)) _ _ tt (place_named (record s { name = before }) c))
place_step_in part.Named before s c = place_named s c
place_step_in part.Equals before s c = either (AtPlace s.place) (c == 0x20) _ _ refl (either (AtPlace s.place) ((c == 0x22) || (c == 0x27)) _ _ refl tt)
place_step_in (part.Value quote) before s c = either (AtPlace s.place) (c == quote) _ _ refl (either (AtPlace s.place) (c == 0x3c) _ _ tt refl)
place_step_in part.Closing before s c = either (AtPlace s.place) (c == 0x3e) _ _ refl (either (AtPlace s.place) (c == 0x20) _ _ refl tt)

place_run : (a : List ℕ) (x : Option State) (n : ℕ) → Then (AtPlace n) x → Then (AtPlace (n + length a)) (run x a)
unfolding step
place_run a None n h = tt
place_run [] (Some s) n h = let e : n ≡ n + 0 = omega arith in h ∙ e
place_run (c ∷ a) (Some s) n h =
    let e : s.place + 1 ≡ n + 1 = ap (λ (k : ℕ). k + 1) h in
    let k : n + 1 + length a ≡ n + length (c ∷ a) = omega arith in
    subst (λ (m : ℕ). Then (AtPlace m) (run (step s c) a)) k
    (place_run a (step s c) (n + 1) (subst (λ (m : ℕ). Then (AtPlace m) (step s c)) e (place_step_in s.part s.text (moved s c) c)))

-- each byte moves the place by one
pub place_behind_run : (a : List ℕ) (s t : State) → run (Some s) a ≡ Some t → t.place ≡ s.place + length a
place_behind_run a s t e = subst (Then (AtPlace (s.place + length a))) e (place_run a (Some s) s.place refl)

-- ---- whole files

-- what a piece does depends on no junk
pub done_same : (p : Piece) (m s : State) → core m ≡ core s → m.place ≡ s.place → core (done m p) ≡ core (done s p)
done_same Mark m s e h = ap (λ (x : State). core (done x Mark)) e
done_same (Blank c) m s e h = ap (λ (x : State). core (done x (Blank c))) e
done_same (Comment body) m s e h = ap (λ (x : State). core (done x (Comment body))) e
done_same (Declaration body) m s e h = ap (λ (x : State). core (done x (Declaration body))) e
done_same (Open kind) m s e h =
    ap (λ (x : State). core (record x { stage = past_first x.stage; kind = kind; at = m.place; attributes = λ _. None; part = part.Behind })) e
    ∙ ap (λ (n : ℕ). core (record s { stage = past_first s.stage; kind = kind; at = n; attributes = λ _. None; part = part.Behind })) h
done_same (Attribute gap name before after quote value) m s e h = ap (λ (x : State). core (done x (Attribute gap name before after quote value))) e
done_same (Enter gap) m s e h = ap (λ (x : State). core (done x (Enter gap))) e
done_same (Empty gap) m s e h = ap (λ (x : State). core (done x (Empty gap))) e
done_same (End kind gap) m s e h = ap (λ (x : State). core (done x (End kind gap))) e

-- where pieces lead from a state, their bytes lead from one like it
record LeadsTo (m : State) (a : List ℕ) (last : State) : Type 0 where
  reached : State
  runs : run (Some m) a ≡ Some reached
  same : core reached ≡ core last

leads_run : (ps : List Piece) (m s last : State) → core m ≡ core s → m.place ≡ s.place → Leads s ps last → LeadsTo m (spell_all ps) last
leads_run [] m s last e h leads = record { reached = m; runs = refl; same = e ∙ ap core leads }
leads_run (p ∷ ps) m s last e h leads =
    let follows : MayStand m.part m.stage m.nesting m.attributes p = subst (λ (x : State). MayStand x.part x.stage x.nesting x.attributes p) (sym e) leads.0 in
    let g = piece_in m.part p m follows in
    let place : g.reached.place ≡ s.place + length (spell p) = place_behind_run (spell p) m g.reached g.runs ∙ ap (λ (n : ℕ). n + length (spell p)) h in
    let rest = leads_run ps g.reached (behind_piece s p) last (g.same ∙ done_same p m s e h) place leads.1 in
    record {
      reached = rest.reached;
      runs = run-append (Some m) (spell p) (spell_all ps) ∙ ap (λ (x : Option State). run x (spell_all ps)) g.runs ∙ rest.runs;
      same = rest.same;
    }

-- what the grammar spells is a file with the same elements
pub spelled_is_file : (b : List ℕ) (elements : List Element) → IsSpelled b elements → IsFile b elements
spelled_is_file b elements w =
    let r = leads_run w.pieces start start w.last refl refl w.leads in
    record {
      state = r.reached;
      read = ap (run (Some start)) w.spelled ∙ r.runs;
      whole = ap is_whole r.same ∙ w.whole;
      has = ap (λ (x : State). x.elements) r.same ∙ w.has;
    }
