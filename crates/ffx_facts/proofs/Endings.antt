-- From each state that a front of a file leads to, some bytes lead to the end of a file.
use Rattle.std.proofs.Common.{◌≡◌, ℕ, zero, suc, ◌+◌, ◌<◌, ◌≤◌, Bool, true, false, cond, ◌&&◌, List, [], ◌∷◌, ◌++◌, length, get_or, take, Some, None, refl, sym, ap, subst, ◌∙◌, arith, length-append, append_assoc, eq-eqb, lit<}
use Rattle.std.proofs.Math.Seq.{take-append_seam}
use Rattle.std.specs.Prelude.{Option, codes, find, nat_eq, nat_lt, ◌||◌}
use Rattle.std.specs.List.{list_any, starts_with}
use Rattle.std.specs.Str.{bytes_eq}
use Rattle.std.proofs.lemmas.List.Folds.{list_any_at}
use Rattle.std.proofs.lemmas.Slice.Eq.{bytes_eq-Decides}
use Rattle.std.proofs.lemmas.Bool.{false≢true}
use Rattle.ffx_facts.specs.declared.kind.Kind.{Kind}
use Rattle.ffx_facts.specs.declared.kind.Kind.TheVariants.{FlowFacts, Function, Loop, MultiBranch, MultiCall, Target}
use Rattle.ffx_facts.specs.declared.word.Word.{Word}
use Rattle.ffx_facts.specs.declared.word.Word.TheVariants as word
use Rattle.ffx_facts.specs.declared.word.TheConstants.{WORDS}
use Rattle.ffx_facts.specs.declared.state.Stage.{Stage}
use Rattle.ffx_facts.specs.declared.state.Stage.TheVariants.{First, Ahead, Declared, Rooted}
use Rattle.ffx_facts.specs.declared.state.Part.{Part}
use Rattle.ffx_facts.specs.declared.state.Part.TheVariants as part
use Rattle.ffx_facts.specs.Pieces.{spelling}
use Rattle.ffx_facts.specs.Machine.{State, Attributes, step, in_word, run, is_whole, moved, behind_word, may_come, innermost, found_word, begins_word, past_first, begun_tag, added}

-- some bytes lead to the end of a file
pub record Ends (s : State) : Type 0 where
  pub more : List ℕ
  pub last : State
  pub reached : run (Some s) more ≡ Some last
  pub whole : is_whole last ≡ true

none_runs : (a : List ℕ) → run None a ≡ None
none_runs a = refl

pub run-append : (s : Option State) (a b : List ℕ) → run s (a ++ b) ≡ run (run s a) b
run-append None a b = none_append a b
  where
    none_append : (a b : List ℕ) → run None (a ++ b) ≡ run (run None a) b
    none_append a b = none_runs (a ++ b) ∙ sym (none_runs b) ∙ sym (ap (λ (x : Option State). run x b) (none_runs a))
run-append (Some s) [] b = refl
run-append (Some s) (c ∷ a) b = run-append (step s c) a b

ends_step : (s t : State) (c : ℕ) → step s c ≡ Some t → Ends t → Ends s
ends_step s t c e w = record {
  more = c ∷ w.more;
  last = w.last;
  reached = ap (λ (x : Option State). run x w.more) e ∙ w.reached;
  whole = w.whole;
}

ends_run : (s : State) (a : List ℕ) (t : State) → run (Some s) a ≡ Some t → Ends t → Ends s
ends_run s a t e w = record {
  more = a ++ w.more;
  last = w.last;
  reached = run-append (Some s) a w.more ∙ ap (λ (x : Option State). run x w.more) e ∙ w.reached;
  whole = w.whole;
}

-- the same, where the state that is reached is one of a shape whose states all end
ends_by : (shape : State → State) (s : State) (a : List ℕ) (t : State) → run (Some s) a ≡ Some t → t ≡ shape t → ((u : State) → Ends (shape u)) → Ends s
ends_by shape s a t e same w = ends_run s a t e (subst Ends (sym same) (w t))

abbrev pub rooted : List Kind → State → State
rooted o s = record s { nesting = o; stage = Rooted; part = part.Between }

abbrev pub between_at : Stage → State → State
between_at stage s = record s { stage = stage; part = part.Between }

abbrev pub in_part : Part → State → State
in_part p s = record s { part = p }

-- each open element is ended
ends_rooted : (o : List Kind) (s : State) → Ends (rooted o s)
unfolding step in_word
ends_rooted [] s = record { more = []; last = rooted [] s; reached = refl; whole = refl }
ends_rooted (FlowFacts ∷ o) s = ends_by (rooted o) _ (codes "</flowfacts>") _ refl refl (ends_rooted o)
ends_rooted (Function ∷ o) s = ends_by (rooted o) _ (codes "</function>") _ refl refl (ends_rooted o)
ends_rooted (Loop ∷ o) s = ends_by (rooted o) _ (codes "</loop>") _ refl refl (ends_rooted o)
ends_rooted (MultiBranch ∷ o) s = ends_by (rooted o) _ (codes "</multibranch>") _ refl refl (ends_rooted o)
ends_rooted (MultiCall ∷ o) s = ends_by (rooted o) _ (codes "</multicall>") _ refl refl (ends_rooted o)
ends_rooted (Target ∷ o) s = ends_by (rooted o) _ (codes "</target>") _ refl refl (ends_rooted o)

-- an empty root, where none was
ends_between : (stage : Stage) (s : State) → Ends (between_at stage s)
unfolding step in_word
ends_between First s = ends_by (rooted s.nesting) _ (codes "<flowfacts/>") _ refl refl (ends_rooted s.nesting)
ends_between Ahead s = ends_by (rooted s.nesting) _ (codes "<flowfacts/>") _ refl refl (ends_rooted s.nesting)
ends_between Declared s = ends_by (rooted s.nesting) _ (codes "<flowfacts/>") _ refl refl (ends_rooted s.nesting)
ends_between Rooted s = ends_rooted s.nesting s

ends_slash : (s : State) → Ends (in_part part.Slash s)
unfolding step
ends_slash s = ends_by (rooted s.nesting) _ (codes ">") _ refl refl (ends_rooted s.nesting)

ends_behind : (s : State) → Ends (in_part part.Behind s)
unfolding step
ends_behind s = ends_by (rooted s.nesting) _ (codes "/>") _ refl refl (ends_rooted s.nesting)

ends_gap : (s : State) → Ends (in_part part.Gap s)
unfolding step
ends_gap s = ends_by (rooted s.nesting) _ (codes "/>") _ refl refl (ends_rooted s.nesting)

ends_equals : (s : State) → Ends (in_part part.Equals s)
unfolding step
ends_equals s = ends_by (rooted s.nesting) _ (codes "''/>") _ refl refl (ends_rooted s.nesting)

ends_named : (s : State) → Ends (in_part part.Named s)
unfolding step
ends_named s = ends_by (rooted s.nesting) _ (codes "=''/>") _ refl refl (ends_rooted s.nesting)

ends_closing : (s : State) → Ends (in_part part.Closing s)
unfolding step
ends_closing s = ends_by (between_at s.stage) _ (codes ">") _ refl refl (ends_between s.stage)

ends_declaration : (question : Bool) (s : State) → Ends (in_part (part.Declaration question) s)
unfolding step
ends_declaration false s = ends_by (between_at Declared) _ (codes "?>") _ refl refl (ends_between Declared)
ends_declaration true s = ends_by (between_at Declared) _ (codes "?>") _ refl refl (ends_between Declared)

ends_from_no_dash : (s : State) → Ends (in_part (part.Comment 0) s)
unfolding step
ends_from_no_dash s = ends_by (between_at s.stage) _ (codes "-->") _ refl refl (ends_between s.stage)

ends_comment : (dashes : ℕ) (s : State) → Ends (in_part (part.Comment dashes) s)
unfolding step
ends_comment dashes s = by (nat_lt dashes 2) refl
  where
    by : (few : Bool) → nat_lt dashes 2 ≡ few → Ends (in_part (part.Comment dashes) s)
    by true e = ends_step _ (in_part (part.Comment 0) (moved s 32)) 32 (rw e refl) (ends_from_no_dash (moved s 32))
    by false e = ends_step _ (between_at s.stage (moved s 62)) 62 (rw e refl) (ends_between s.stage (moved s 62))

ends_value : (quote : ℕ) (s : State) → Ends (in_part (part.Value quote) s)
unfolding step
ends_value quote s =
    let m : State = record (moved s quote) { attributes = added s.attributes s.name s.text } in
    ends_step _ (in_part part.Behind m) quote (rw (eq-eqb quote quote refl) refl) (ends_behind m)

-- a name that no attribute has, since it is longer than all
ends_name : (more bound : ℕ) (s : State) → ((q : List ℕ) → bound < length q → s.attributes q ≡ None) → bound < length s.text + more → Ends (in_part part.Name s)
unfolding step
ends_name zero bound s new long =
    let free : s.attributes s.text ≡ None = new s.text (omega arith) in
    let m : State = record (moved s 61) { name = s.text } in
    ends_step _ (in_part part.Equals m) 61 (rw free refl) (ends_equals m)
ends_name (suc more) bound s new long =
    let n : length (s.text ++ 97 ∷ []) ≡ length s.text + 1 = length-append s.text (97 ∷ []) in
    ends_step _ (in_part part.Name (moved s 97)) 97 refl (ends_name more bound (moved s 97) new (omega arith))

ends_behind_word : (w : Word) (s : State) → Ends (behind_word s w)
ends_behind_word word.Mark s = ends_between (past_first s.stage) s
ends_behind_word word.Comment s = ends_comment 0 (record s { stage = past_first s.stage })
ends_behind_word word.Declaration s = ends_declaration false (record s { stage = past_first s.stage })
ends_behind_word (word.Start kind) s = ends_behind (begun_tag (record s { stage = past_first s.stage }) kind)
ends_behind_word (word.End kind) s = ends_closing (record s { stage = past_first s.stage })

-- where a word stands among all
unfoldable pub number_of : Word → ℕ
number_of word.Mark = 0
number_of word.Comment = 1
number_of word.Declaration = 2
number_of (word.Start FlowFacts) = 3
number_of (word.Start Function) = 4
number_of (word.Start Loop) = 5
number_of (word.Start MultiBranch) = 6
number_of (word.Start MultiCall) = 7
number_of (word.Start Target) = 8
number_of (word.End FlowFacts) = 9
number_of (word.End Function) = 10
number_of (word.End Loop) = 11
number_of (word.End MultiBranch) = 12
number_of (word.End MultiCall) = 13
number_of (word.End Target) = 14

-- each word is among all
pub record IsAt (w : Word) : Type 0 where
  pub within : number_of w < length WORDS
  pub is : get_or WORDS (number_of w) word.Mark ≡ w

pub each_word : (w : Word) → IsAt w
unfolding number_of
each_word word.Mark = record { within = lit< tt; is = refl }
each_word word.Comment = record { within = lit< tt; is = refl }
each_word word.Declaration = record { within = lit< tt; is = refl }
each_word (word.Start FlowFacts) = record { within = lit< tt; is = refl }
each_word (word.Start Function) = record { within = lit< tt; is = refl }
each_word (word.Start Loop) = record { within = lit< tt; is = refl }
each_word (word.Start MultiBranch) = record { within = lit< tt; is = refl }
each_word (word.Start MultiCall) = record { within = lit< tt; is = refl }
each_word (word.Start Target) = record { within = lit< tt; is = refl }
each_word (word.End FlowFacts) = record { within = lit< tt; is = refl }
each_word (word.End Function) = record { within = lit< tt; is = refl }
each_word (word.End Loop) = record { within = lit< tt; is = refl }
each_word (word.End MultiBranch) = record { within = lit< tt; is = refl }
each_word (word.End MultiCall) = record { within = lit< tt; is = refl }
each_word (word.End Target) = record { within = lit< tt; is = refl }

-- a test that a word passes is passed by one of all
pub any_word : (p : Word → Bool) (w : Word) → p w ≡ true → list_any p WORDS ≡ true
any_word p w h = let a = each_word w in list_any_at p WORDS (number_of w) word.Mark a.within (ap p a.is ∙ h)

pub found_any : (p : Word → Bool) (ws : List Word) → list_any p ws ≡ true → (w : Word) × (p w ≡ true)
found_any p [] h = absurd (false≢true h)
found_any p (w ∷ ws) h = by (p w) refl h (found_any p ws)
  where
    by : (b : Bool) → p w ≡ b → (b || list_any p ws) ≡ true → (list_any p ws ≡ true → (x : Word) × (p x ≡ true)) → (x : Word) × (p x ≡ true)
    by true e k later = (w, e)
    by false e k later = later k

pub none_found : (p : Word → Bool) (ws : List Word) → find p ws ≡ None → list_any p ws ≡ false
none_found p [] h = refl
none_found p (w ∷ ws) h = by (p w) h (none_found p ws)
  where
    by : (b : Bool) → cond b (Some w) (find p ws) ≡ None → (find p ws ≡ None → list_any p ws ≡ false) → (b || list_any p ws) ≡ false
    by true k later = cc
    by false k later = later k

-- no word that may come is spelled so
not_spelled : (s : State) (w : Word) (text : List ℕ) → found_word s text ≡ None → may_come s.stage (innermost s.nesting) w ≡ true → spelling w ≡ text → ⊥
not_spelled s w text none comes e =
    let test : (may_come s.stage (innermost s.nesting) w && bytes_eq (spelling w) text) ≡ true = rw comes ((bytes_eq-Decides (spelling w) text).1 e) in
    let p : Word → Bool = λ x. may_come s.stage (innermost s.nesting) x && bytes_eq (spelling x) text in
    false≢true (sym (none_found p WORDS none) ∙ any_word p w test)

-- a word that may come begins so
pub begins_so : (s : State) (w : Word) (text rest : List ℕ) → may_come s.stage (innermost s.nesting) w ≡ true → spelling w ≡ text ++ rest → begins_word s text ≡ true
begins_so s w text rest comes e =
    let front : text ≡ take (length text) (spelling w) = sym (ap (take (length text)) e ∙ take-append_seam text rest) in
    let test : starts_with nat_eq (spelling w) text ≡ true = (bytes_eq-Decides text (take (length text) (spelling w))).1 front in
    any_word (λ x. may_come s.stage (innermost s.nesting) x && starts_with nat_eq (spelling x) text) w (rw comes test)

-- a word that may come, more of which is to be read
pub record Unfinished (s : State) : Type 0 where
  pub word : Word
  pub next : ℕ
  pub rest : List ℕ
  pub comes : may_come s.stage (innermost s.nesting) word ≡ true
  pub spelled : spelling word ≡ s.text ++ next ∷ rest

-- the last byte of a word is read, or one before it
unfinished_step : (s : State) (w : Word) (next : ℕ) (rest : List ℕ) → may_come s.stage (innermost s.nesting) w ≡ true → spelling w ≡ s.text ++ next ∷ rest
    → (found_word (moved s next) (s.text ++ next ∷ []) ≡ None → Ends (in_part part.Word (moved s next))) → Ends (in_part part.Word s)
unfolding step in_word
unfinished_step s w next rest comes e later = by (found_word m m.text) refl
  where
    m : State
    m = moved s next

    spelled : spelling w ≡ (s.text ++ next ∷ []) ++ rest
    spelled = e ∙ sym (append_assoc s.text (next ∷ []) rest)

    by : (f : Option Word) → found_word m m.text ≡ f → Ends (in_part part.Word s)
    by (Some found) k = ends_step _ (behind_word (in_part part.Word m) found) next (rw k refl) (ends_behind_word found (in_part part.Word m))
    by None k = ends_step _ (in_part part.Word m) next (rw (k, begins_so m w m.text rest comes spelled) refl) (later k)

ends_word : (rest : List ℕ) (s : State) (w : Word) (next : ℕ) → may_come s.stage (innermost s.nesting) w ≡ true → spelling w ≡ s.text ++ next ∷ rest → Ends (in_part part.Word s)
ends_word [] s w next comes e = unfinished_step s w next [] comes e (λ none. absurd (not_spelled (moved s next) w (s.text ++ next ∷ []) none comes e))
ends_word (c ∷ rest) s w next comes e =
    unfinished_step s w next (c ∷ rest) comes e (λ none. ends_word rest (moved s next) w c comes (e ∙ sym (append_assoc s.text (next ∷ []) (c ∷ rest))))

-- names and texts are no longer than what was read
pub record Sound (place : ℕ) (text name : List ℕ) (attributes : Attributes) : Type 0 where
  pub text_fits : length text ≤ place
  pub name_fits : length name ≤ place
  pub names_fit : (q : List ℕ) → place < length q → attributes q ≡ None

-- a state to which a front of a file leads
pub record Live (s : State) : Type 0 where
  pub sound : Sound s.place s.text s.name s.attributes
  pub unfinished : s.part ≡ part.Word → Unfinished s

-- from each such state some bytes lead to the end of a file
pub ends_live : (s : State) → Live s → Ends s
ends_live s live = at s.part live.unfinished
  where
    at : (p : Part) → (p ≡ part.Word → Unfinished s) → Ends (in_part p s)
    at part.Between u = ends_between s.stage s
    at part.Word u = let w = u refl in ends_word w.rest s w.word w.next w.comes w.spelled
    at (part.Comment dashes) u = ends_comment dashes s
    at (part.Declaration question) u = ends_declaration question s
    at part.Behind u = ends_behind s
    at part.Gap u = ends_gap s
    at part.Slash u = ends_slash s
    at part.Name u = ends_name (s.place + 1) s.place s live.sound.names_fit (omega arith)
    at part.Named u = ends_named s
    at part.Equals u = ends_equals s
    at (part.Value quote) u = ends_value quote s
    at part.Closing u = ends_closing s
