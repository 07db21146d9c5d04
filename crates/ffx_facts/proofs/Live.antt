-- Each front of a file leads to a state from which some bytes lead to its end.
use Rattle.std.proofs.Common.{◌≡◌, ℕ, ◌+◌, ◌<◌, ◌≤◌, Bool, true, false, cond, ◌&&◌, List, [], ◌∷◌, ◌++◌, length, take, drop, Some, None, refl, sym, ap, subst, ◌∙◌, arith, append-nil, length-append}
use Rattle.std.specs.Prelude.{Option, is_some, nat_eq, nat_lt, ◌==◌, ◌||◌}
use Rattle.std.specs.List.{starts_with}
use Rattle.std.specs.Str.{bytes_eq}
use Rattle.std.proofs.lemmas.List.{take-append-drop}
use Rattle.std.proofs.lemmas.Slice.Eq.{bytes_eq-Decides}
use Rattle.std.proofs.lemmas.Bool.{and_parts, false≢true}
use Rattle.ffx_facts.specs.declared.word.Word.{Word}
use Rattle.ffx_facts.specs.declared.word.Word.TheVariants as word
use Rattle.ffx_facts.specs.declared.word.TheConstants.{WORDS}
use Rattle.ffx_facts.specs.declared.state.Part.{Part}
use Rattle.ffx_facts.specs.declared.state.Part.TheVariants as part
use Rattle.ffx_facts.specs.Pieces.{spelling, is_blank, is_name_byte}
use Rattle.ffx_facts.specs.Machine.{State, Attributes, start, step, step_in, in_word, run, moved, began, between, behind, behind_word, gap, slash, named, equals, closing, in_name, in_value, declaration, comment_part, to_part, may_come, innermost, found_word, begins_word, word_found, added}
use Rattle.ffx_facts.proofs.Endings.{Ends, Live, Sound, Unfinished, ends_live, found_any, none_found, any_word}

-- of the state behind a step, where there is one
abbrev pub Then : (State → Type 0) → Option State → Type 0
Then P None = Unit {0}
Then P (Some s) = P s

pub either : (P : State → Type 0) (b : Bool) (x y : Option State) → Then P x → Then P y → Then P (cond b x y)
either P true x y p q = p
either P false x y p q = q

-- a state in no word
elsewhere : (s : State) → Sound s.place s.text s.name s.attributes → (s.part ≡ part.Word → ⊥) → Live s
elsewhere s sound apart = record { sound = sound; unfinished = λ e. absurd (apart e) }

abbrev SoundState : State → Type 0
SoundState s = Sound s.place s.text s.name s.attributes

moved_sound : (s : State) (c : ℕ) → SoundState s → SoundState (moved s c)
moved_sound s c sound =
    let n : length (s.text ++ c ∷ []) ≡ length s.text + 1 = length-append s.text (c ∷ []) in
    let t = sound.text_fits in
    let m = sound.name_fits in
    record { text_fits = omega arith; name_fits = omega arith; names_fit = λ q h. sound.names_fit q (omega arith) }

-- what is known of a state right behind a byte
record Moved (s : State) : Type 0 where
  sound : SoundState s
  some : 0 < s.place

began_sound : (s : State) (c : ℕ) (p : Part) → Moved s → SoundState (began s c p)
began_sound s c p m =
    let k = m.some in
    record { text_fits = omega arith; name_fits = m.sound.name_fits; names_fit = m.sound.names_fit }

no_attributes : (s : State) → SoundState s → Sound s.place s.text s.name (λ _. None)
no_attributes s sound = record { text_fits = sound.text_fits; name_fits = sound.name_fits; names_fit = λ q h. refl }

live_behind_word : (w : Word) (s : State) → SoundState s → Live (behind_word s w)
live_behind_word word.Mark s sound = elsewhere _ sound (λ e. cc)
live_behind_word word.Comment s sound = elsewhere _ sound (λ e. cc)
live_behind_word word.Declaration s sound = elsewhere _ sound (λ e. cc)
live_behind_word (word.Start kind) s sound = elsewhere _ (no_attributes s sound) (λ e. cc)
live_behind_word (word.End kind) s sound = elsewhere _ sound (λ e. cc)

-- where no word was found and one begins so, one is unfinished
unfinished : (s : State) → found_word s s.text ≡ None → begins_word s s.text ≡ true → Unfinished s
unfinished s none begins =
    let found = found_any (λ w. may_come s.stage (innermost s.nesting) w && starts_with nat_eq (spelling w) s.text) WORDS begins in
    let parts = and_parts _ _ found.1 in
    of found.0 parts.0 parts.1 (drop (length s.text) (spelling found.0)) refl
  where
    spelled : (w : Word) → starts_with nat_eq (spelling w) s.text ≡ true → spelling w ≡ s.text ++ drop (length s.text) (spelling w)
    spelled w so =
        let front : s.text ≡ take (length s.text) (spelling w) = (bytes_eq-Decides s.text (take (length s.text) (spelling w))).0 so in
        sym (take-append-drop (length s.text) (spelling w)) ∙ ap (λ x. x ++ drop (length s.text) (spelling w)) (sym front)

    of : (w : Word) → may_come s.stage (innermost s.nesting) w ≡ true → starts_with nat_eq (spelling w) s.text ≡ true → (rest : List ℕ) → drop (length s.text) (spelling w) ≡ rest → Unfinished s
    of w comes so [] e =
        let p : Word → Bool = λ x. may_come s.stage (innermost s.nesting) x && bytes_eq (spelling x) s.text in
        let same : spelling w ≡ s.text = spelled w so ∙ ap (λ x. s.text ++ x) e ∙ append-nil s.text in
        let test : (may_come s.stage (innermost s.nesting) w && bytes_eq (spelling w) s.text) ≡ true = rw comes ((bytes_eq-Decides (spelling w) s.text).1 same) in
        absurd (false≢true (sym (none_found p WORDS none) ∙ any_word p w test))
    of w comes so (c ∷ rest) e = record { word = w; next = c; rest = rest; comes = comes; spelled = spelled w so ∙ ap (λ x. s.text ++ x) e }

live_in_word : (s : State) → SoundState s → Then Live (in_word s)
unfolding in_word
live_in_word s sound = by (found_word s s.text) refl
  where
    begun : (b : Bool) → found_word s s.text ≡ None → begins_word s s.text ≡ b → Then Live (cond b (Some s) None)
    begun true none e = record { sound = sound; unfinished = λ _. unfinished s none e }
    begun false none e = tt

    by : (f : Option Word) → found_word s s.text ≡ f → Then Live (word_found s f (begins_word s s.text))
    by (Some w) e = live_behind_word w s sound
    by None e = begun (begins_word s s.text) e refl

live_between : (s : State) (c : ℕ) → Moved s → (s.part ≡ part.Word → ⊥) → Then Live (between s c)
live_between s c m apart =
    either Live (is_blank c) _ _ (elsewhere _ m.sound apart) (live_in_word (began s c part.Word) (began_sound s c part.Word m))

live_behind : (s : State) (c : ℕ) → SoundState s → Then Live (behind s c)
live_behind s c sound =
    either Live (c == 0x20) _ _ (elsewhere _ sound (λ e. cc))
    (either Live (c == 0x2f) _ _ (elsewhere _ sound (λ e. cc)) (either Live (c == 0x3e) _ _ (elsewhere _ sound (λ e. cc)) tt))

live_gap : (s : State) (c : ℕ) → Moved s → Then Live (gap s c)
live_gap s c m =
    either Live (is_name_byte c) _ _ (elsewhere _ (began_sound s c part.Name m) (λ e. cc)) (live_behind s c m.sound)

live_slash : (s : State) (c : ℕ) → SoundState s → Then Live (slash s c)
live_slash s c sound = either Live (c == 0x3e) _ _ (elsewhere _ sound (λ e. cc)) tt

live_named : (s : State) (c : ℕ) → SoundState s → Then Live (named s c)
live_named s c sound =
    either Live (c == 0x20) _ _ (elsewhere _ sound (λ e. cc)) (either Live (c == 0x3d) _ _ (elsewhere _ sound (λ e. cc)) tt)

live_name : (before : List ℕ) (s : State) (c : ℕ) → length before ≤ s.place → SoundState s → (s.part ≡ part.Word → ⊥) → Then Live (in_name before s c)
live_name before s c fits sound apart =
    let renamed : Sound s.place s.text before s.attributes = record { text_fits = sound.text_fits; name_fits = fits; names_fit = sound.names_fit } in
    either Live (is_name_byte c) _ _ (elsewhere _ sound apart)
    (either Live (is_some (s.attributes before)) _ _ tt (live_named (record s { name = before }) c renamed))

live_equals : (s : State) (c : ℕ) → SoundState s → (s.part ≡ part.Word → ⊥) → Then Live (equals s c)
live_equals s c sound apart =
    let emptied : Sound s.place [] s.name s.attributes = record { text_fits = omega arith; name_fits = sound.name_fits; names_fit = sound.names_fit } in
    either Live (c == 0x20) _ _ (elsewhere _ sound apart)
    (either Live ((c == 0x22) || (c == 0x27)) _ _ (elsewhere _ emptied (λ e. cc)) tt)

longer_than_name : (place : ℕ) (name value : List ℕ) (old : Attributes) (q : List ℕ) → length name ≤ place → place < length q → old q ≡ None → added old name value q ≡ None
longer_than_name place name value old q fits long none = by (bytes_eq name q) refl
  where
    by : (b : Bool) → bytes_eq name q ≡ b → cond b (Some value) (old q) ≡ None
    by true e = let same : name ≡ q = (bytes_eq-Decides name q).0 e in absurd (omega (arith, ap length same))
    by false e = none

live_value : (before : List ℕ) (s : State) (quote c : ℕ) → SoundState s → (s.part ≡ part.Word → ⊥) → Then Live (in_value before s quote c)
live_value before s quote c sound apart =
    let more : Sound s.place s.text s.name (added s.attributes s.name before) = record {
      text_fits = sound.text_fits;
      name_fits = sound.name_fits;
      names_fit = λ q h. longer_than_name s.place s.name before s.attributes q sound.name_fits h (sound.names_fit q h);
    } in
    either Live (c == quote) _ _ (elsewhere _ more (λ e. cc)) (either Live (c == 0x3c) _ _ tt (elsewhere _ sound apart))

live_closing : (s : State) (c : ℕ) → SoundState s → (s.part ≡ part.Word → ⊥) → Then Live (closing s c)
live_closing s c sound apart =
    either Live (c == 0x3e) _ _ (elsewhere _ sound (λ e. cc)) (either Live (c == 0x20) _ _ (elsewhere _ sound apart) tt)

not_word : (p : Option Part) → Type 0
not_word None = Unit {0}
not_word (Some p) = p ≡ part.Word → ⊥

either_part : (b : Bool) (x y : Option Part) → not_word x → not_word y → not_word (cond b x y)
unfolding not_word
either_part true x y p q = p
either_part false x y p q = q

comment_apart : (dashes c : ℕ) → not_word (comment_part dashes c)
unfolding not_word
comment_apart dashes c =
    either_part (nat_lt dashes 2) _ _ (either_part (c == 0x2d) _ _ (λ e. cc) (λ e. cc))
    (either_part (c == 0x3e) _ _ (λ e. cc) (either_part ((dashes == 2) && (c == 0x2d)) _ _ (λ e. cc) tt))

live_to_part : (s : State) (p : Option Part) → SoundState s → not_word p → Then Live (to_part s p)
unfolding not_word
live_to_part s None sound apart = tt
live_to_part s (Some p) sound apart = elsewhere _ sound apart

live_declaration : (s : State) (question : Bool) (c : ℕ) → SoundState s → Live (declaration s question c)
live_declaration s question c sound = by (question && (c == 0x3e)) refl
  where
    by : (b : Bool) → (question && (c == 0x3e)) ≡ b → Live (declaration s question c)
    by true e = rw e (elsewhere _ sound (λ k. cc))
    by false e = rw e (elsewhere _ sound (λ k. cc))

live_step_in : (p : Part) (s : State) (c : ℕ) → s.part ≡ p → SoundState s → Then Live (step_in p s.text (moved s c) c)
live_step_in p s c at sound = by p at
  where
    m : State
    m = moved s c

    sound' : SoundState m
    sound' = moved_sound s c sound

    all : Moved m
    all = record { sound = moved_sound s c sound; some = omega arith }

    apart : (p : Part) → s.part ≡ p → (p ≡ part.Word → ⊥) → s.part ≡ part.Word → ⊥
    apart p e f k = f (sym e ∙ k)

    by : (p : Part) → s.part ≡ p → Then Live (step_in p s.text (moved s c) c)
    by part.Between e = live_between m c all (apart _ e (λ k. cc))
    by part.Word e = live_in_word m sound'
    by (part.Comment dashes) e = live_to_part m (comment_part dashes c) sound' (comment_apart dashes c)
    by (part.Declaration question) e = live_declaration m question c sound'
    by part.Behind e = live_behind m c sound'
    by part.Gap e = live_gap m c all
    by part.Slash e = live_slash m c sound'
    by part.Name e = live_name s.text m c (let t = sound.text_fits in omega arith) sound' (apart _ e (λ k. cc))
    by part.Named e = live_named m c sound'
    by part.Equals e = live_equals m c sound' (apart _ e (λ k. cc))
    by (part.Value quote) e = live_value s.text m quote c sound' (apart _ e (λ k. cc))
    by part.Closing e = live_closing m c sound' (apart _ e (λ k. cc))

live_step : (s : State) (c : ℕ) → Live s → Then Live (step s c)
unfolding step
live_step s c live = live_step_in s.part s c refl live.sound

live_start : Live start
live_start = record {
  sound = record { text_fits = omega arith; name_fits = omega arith; names_fit = λ q h. refl };
  unfinished = λ e. cc;
}

live_run : (a : List ℕ) (x : Option State) → Then Live x → Then Live (run x a)
live_run a None h = tt
live_run [] (Some s) h = h
live_run (c ∷ a) (Some s) h = live_run a (step s c) (live_step s c h)

-- from each state to which a front leads, some bytes lead to the end of a file
pub ends_front : (a : List ℕ) (s : State) → run (Some start) a ≡ Some s → Ends s
ends_front a s e = ends_live s (of (run (Some start) a) e (live_run a (Some start) live_start))
  where
    of : (x : Option State) → x ≡ Some s → Then Live x → Live s
    of None k h = cc
    of (Some t) k h = let same : t ≡ s = cc in subst Live same h
