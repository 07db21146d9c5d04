-- Where a reading of bytes stops, the longest front of a text ends.
use Rattle.std.proofs.Common.{◌≡◌, ◌≢◌, ℕ, ◌+◌, ◌<◌, false, List, [], ◌∷◌, ◌++◌, length, get_or, take, drop, Some, None, refl, sym, ap, subst, ◌∙◌, arith, append_assoc}
use Rattle.std.specs.Prelude.{Option}
use Rattle.std.proofs.lemmas.Bool.{false≢true}
use Rattle.std.proofs.lemmas.List.{append-nil, take-append-drop, take_more, take_all, take-take}
use Rattle.cert_lines.specs.declared.kind.Version.{Version}
use Rattle.cert_lines.specs.declared.kind.Kind.{Kind}
use Rattle.cert_lines.specs.declared.kind.Kind.TheVariants as kind
use Rattle.cert_lines.specs.Grammar.{Line, IsText, Begins, StopsAt, IsCut}
use Rattle.std.proofs.Common.{◌⊎◌, inl, inr, ⊎_elim}
use Rattle.std.proofs.lemmas.Bool.{cases_lt}
use Rattle.cert_lines.specs.declared.kind.Version.TheVariants.{One, Two}
use Rattle.cert_lines.specs.declared.lines_error.LinesError.{LinesError}
use Rattle.cert_lines.specs.declared.lines_error.LinesError.TheVariants.{Syntax, NoEnd, NoMemory}
use Rattle.cert_lines.specs.Reading.{IsRefusal}
use Rattle.cert_lines.specs.Machine.{State, start, step, run, is_whole, opened, allowed, lettered}
use Rattle.cert_lines.specs.Machine.State.{Between, Within}
use Rattle.cert_lines.proofs.Runs.{run-append, lines_run}
use Rattle.cert_lines.proofs.Sound.{told_all, some_is, none_is}
use Rattle.cert_lines.proofs.Endings.{has_end}

-- one byte more
pub front_more : (b : List ℕ) (at : ℕ) (s : State) (x : Option State) → at < length b → run (Some start) (take at b) ≡ Some s → step s (get_or b at 0) ≡ x → run (Some start) (take (at + 1) b) ≡ x
front_more b at s x inside e h =
    ap (run (Some start)) (take_more b at 0 inside) ∙ run-append (Some start) (take at b) (get_or b at 0 ∷ []) ∙ ap (λ (y : Option State). run y (get_or b at 0 ∷ [])) e ∙ ap (λ (y : Option State). run y []) h ∙ run-nil x
  where
    run-nil : (x : Option State) → run x [] ≡ x
    run-nil None = refl
    run-nil (Some s) = refl

-- a reading that stops never goes on
dead : (a more : List ℕ) (s : State) → run (Some start) a ≡ None → run (Some start) (a ++ more) ≡ Some s → ⊥
dead a more s stop e =
    let none : None ≡ Some s = sym (run-append (Some start) a more ∙ ap (λ (x : Option State). run x more) stop) ∙ e in
    none_is none

-- no text begins so
no_text : (a : List ℕ) → run (Some start) a ≡ None → Begins a → ⊥
no_text a stop b = dead a b.more (Between b.version b.lines (Some kind.End)) stop (lines_run b.version b.lines (Some kind.End) (a ++ b.more) b.text)

pub begins : (a : List ℕ) (s : State) → run (Some start) a ≡ Some s → Begins a
begins a s e = let h = has_end s a (told_all a s e) in record { more = h.more; version = h.version; lines = h.lines; text = h.is }

-- a byte with which no text goes on
pub stops_within : (b : List ℕ) (at : ℕ) (s : State) → at < length b → run (Some start) (take at b) ≡ Some s → run (Some start) (take (at + 1) b) ≡ None → StopsAt b at
stops_within b at s inside e stop = record {
  none = λ w. past (length b) inside (record { more = w.more; version = w.version; lines = w.lines; text = subst (λ t. IsText (t ++ w.more) w.version w.lines) (sym (take_all (length b) b (omega arith))) w.text });
  within = omega arith;
  begins = begins (take at b) s e;
  longest = past;
}
  where
    past : (n : ℕ) → at < n → Begins (take n b) → ⊥
    past n long w =
        let split : take (at + 1) b ++ drop (at + 1) (take n b) ≡ take n b = ap (λ (x : List ℕ). x ++ drop (at + 1) (take n b)) (sym (take-take (at + 1) n b (omega arith))) ∙ take-append-drop (at + 1) (take n b) in
        dead (take (at + 1) b) (drop (at + 1) (take n b) ++ w.more) (Between w.version w.lines (Some kind.End)) stop
        (ap (run (Some start)) (sym (append_assoc (take (at + 1) b) (drop (at + 1) (take n b)) w.more) ∙ ap (λ (x : List ℕ). x ++ w.more) split) ∙ lines_run w.version w.lines (Some kind.End) (take n b ++ w.more) w.text)

-- the end of the bytes, where no text ends
pub cut : (b : List ℕ) (s : State) → run (Some start) b ≡ Some s → is_whole s ≡ false → IsCut b
cut b s e part =
    let h = has_end s b (told_all b s e) in
    record {
      more = h.more;
      some = λ nothing.
          let read : run (Some start) b ≡ Some (Between h.version h.lines (Some kind.End)) = ap (run (Some start)) (sym (append-nil b)) ∙ ap (λ m. run (Some start) (b ++ m)) (sym nothing) ∙ lines_run h.version h.lines (Some kind.End) (b ++ h.more) h.is in
          false≢true (sym part ∙ ap is_whole (some_is (sym e ∙ read)));
      version = h.version;
      lines = h.lines;
      text = h.is;
    }

-- ---- a text has one reading, and no cause against it
abbrev version_in : State → Version
version_in (Between v lines last) = v
version_in (Within v lines kind words r text) = v

abbrev lines_in : State → List Line
lines_in (Between v lines last) = lines
lines_in (Within v lines kind words r text) = lines

pub one_reading : (b : List ℕ) (v w : Version) (lines others : List Line) → IsText b v lines → IsText b w others → (v ≡ w) × (lines ≡ others)
one_reading b v w lines others is other =
    let same : Between v lines (Some kind.End) ≡ Between w others (Some kind.End) = some_is (sym (lines_run v lines (Some kind.End) b is) ∙ lines_run w others (Some kind.End) b other) in
    (ap version_in same, ap lines_in same)

pub text_begins : (b : List ℕ) (v : Version) (lines : List Line) → IsText b v lines → Begins b
text_begins b v lines is = record { more = []; version = v; lines = lines; text = subst (λ t. IsText t v lines) (sym (append-nil b)) is }

nothing_behind : (v : Version) (o : Option Kind) → allowed v 9 o ≡ None
nothing_behind v None = refl
nothing_behind One (Some kind.Head) = refl
nothing_behind One (Some k) = refl
nothing_behind Two (Some kind.Head) = refl
nothing_behind Two (Some k) = refl

nothing_goes_on : (v : Version) (lines : List Line) (c : ℕ) → step (Between v lines (Some kind.End)) c ≡ None
unfolding step
nothing_goes_on v lines c = ap (opened v lines c) (nothing_behind v (lettered v 9 c))

behind_end : (v w : Version) (lines others : List Line) (more : List ℕ) → run (Some (Between v lines (Some kind.End))) more ≡ Some (Between w others (Some kind.End)) → more ≡ []
behind_end v w lines others [] e = refl
behind_end v w lines others (c ∷ more) e =
    let none : None ≡ Some (Between w others (Some kind.End)) = sym (ap (λ (x : Option State). run x more) (nothing_goes_on v lines c)) ∙ e in
    none_is none

-- no text goes on to another
pub not_cut : (b : List ℕ) (v : Version) (lines : List Line) → IsText b v lines → IsCut b → ⊥
not_cut b v lines is c =
    c.some (behind_end v c.version lines c.lines c.more
    (ap (λ (x : Option State). run x c.more) (sym (lines_run v lines (Some kind.End) b is)) ∙ sym (run-append (Some start) b c.more) ∙ lines_run c.version c.lines (Some kind.End) (b ++ c.more) c.text))

pub cut_begins : (b : List ℕ) → IsCut b → Begins b
cut_begins b c = record { more = c.more; version = c.version; lines = c.lines; text = c.text }

one_stop : (b : List ℕ) (m n : ℕ) → StopsAt b m → StopsAt b n → m ≡ n
one_stop b m n s t =
    ⊎_elim (λ less. absurd (s.longest n less t.begins)) (λ more. ⊎_elim (λ less. absurd (t.longest m less s.begins)) (λ least. omega (arith, more, least)) (cases_lt n m)) (cases_lt m n)

pub no_cause : (b : List ℕ) (v : Version) (lines : List Line) → IsText b v lines → (e : LinesError) → IsRefusal b e → e ≡ NoMemory
no_cause b v lines is (Syntax at) s = absurd (s.none (text_begins b v lines is))
no_cause b v lines is NoEnd c = absurd (not_cut b v lines is c)
no_cause b v lines is NoMemory x = refl

pub one_cause : (b : List ℕ) (e r : LinesError) → IsRefusal b e → e ≢ NoMemory → IsRefusal b r → (r ≡ e) ⊎ (r ≡ NoMemory)
one_cause b e NoMemory is other r = inr refl
one_cause b NoMemory r is other s = absurd (other refl)
one_cause b (Syntax m) (Syntax n) s other t = inl (ap Syntax (one_stop b n m t s))
one_cause b (Syntax m) NoEnd s other c = absurd (s.none (cut_begins b c))
one_cause b NoEnd (Syntax n) c other s = absurd (s.none (cut_begins b c))
one_cause b NoEnd NoEnd c other d = inl refl
