-- What a reader stands for, one byte on.
use Rattle.std.proofs.Common.{◌≡◌, ℕ, ◌+◌, ◌-◌, ◌<◌, ◌≤◌, Bool, true, false, cond, List, [], ◌∷◌, ◌++◌, length, get_or, drop, take, Some, None, refl, sym, ap, subst, ◌∙◌, arith, length-drop}
use Rattle.std.specs.Prelude.{Option, Result, IfOk, slice_range, slice_index}
use Rattle.std.proofs.lemmas.List.{get_or-drop, take_more}
use Rattle.std.proofs.lemmas.Bool.{false≢true}
use Rattle.cert_lines.specs.declared.kind.Version.{Version}
use Rattle.cert_lines.specs.declared.kind.Kind.{Kind}
use Rattle.cert_lines.specs.declared.kind.Role.{Role}
use Rattle.cert_lines.specs.declared.kind.Role.TheVariants as role
use Rattle.cert_lines.specs.declared.kind.Kind.TheVariants as kind
use Rattle.cert_lines.specs.declared.reader.Place.{Place}
use Rattle.cert_lines.specs.declared.reader.Place.TheVariants as place
use Rattle.cert_lines.specs.Table.{may_stand, is_word, begins_word}
use Rattle.cert_lines.specs.Grammar.{Line, IsText}
use Rattle.cert_lines.specs.Machine.{State, start, step, run, is_whole, allowed, lettered, behind_word}
use Rattle.cert_lines.specs.Machine.State.{Between}
use Rattle.cert_lines.specs.Reading.{state_at, Goes}
use Rattle.cert_lines.proofs.Sound.{letters, none_is, pick, told_all}

-- a text grows by the byte that comes
pub text_more : (b : List ℕ) (start at : ℕ) → start ≤ at → at < length b → slice_range b start (at + 1) ≡ slice_range b start at ++ slice_index b at ∷ []
text_more b start at within inside =
    let n : at + 1 - start ≡ (at - start) + 1 = omega arith in
    let room : at - start < length (drop start b) = omega (arith, length-drop start b) in
    let here : get_or (drop start b) (at - start) 0 ≡ slice_index b at = get_or-drop start b (at - start) 0 ∙ ap (λ k. get_or b k 0) (omega arith) in
    rw (n, take_more (drop start b) (at - start) 0 room, here) refl

pub one_byte : (b : List ℕ) (at : ℕ) → at < length b → slice_range b at (at + 1) ≡ slice_index b at ∷ []
one_byte b at inside =
    let none : at - at ≡ 0 = omega arith in
    text_more b at at (omega arith) inside ∙ ap (λ n. take n (drop at b) ++ slice_index b at ∷ []) none

-- the kind that opens a line is one that may stand there, and its name begins with the byte
allowed_is : (v : Version) (part : ℕ) (o : Option Kind) (kind : Kind) → allowed v part o ≡ Some kind → o ≡ Some kind
allowed_is v part None kind e = none_is e
allowed_is v part (Some k) kind e = pick (λ (o : Option Kind). o ≡ Some kind → Some k ≡ Some kind) (may_stand v part k) (Some k) None (λ _ h. h) (λ _ h. none_is h) e

pub opens_word : (v : Version) (part : ℕ) (kind : Kind) (b : List ℕ) (at : ℕ) → at < length b → allowed v part (lettered v part (slice_index b at)) ≡ Some kind
    → begins_word kind role.Name (slice_range b at (at + 1)) ≡ true
opens_word v part kind b at inside e =
    ap (begins_word kind role.Name) (one_byte b at inside) ∙ letters v part (slice_index b at) kind (allowed_is v part (lettered v part (slice_index b at)) kind e)

pub grown : (v : Version) (lines : List Line) (words : List (List ℕ)) (b : List ℕ) (at : ℕ) (kind : Kind) (r : Role) (start : ℕ) → start ≤ at → at < length b
    → begins_word kind r (slice_range b start (at + 1)) ≡ true
    → step (state_at v lines words b at (place.Within kind r start)) (slice_index b at) ≡ Some (state_at v lines words b (at + 1) (place.Within kind r start))
unfolding step
grown v lines words b at kind r start within inside e =
    let more = text_more b start at within inside in
    let f : begins_word kind r (slice_range b start at ++ slice_index b at ∷ []) ≡ true = ap (begins_word kind r) (sym more) ∙ e in
    rw (more, f) refl

-- a byte that the word does not go on with
pub behind : (v : Version) (lines : List Line) (words : List (List ℕ)) (b : List ℕ) (at : ℕ) (kind : Kind) (r : Role) (start : ℕ) → start ≤ at → at < length b
    → begins_word kind r (slice_range b start (at + 1)) ≡ false
    → step (state_at v lines words b at (place.Within kind r start)) (slice_index b at)
    ≡ cond (is_word kind r (slice_range b start at)) (behind_word v lines kind (words ++ slice_range b start at ∷ []) r (slice_index b at)) None
unfolding step
behind v lines words b at kind r start within inside e =
    let f : begins_word kind r (slice_range b start at ++ slice_index b at ∷ []) ≡ false = ap (begins_word kind r) (sym (text_more b start at within inside)) ∙ e in
    rw f refl

pub dead_end : (v : Version) (lines : List Line) (words : List (List ℕ)) (b : List ℕ) (at : ℕ) (kind : Kind) (r : Role) (start : ℕ) → start ≤ at → at < length b
    → begins_word kind r (slice_range b start (at + 1)) ≡ false → is_word kind r (slice_range b start at) ≡ false
    → step (state_at v lines words b at (place.Within kind r start)) (slice_index b at) ≡ None
dead_end v lines words b at kind r start within inside e w = behind v lines words b at kind r start within inside e ∙ ap (λ t. cond {A = Option State} t (behind_word v lines kind (words ++ slice_range b start at ∷ []) r (slice_index b at)) None) w

pub word_ended : (v : Version) (lines : List Line) (words : List (List ℕ)) (b : List ℕ) (at : ℕ) (kind : Kind) (r : Role) (start : ℕ) → start ≤ at → at < length b
    → begins_word kind r (slice_range b start (at + 1)) ≡ false → is_word kind r (slice_range b start at) ≡ true
    → step (state_at v lines words b at (place.Within kind r start)) (slice_index b at) ≡ behind_word v lines kind (words ++ slice_range b start at ∷ []) r (slice_index b at)
word_ended v lines words b at kind r start within inside e w = behind v lines words b at kind r start within inside e ∙ ap (λ t. cond {A = Option State} t (behind_word v lines kind (words ++ slice_range b start at ∷ []) r (slice_index b at)) None) w

-- a step of an equal state
pub goes_along : {E : Type 0} (r : Result Bool E) (new : State) (x y : Option State) → x ≡ y → IfOk r (λ alive. Goes alive new y) → IfOk r (λ alive. Goes alive new x)
goes_along r new x y e h = subst (λ (z : Option State). IfOk r (λ alive. Goes alive new z)) (sym e) h

-- a reading that ends with the last line has read a text
pub final : (b : List ℕ) (v : Version) (lines : List Line) (words : List (List ℕ)) (bytes : List ℕ) (at : ℕ) (p : Place) → run (Some start) b ≡ Some (state_at v lines words bytes at p)
    → is_whole (state_at v lines words bytes at p) ≡ true → IsText b v lines
final b v lines words bytes at (place.Between (Some kind.End)) e whole = told_all b (Between v lines (Some kind.End)) e
final b v lines words bytes at (place.Between None) e whole = absurd (false≢true whole)
final b v lines words bytes at (place.Between (Some kind.Head)) e whole = absurd (false≢true whole)
final b v lines words bytes at (place.Between (Some k)) e whole = absurd (false≢true whole)
final b v lines words bytes at (place.Within kind r start) e whole = absurd (false≢true whole)
