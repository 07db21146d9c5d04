-- What is known and held for a line behind accesses.
use Rattle.std.proofs.Common.{◌≡◌, ℕ, zero, suc, ◌<◌, Bool, true, false, cond, not, ◌&&◌, ◌||◌, eqb, List, [], ◌∷◌, length, get_or, drop, refl, ap, ◌∙◌, arith}
use Rattle.std.specs.List.{Contains, filter}
use Rattle.std.proofs.lemmas.Bool.{eq-eqb, false≢true, true≢false}
use Rattle.wx_base.specs.declared.machine.Shape.{Shape}
use Rattle.wx_base.specs.CacheStates.{Younger, younger_accessed, is_rival}
use Rattle.cache_ages.specs.Bounds.{is_one_of}
use Rattle.cache_pers.specs.Stays.{younger_along}
use Rattle.cache_kept.specs.Newer.{since, newer}
use Rattle.cache_kept.proofs.Lists.{flip, none_there, there_too, later, one_from, filter_among}

-- ---- truth values

pub or_both : (a b : Bool) → (a || b) ≡ false → (a ≡ false) × (b ≡ false)
or_both true b e = absurd (true≢false e)
or_both false b e = (refl, e)

-- ---- the accesses since the last one to the line

pub since_none : (line : ℕ) (accesses : List ℕ) → is_one_of accesses line ≡ false → since line accesses ≡ accesses
since_none line [] e = refl
since_none line (next ∷ accesses) e =
    let both = or_both (eqb next line) (is_one_of accesses line) e in
    λ i. cond (both.1 i) (since line accesses) (cond (both.0 i) accesses (next ∷ accesses))

pub since_at : (line : ℕ) (accesses : List ℕ) (k : ℕ) → k < length accesses → get_or accesses k 0 ≡ line → is_one_of (drop (suc k) accesses) line ≡ false
    → since line accesses ≡ drop (suc k) accesses
since_at line [] k h e none = absurd (omega arith)
since_at line (next ∷ accesses) zero h e none = λ i. cond (none i) (since line accesses) (cond (eq-eqb next line e i) accesses (next ∷ accesses))
since_at line (next ∷ accesses) (suc k) h e none =
    let inside : k < length accesses = omega arith in
    let there : is_one_of accesses line ≡ true = one_from accesses line (at accesses k inside e) in
    ap (λ (b : Bool). cond b (since line accesses) (cond (eqb next line) accesses (next ∷ accesses))) there ∙ since_at line accesses k inside e none
  where
    at : (xs : List ℕ) (k : ℕ) → k < length xs → get_or xs k 0 ≡ line → Contains xs line
    at [] k h e = absurd (omega arith)
    at (x ∷ xs) zero h e = (0, omega arith, e)
    at (x ∷ xs) (suc k) h e = later x xs line (at xs k (omega arith) e)

pub since_among : (line : ℕ) (accesses : List ℕ) (x : ℕ) → Contains (since line accesses) x → Contains accesses x
since_among line [] x c = c
since_among line (next ∷ accesses) x c = at (is_one_of accesses line) (eqb next line) (λ k. since_among line accesses x k) c
  where
    at : (o t : Bool) → (Contains (since line accesses) x → Contains accesses x) → Contains (cond o (since line accesses) (cond t accesses (next ∷ accesses))) x → Contains (next ∷ accesses) x
    at true t again c = later next accesses x (again c)
    at false true again c = later next accesses x c
    at false false again c = c

-- ---- what is known

swap : (t k o : Bool) → ((t || k) || o) ≡ (k || (t || o))
swap true true o = refl
swap true false o = refl
swap false true o = refl
swap false false o = refl

nothing : (k : Bool) → k ≡ (k || false)
nothing true = refl
nothing false = refl

pub along_known : (shape : Shape) (line : ℕ) (x : Younger) (accesses : List ℕ) → (younger_along shape x accesses).known line ≡ (x.known line || is_one_of accesses line)
along_known shape line x [] = nothing (x.known line)
along_known shape line x (next ∷ accesses) =
    along_known shape line (younger_accessed shape x next) accesses ∙ ap (λ (b : Bool). (b || x.known line) || is_one_of accesses line) (flip line next)
    ∙ swap (eqb next line) (x.known line) (is_one_of accesses line)

-- ---- what is held

module _ (rv : ℕ → Bool) (r : ℕ) where
  added : (h v : Bool) (a : ℕ) (f : List ℕ) → ((h || (v && eqb r a)) || is_one_of f r) ≡ (h || is_one_of (cond v (a ∷ f) f) r)
  added true v a f = refl
  added false true a f = ap (λ (b : Bool). b || is_one_of f r) (flip r a)
  added false false a f = refl

  step : (t k o h : Bool) (a : ℕ) (rest s : List ℕ) → (o ≡ false → s ≡ rest)
      → ((not o && cond t false (h || (k && rv a && eqb r a))) || is_one_of (cond ((t || k) || o) (filter rv s) []) r)
      ≡ ((not (t || o) && h) || is_one_of (cond (k || (t || o)) (filter rv (cond o s (cond t rest (a ∷ rest)))) []) r)
  step true true true h a rest s e = refl
  step true false true h a rest s e = refl
  step false true true h a rest s e = refl
  step false false true h a rest s e = refl
  step true true false h a rest s e = ap (λ (xs : List ℕ). is_one_of (filter rv xs) r) (e refl)
  step true false false h a rest s e = ap (λ (xs : List ℕ). is_one_of (filter rv xs) r) (e refl)
  step false true false h a rest s e = ap (λ (xs : List ℕ). (h || (rv a && eqb r a)) || is_one_of (filter rv xs) r) (e refl) ∙ added h (rv a) a (filter rv rest)
  step false false false true a rest s e = refl
  step false false false false a rest s e = refl

  empty : (k h : Bool) → h ≡ ((not false && h) || is_one_of (cond (k || false) [] []) r)
  empty true true = refl
  empty true false = refl
  empty false true = refl
  empty false false = refl

pub along_held : (shape : Shape) (line r : ℕ) (x : Younger) (accesses : List ℕ)
    → (younger_along shape x accesses).held line r ≡ ((not (is_one_of accesses line) && x.held line r) || is_one_of (newer shape line (x.known line) accesses) r)
along_held shape line r x [] = empty (is_rival shape line) r (x.known line) (x.held line r)
along_held shape line r x (next ∷ accesses) =
    along_held shape line r (younger_accessed shape x next) accesses
    ∙ ap (λ (t : Bool). (not (is_one_of accesses line) && cond t false (x.held line r || (x.known line && is_rival shape line next && eqb r next)))
    || is_one_of (cond ((t || x.known line) || is_one_of accesses line) (filter (is_rival shape line) (since line accesses)) []) r) (flip line next)
    ∙ step (is_rival shape line) r (eqb next line) (x.known line) (is_one_of accesses line) (x.held line r) next accesses (since line accesses) (since_none line accesses)

-- ---- what is newer

pub newer_among : (shape : Shape) (line : ℕ) (known : Bool) (accesses : List ℕ) (x : ℕ) → Contains (newer shape line known accesses) x
    → Contains accesses x × ((known || is_one_of accesses line) ≡ true)
newer_among shape line known accesses x c = at (known || is_one_of accesses line) refl
  where
    at : (b : Bool) → (known || is_one_of accesses line) ≡ b → Contains accesses x × ((known || is_one_of accesses line) ≡ true)
    at true e =
        let k = filter_among (is_rival shape line) (since line accesses) x
        (there_too (newer shape line known accesses) (filter (is_rival shape line) (since line accesses)) x (ap (λ (b : Bool). cond b (filter (is_rival shape line) (since line accesses)) []) e) c) in
        (since_among line accesses x k.0, e)
    at false e = absurd (none_there x (there_too (newer shape line known accesses) [] x (ap (λ (b : Bool). cond b (filter (is_rival shape line) (since line accesses)) []) e) c))

-- knowing more before, no less is newer
pub newer_more : (shape : Shape) (line : ℕ) (k m : Bool) (accesses : List ℕ) (x : ℕ) → (k ≡ true → m ≡ true) → Contains (newer shape line k accesses) x
    → Contains (newer shape line m accesses) x
newer_more shape line k true accesses x more c =
    let told = newer_among shape line k accesses x c in
    there_too (newer shape line k accesses) (newer shape line true accesses) x (ap (λ (b : Bool). cond b (filter (is_rival shape line) (since line accesses)) []) told.1) c
newer_more shape line true false accesses x more c = absurd (false≢true (more refl))
newer_more shape line false false accesses x more c = c
