-- What the first symbol that passes a test says of the list.
use Rattle.std.proofs.Common.{◌≡◌, ℕ, ◌<◌, zero, suc, Bool, true, false, cond, List, [], ◌∷◌, length, get_or, Option, Some, None, refl, sym, ap, ◌∙◌, arith}
use Rattle.std.specs.Prelude.{Any, ◌&&◌, is_some, option_map, find}
use Rattle.std.proofs.lemmas.Slice.Eq.{bytes_eq-Decides}
use Rattle.wx_base.specs.declared.symbol.Symbol.{Symbol}
use Rattle.wx_base.specs.Symbols.{has_name, has_global_name, first_value}

any-first : {X : Type 0} (P : X → Type 0) (x : X) (xs : List X) → P x → Any P (x ∷ xs)
any-first P x xs p = (0, x, omega arith, refl, p)

any-later : {X : Type 0} (P : X → Type 0) (x : X) (xs : List X) → Any P xs → Any P (x ∷ xs)
any-later P x xs w = (suc w.0, w.1, omega (arith, w.2), w.3, w.4)

-- what find gives is there
pub any_from_find : {X : Type 0} (P : X → Type 0) (test : X → Bool) (xs : List X) → ((x : X) → test x ≡ true → P x) → is_some (find test xs) ≡ true → Any P xs
any_from_find P test [] sound h = cc
any_from_find {X} P test (x ∷ xs) sound h = step (test x) refl (λ k. any_from_find P test xs sound k) h
  where
    step : (b : Bool) → test x ≡ b → (is_some (find test xs) ≡ true → Any P xs) → is_some (cond b (Some x) (find test xs)) ≡ true → Any P (x ∷ xs)
    step true e later k = any-first P x xs (sound x e)
    step false e later k = any-later P x xs (later k)

-- find gives something where an element passes
pub find_from_at : {X : Type 0} (test : X → Bool) (xs : List X) (k : ℕ) (x : X) → k < length xs → get_or xs k x ≡ x → test x ≡ true → is_some (find test xs) ≡ true
find_from_at test [] k x h e t = absurd (omega arith)
find_from_at {X} test (y ∷ xs) zero x h e t = step (test y) (ap test e ∙ t)
  where
    step : (b : Bool) → b ≡ true → is_some (cond b (Some y) (find test xs)) ≡ true
    step true p = refl
    step false p = cc
find_from_at {X} test (y ∷ xs) (suc k) x h e t = step (test y) (find_from_at test xs k x (omega arith) e t)
  where
    step : (b : Bool) → is_some (find test xs) ≡ true → is_some (cond b (Some y) (find test xs)) ≡ true
    step true later = refl
    step false later = later

some-option_map : {X Y : Type 0} (f : X → Y) (o : Option X) → is_some (option_map f o) ≡ is_some o
some-option_map f None = refl
some-option_map f (Some x) = refl

-- a value was found exactly where a symbol passes
pub any_from_value : (P : Symbol → Type 0) (test : Symbol → Bool) (xs : List Symbol) → ((x : Symbol) → test x ≡ true → P x) → is_some (first_value test xs) ≡ true → Any P xs
any_from_value P test xs sound h = any_from_find P test xs sound (sym (some-option_map _ (find test xs)) ∙ h)

pub value_from_any : (P : Symbol → Type 0) (test : Symbol → Bool) (xs : List Symbol) → ((x : Symbol) → P x → test x ≡ true) → Any P xs → is_some (first_value test xs) ≡ true
value_from_any P test xs whole w =
    some-option_map _ (find test xs) ∙ find_from_at test xs w.0 w.1 w.2 w.3 (whole w.1 w.4)

-- the tests tell the name
pub named : (name : List ℕ) (s : Symbol) → has_name name s ≡ true → s.name ≡ name
named name s h = (bytes_eq-Decides s.name name).0 h

pub named_back : (name : List ℕ) (s : Symbol) → s.name ≡ name → has_name name s ≡ true
named_back name s h = (bytes_eq-Decides s.name name).1 h

pub named_global : (name : List ℕ) (s : Symbol) → has_global_name name s ≡ true → s.name ≡ name
named_global name s h = named name s (step s.global (has_name name s) h)
  where
    step : (a b : Bool) → (a && b) ≡ true → b ≡ true
    step true b k = k
    step false b k = cc
