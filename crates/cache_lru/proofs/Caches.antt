-- What an access leaves of the sets of a cache.
use Rattle.std.proofs.Common.{◌≡◌, ℕ, zero, suc, ◌<◌, ◌-◌, ◌%◌, true, List, [], ◌∷◌, length, get_or, take, refl, sym, ap, ◌∙◌, inl, inr, arith, eqb, not, map, set, subst, get_or-set_same, get_or-set_other}
use Rattle.std.proofs.Math.ListN.{length-set}
use Rattle.std.proofs.lemmas.Bool.{cases_eq, eq-eqb, or_left}
use Rattle.std.proofs.lemmas.List.{get_or-map, map-set}
use Rattle.std.specs.List.{list_any, filter}
use Rattle.wx_base.specs.declared.machine.Shape.{Shape}
use Rattle.wx_base.specs.Machine.{IsShape}
use Rattle.wx_base.specs.Cache.{Lines, IsSet, IsCache, set_of, lines_with, touched, accessed}
use Rattle.cache_lru.specs.Laws.{AccessedIsYoungest, SecondAccessHits, AccessKeepsCache}
use Rattle.cache_lru.proofs.Lines.{before_others, touched_is_set, touched_again}

pub set_within : (sets line n : ℕ) → 0 < sets → n ≡ sets → line % sets < n
set_within sets line n h e = omega arith

-- the line's set after the access
set_after : (shape : Shape) (cache : Lines) (line : ℕ) → IsShape shape → IsCache shape cache → lines_with shape (accessed shape cache line) line ≡ touched shape.ways (lines_with shape cache line) line
set_after shape cache line s c =
    let h : set_of shape line < length cache = set_within shape.sets line (length cache) (omega (arith, s.sets)) c.sets in
    rw get_or-set_same refl

pub youngest : AccessedIsYoungest
youngest shape cache line s c =
    let older = take (shape.ways - 1) (filter (λ other. not (eqb other line)) (lines_with shape cache line)) in
    let is : lines_with shape (accessed shape cache line) line ≡ line ∷ older = set_after shape cache line s c ∙ before_others shape.ways line (filter (λ other. not (eqb other line)) (lines_with shape cache line)) (omega (arith, s.ways)) in
    let held : list_any (λ other. eqb other line) (line ∷ older) ≡ true = or_left (eqb line line) (list_any (λ other. eqb other line) older) (eq-eqb line line refl) in
    (ap (list_any (λ other. eqb other line)) is ∙ held, (older, is))

set_twice : (cache : Lines) (i : ℕ) (x : List ℕ) → set (set cache i x) i x ≡ set cache i x
set_twice [] i x = refl
set_twice (y ∷ cache) zero x = refl
set_twice (y ∷ cache) (suc i) x = ap (λ rest. y ∷ rest) (set_twice cache i x)

pub second : SecondAccessHits
second shape cache line s c =
    let is = set_after shape cache line s c in
    let T = touched shape.ways (lines_with shape cache line) line in
    let again : touched shape.ways (lines_with shape (accessed shape cache line) line) line ≡ T = ap (λ lines. touched shape.ways lines line) is ∙ touched_again shape.ways (lines_with shape cache line) line (omega (arith, s.ways)) in
    ((youngest shape cache line s c).0, ap (set (set cache (set_of shape line) T) (set_of shape line)) again ∙ set_twice cache (set_of shape line) T)

pub keeps : AccessKeepsCache
keeps shape cache line s c =
    let at = set_of shape line in
    let h : at < length cache = set_within shape.sets line (length cache) (omega (arith, s.sets)) c.sets in
    let T = touched shape.ways (lines_with shape cache line) line in
    let t : IsSet shape at T = touched_is_set shape at (lines_with shape cache line) line (c.each at (omega (arith, c.sets))) refl in
    record {
      sets = length-set cache at T ∙ c.sets;
      each = λ k within. elim (cases_eq k at) [
        | inl e ↦ let P : ℕ → Type 0 = λ k. IsSet shape k (get_or (set cache at T) k []) in subst P (sym e) (rw get_or-set_same t)
        | inr ne ↦ rw get_or-set_other (c.each k within)
      ];
    }

module _ {X : Type 0} (f : X → List ℕ) (lists : List X) where
  -- the list that stands at a place
  pub list_there : (i : ℕ) (x : X) → i < length lists → x ≡ get_or lists i x → get_or (map f lists) i [] ≡ f x
  list_there i x h e = get_or-map f lists i x [] h ∙ ap f (sym e)

  -- the sets where one list was touched
  pub lists_after : (shape : Shape) (line : ℕ) (x y : X) → set_of shape line < length lists → x ≡ get_or lists (set_of shape line) x → f y ≡ touched shape.ways (f x) line
      → map f (set lists (set_of shape line) y) ≡ accessed shape (map f lists) line
  lists_after shape line x y h e is =
      map-set f lists (set_of shape line) y
      ∙ ap (set (map f lists) (set_of shape line)) (is ∙ ap (λ lines. touched shape.ways lines line) (sym (list_there (set_of shape line) x h e)))

  -- the touched list was one of its set
  pub set_there : (shape : Shape) (line : ℕ) (x : X) → IsShape shape → IsCache shape (map f lists) → set_of shape line < length lists → x ≡ get_or lists (set_of shape line) x → IsSet shape (set_of shape line) (f x)
  set_there shape line x s c h e =
      let P : List ℕ → Type 0 = λ lines. IsSet shape (set_of shape line) lines in
      subst P (list_there (set_of shape line) x h e) (c.each (set_of shape line) (set_within shape.sets line shape.sets (omega (arith, s.sets)) refl))
