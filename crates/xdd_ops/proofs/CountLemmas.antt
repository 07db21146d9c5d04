-- How many pairs of places there are below two places.
use Rattle.std.proofs.Common.{◌≡◌, ℕ, suc, ◌+◌, ◌*◌, ◌≤◌, Bool, true, false, List, [], ◌∷◌, ◌++◌, length, map, Option, Some, None, refl, sym, ap, ◌∙◌, arith, inl, inr, ◌⊎◌, nat_eq, ◌&&◌, ◌||◌, if◌then◌else◌, length-append}
use Rattle.std.proofs.lemmas.Bool.{false≢true}
use Rattle.std.proofs.lemmas.Bool.Decides.{nat_tests}
use Rattle.std.proofs.lemmas.Cmp.{nat_eq_equiv, on_equiv, and_equiv}
use Rattle.std.proofs.lemmas.List.{length-map}
use Rattle.std.proofs.lemmas.List.Folds.{list_any-append}
use Rattle.std.proofs.lemmas.Map.Entries.{length-keys_of}
use Rattle.std.proofs.lemmas.Map.Keys.{IsDistinct-push}
use Rattle.std.proofs.lemmas.Map.Made.{is_some-lookup, length-le_from_is_member}
use Rattle.std.specs.Cmp.{IsEquivalence}
use Rattle.std.specs.List.{list_any, IsDistinct}
use Rattle.std.specs.Map.{keys_of, lookup}
use Rattle.std.specs.Option.{is_some}
use Rattle.xdd_table.specs.declared.node.Dd.{Dd}
use Rattle.xdd_table.specs.declared.node.Node.{Node}
use Rattle.xdd_table.specs.Diagram.{IsBelow, itself}
use Rattle.xdd_table.specs.Order.{has, IsSize}
use Rattle.xdd_ops.specs.Given.{same_places}
use Rattle.xdd_ops.specs.Answers.{IsPairBelow, KeepsBelow}

either_true : (a b : Bool) → (a || b) ≡ true → (a ≡ true) ⊎ (b ≡ true)
either_true true b h = inl refl
either_true false b h = inr h

no_true : (b : Bool) → (b ≡ true → ⊥) → b ≡ false
no_true true h = absurd (h refl)
no_true false h = refl

left_true : (a b : Bool) → a ≡ true → (a || b) ≡ true
left_true true b h = refl
left_true false b h = absurd (false≢true h)

right_true : (a b : Bool) → b ≡ true → (a || b) ≡ true
right_true true b h = refl
right_true false b h = h

place_same : (a b : ℕ) → nat_eq a b ≡ true → a ≡ b
place_same a b h = grind (arith, nat_tests)

both_same : (a b p q : ℕ) → (nat_eq p a && nat_eq q b) ≡ true → (p ≡ a) × (q ≡ b)
both_same a b p q h = apart (nat_eq p a) (nat_eq q b) refl refl h
  where
    apart : (t u : Bool) → t ≡ nat_eq p a → u ≡ nat_eq q b → (t && u) ≡ true → (p ≡ a) × (q ≡ b)
    apart true true e e' k = (place_same p a (sym e), place_same q b (sym e'))
    apart true false e e' k = absurd (false≢true k)
    apart false u e e' k = absurd (false≢true k)

both_true : (a b : ℕ) (t : Bool) → t ≡ true → (nat_eq a a && t) ≡ true
both_true a b t h = rw h (grind (arith, nat_tests))

-- equal pairs of places are one pair
places_laws : IsEquivalence same_places
places_laws = and_equiv (on_equiv (λ (p : ℕ × ℕ). p.0) nat_eq_equiv) (on_equiv (λ (p : ℕ × ℕ). p.1) nat_eq_equiv)

-- each element of the first list with each of the second
abbrev pairings : List ℕ → List ℕ → List (ℕ × ℕ)
pairings [] ys = []
pairings (x ∷ xs) ys = map (λ y. (x, y)) ys ++ pairings xs ys

product_more : (x y m n : ℕ) → m ≡ n → y ≡ x * n → m + y ≡ suc x * n
product_more x y m n e e' = rw (e, e') (omega arith)

length-pairings : (xs ys : List ℕ) → length (pairings xs ys) ≡ length xs * length ys
length-pairings [] ys = omega arith
length-pairings (x ∷ xs) ys = length-append (map (λ y. (x, y)) ys) (pairings xs ys)
    ∙ product_more (length xs) (length (pairings xs ys)) (length (map (λ y. (x, y)) ys)) (length ys) (length-map ys (λ y. (x, y))) (length-pairings xs ys)

in_row : (x : ℕ) (ys : List ℕ) (q : ℕ) → has ys q ≡ true → list_any (same_places (x, q)) (map (λ y. (x, y)) ys) ≡ true
in_row x [] q h = absurd (false≢true h)
in_row x (y ∷ ys) q h = elim (either_true (nat_eq q y) (has ys q) h) [
  | inl e ↦ left_true (nat_eq x x && nat_eq q y) (list_any (same_places (x, q)) (map (λ y. (x, y)) ys)) (both_true x y (nat_eq q y) e)
  | inr e ↦ right_true (nat_eq x x && nat_eq q y) (list_any (same_places (x, q)) (map (λ y. (x, y)) ys)) (in_row x ys q e)
]

in_pairings : (xs ys : List ℕ) (p q : ℕ) → has xs p ≡ true → has ys q ≡ true → list_any (same_places (p, q)) (pairings xs ys) ≡ true
in_pairings [] ys p q h h' = absurd (false≢true h)
in_pairings (x ∷ xs) ys p q h h' =
    let test = same_places (p, q) in
    let row : List (ℕ × ℕ) = map (λ y. (x, y)) ys in
    list_any-append test row (pairings xs ys) ∙ (elim (either_true (nat_eq p x) (has xs p) h) [
      | inl e ↦ let s : x ≡ p = sym (place_same p x e) in left_true (list_any test row) (list_any test (pairings xs ys)) (rw s (in_row p ys q h'))
      | inr e ↦ right_true (list_any test row) (list_any test (pairings xs ys)) (in_pairings xs ys p q e h')
    ])

-- a key of a list of entries has an entry
entry_of : (entries : List ((ℕ × ℕ) × Dd)) (x : ℕ × ℕ) → list_any (same_places x) (keys_of entries) ≡ true → (d : Dd) × (lookup (same_places x) entries ≡ Some d)
entry_of entries x h = is (lookup (same_places x) entries) refl
  where
    is : (o : Option Dd) → lookup (same_places x) entries ≡ o → (d : Dd) × (lookup (same_places x) entries ≡ Some d)
    is (Some d) e = (d, e)
    is None e = let f : is_some (lookup (same_places x) entries) ≡ true = is_some-lookup (same_places x) entries ∙ h in let g : false ≡ true = sym (ap is_some e) ∙ f in absurd (false≢true g)

-- pairs of places below two places, each once and none of them both places, are fewer than the product of the sizes
module _ (nodes : List Node) (a b m n : ℕ) (before : ℕ × ℕ → Option Dd) (none : (x : ℕ × ℕ) → before x ≡ None) (entries : List ((ℕ × ℕ) × Dd))
    (distinct : IsDistinct same_places (keys_of entries)) (below : KeepsBelow nodes a b (a + b) before (λ x. lookup (same_places x) entries))
    (first : IsSize nodes a m) (second : IsSize nodes b n) where
  pair_of : (p q : ℕ) → list_any (same_places (p, q)) (keys_of entries) ≡ true → IsPairBelow nodes a b (a + b) p q
  pair_of p q h = let d = entry_of entries (p, q) h in elim (below.added p q d.0 d.1) [
    | inl g ↦ let e : None ≡ Some d.0 = sym (none (p, q)) ∙ g in absurd (cc)
    | inr g ↦ g
  ]

  new_pair : list_any (same_places (a, b)) (keys_of entries) ≡ false
  new_pair = no_true (list_any (same_places (a, b)) (keys_of entries)) (λ h. let w : IsPairBelow nodes a b (a + b) a b = pair_of a b h in omega (arith, w.less))

  listed : (p q : ℕ) → IsBelow nodes a p → IsBelow nodes b q → list_any (same_places (p, q)) (pairings first.places second.places) ≡ true
  listed p q h h' = in_pairings first.places second.places p q (first.listed.whole p h) (second.listed.whole q h')

  member : (x : ℕ × ℕ) → list_any (same_places x) (keys_of entries ++ (a, b) ∷ []) ≡ true → list_any (same_places x) (pairings first.places second.places) ≡ true
  member x h = elim (either_true (list_any (same_places x) (keys_of entries)) (list_any (same_places x) ((a, b) ∷ [])) (sym (list_any-append (same_places x) (keys_of entries) ((a, b) ∷ [])) ∙ h)) [
    | inl g ↦ let w : IsPairBelow nodes a b (a + b) x.0 x.1 = pair_of x.0 x.1 g in listed x.0 x.1 w.first w.second
    | inr g ↦ elim (either_true (nat_eq x.0 a && nat_eq x.1 b) false g) [
      | inl e ↦ let s = both_same a b x.0 x.1 e in rw (s.0, s.1) (listed a b itself itself)
      | inr e ↦ absurd (false≢true e)
    ]
  ]

  pub pairs_bound : length entries + 1 ≤ m * n
  pairs_bound =
      let all : List (ℕ × ℕ) = keys_of entries ++ (a, b) ∷ [] in
      let most : length all ≤ length (pairings first.places second.places) = length-le_from_is_member places_laws all (pairings first.places second.places) (IsDistinct-push places_laws (keys_of entries) (a, b) distinct new_pair) member in
      let count : length all ≡ length (keys_of entries) + 1 = length-append (keys_of entries) ((a, b) ∷ []) in
      let keys : length (keys_of entries) ≡ length entries = length-keys_of entries in
      let product : length (pairings first.places second.places) ≡ m * n = length-pairings first.places second.places ∙ (rw (first.count, second.count) refl) in
      omega arith

-- an entry whose key was absent makes one more
pub one_more : (o : Option Dd) (m n : ℕ) → o ≡ None → n ≡ m + (if is_some o then 0 else 1) → n ≡ m + 1
one_more None m n e h = h
one_more (Some d) m n e h = absurd (cc)

-- no entries keep nothing
pub none_kept : (entries : List ((ℕ × ℕ) × Dd)) → entries ≡ [] → (x : ℕ × ℕ) → lookup (same_places x) entries ≡ None
none_kept [] e x = refl
none_kept (y ∷ ys) e x = absurd (cc)
