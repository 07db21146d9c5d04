-- What is gathered along a list or an array, one element after another.
use Rattle.std.proofs.Common.{◌≡◌, ℕ, ◌+◌, ◌<◌, zero, suc, List, [], ◌∷◌, ◌++◌, length, take, map, get_or, refl, ap, sym, ◌∙◌, arith, append_assoc, append-nil, add-one}
use Rattle.toml.specs.Data.{Data}
use Rattle.toml.specs.View.{view, items_view}
use Rattle.toml.specs.declared.value.Value.{Value}
use Rattle.machine_desc.specs.Document.{gathered, gathered_items}

-- over the images of elements
pub gathered_map : {A B C : Type 0} (f : B → List C) (g : A → B) (xs : List A) → gathered f (map g xs) ≡ gathered (λ x. f (g x)) xs
gathered_map f g [] = refl
gathered_map f g (x ∷ xs) = ap (λ rest. f (g x) ++ rest) (gathered_map f g xs)

-- one element more
more : {A B : Type 0} (f : A → List B) (xs : List A) (i : ℕ) (d : A) → i < length xs → gathered f (take (suc i) xs) ≡ gathered f (take i xs) ++ f (get_or xs i d)
more f [] i d h = absurd (omega arith)
more f (x ∷ xs) zero d h = append-nil (f x)
more f (x ∷ xs) (suc i) d h = ap (λ rest. f x ++ rest) (more f xs i d (omega arith)) ∙ sym (append_assoc (f x) (gathered f (take i xs)) (f (get_or xs i d)))

pub gathered_more : {A B : Type 0} (f : A → List B) (xs : List A) (i : ℕ) (d : A) → i < length xs → gathered f (take (i + 1) xs) ≡ gathered f (take i xs) ++ f (get_or xs i d)
gathered_more f xs i d h = rw add-one (more f xs i d h)

zero_sum : (i : ℕ) → 0 + i ≡ i
zero_sum i = omega arith

same_sum : (k : ℕ) → k ≡ k + 0
same_sum k = omega arith

shifted : (k i : ℕ) → suc k + i ≡ k + suc i
shifted k i = omega arith

-- one element of an array more, where the first has the place k
more_items : {B : Type 0} (f : ℕ → Data → List B) (k : ℕ) (vs : List Value) (i : ℕ) (d : Value) → i < length vs
    → gathered_items f k (items_view (take (suc i) vs)) ≡ gathered_items f k (items_view (take i vs)) ++ f (k + i) (view (get_or vs i d))
more_items f k [] i d h = absurd (omega arith)
more_items f k (v ∷ vs) zero d h = append-nil (f k (view v)) ∙ ap (λ n. f n (view v)) (same_sum k)
more_items f k (v ∷ vs) (suc i) d h =
    ap (λ rest. f k (view v) ++ rest) (more_items f (suc k) vs i d (omega arith) ∙ ap (λ n. gathered_items f (suc k) (items_view (take i vs)) ++ f n (view (get_or vs i d))) (shifted k i))
    ∙ sym (append_assoc (f k (view v)) (gathered_items f (suc k) (items_view (take i vs))) (f (k + suc i) (view (get_or vs i d))))

-- one element of an array more
pub items_more : {B : Type 0} (f : ℕ → Data → List B) (vs : List Value) (i : ℕ) (d : Value) → i < length vs
    → gathered_items f 0 (items_view (take (i + 1) vs)) ≡ gathered_items f 0 (items_view (take i vs)) ++ f i (view (get_or vs i d))
items_more f vs i d h = rw add-one (more_items f 0 vs i d h ∙ ap (λ n. gathered_items f 0 (items_view (take i vs)) ++ f n (view (get_or vs i d))) (zero_sum i))

-- a list that grew by what one element more gives
pub grown : {B : Type 0} (f : ℕ → Data → List B) (vs : List Value) (i : ℕ) (v : Value) (old now new : List B) → i < length vs → v ≡ get_or vs i v
    → now ≡ old ++ gathered_items f 0 (items_view (take i vs)) → new ≡ now ++ f i (view v) → new ≡ old ++ gathered_items f 0 (items_view (take (i + 1) vs))
grown {B = B} f vs i v old now new h is past step =
    step ∙ ap (λ (xs : List B). xs ++ f i (view v)) past ∙ append_assoc old (gathered_items f 0 (items_view (take i vs))) (f i (view v))
    ∙ ap (λ (w : Value). old ++ (gathered_items f 0 (items_view (take i vs)) ++ f i (view w))) is
    ∙ ap (λ (xs : List B). old ++ xs) (sym (items_more f vs i v h))
