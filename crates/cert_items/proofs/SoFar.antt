-- Texts read one after another, each of which is the text of one value alone.
use Rattle.std.proofs.Common.{◌≡◌, ℕ, ◌+◌, ◌<◌, List, [], ◌∷◌, ◌++◌, length, get_or, take, map, All, refl, sym, ◌∙◌, ap, arith}
use Rattle.std.proofs.lemmas.List.{take_more, take-map, get_or-map, length-map, map-append, take_all, length-take-le, take-take, get_or-take}
use Rattle.std.proofs.lemmas.List.Elements.{All-push, All-nil, All-take, All-get_or}

-- the first of the texts are those of the list, and of no other list of such values
pub record ReadSoFar {X Y : Type 0} (f : X → Y) (P : X → Type 0) (texts : List Y) (i : ℕ) (list : List X) : Type 0 where
  pub sound : take i texts ≡ map f list
  pub fits : All P list
  pub one : (xs : List X) → All P xs → take i texts ≡ map f xs → xs ≡ list

nothing_of : {X Y : Type 0} (f : X → Y) (xs : List X) → [] ≡ map f xs → xs ≡ []
nothing_of f [] e = refl
nothing_of f (x ∷ xs) e = absurd (cc)

pub read_nothing : {X Y : Type 0} (f : X → Y) (P : X → Type 0) (texts : List Y) → ReadSoFar f P texts 0 []
read_nothing f P texts = record { sound = refl; fits = All-nil P; one = λ xs all e. nothing_of f xs e }

-- one text more, which stands at its place
pub read_more : {X Y : Type 0} (f : X → Y) (P : X → Type 0) (texts : List Y) (i : ℕ) (list : List X) (v : X) → ReadSoFar f P texts i list
    → i < length texts → ((d : Y) → get_or texts i d ≡ f v) → P v → ((w : X) → P w → f v ≡ f w → w ≡ v) → ReadSoFar f P texts (i + 1) (list ++ v ∷ [])
read_more f P texts i list v so_far within here fits alone =
    let grown : take (i + 1) texts ≡ take i texts ++ f v ∷ [] = take_more texts i (f v) within ∙ ap (λ t. take i texts ++ t ∷ []) (here (f v)) in
    record {
      sound = grown ∙ ap (λ front. front ++ f v ∷ []) so_far.sound ∙ sym (map-append f list (v ∷ []));
      fits = All-push P list v so_far.fits fits;
      one = λ xs all e.
          let size : length xs ≡ i + 1 = sym (length-map xs f) ∙ ap length (sym e) ∙ length-take-le (i + 1) texts (omega arith) in
          let front : take i texts ≡ map f (take i xs) = sym (take-take i (i + 1) texts (omega arith)) ∙ ap (take i) e ∙ take-map f i xs in
          let front_is : take i xs ≡ list = so_far.one (take i xs) (All-take P i xs all) front in
          let last : f v ≡ f (get_or xs i v) = sym (here (f v)) ∙ sym (get_or-take (i + 1) texts i (f v) (omega arith)) ∙ ap (λ l. get_or l i (f v)) e ∙ get_or-map f xs i v (f v) (omega arith) in
          let last_is : get_or xs i v ≡ v = alone (get_or xs i v) (All-get_or P xs i v (omega arith) all) last in
          sym (take_all (i + 1) xs (omega arith)) ∙ take_more xs i v (omega arith) ∙ ap (λ front. front ++ get_or xs i v ∷ []) front_is ∙ ap (λ x. list ++ x ∷ []) last_is;
    }

-- no list has these texts if one of them is none of a value
pub none_has : {X Y : Type 0} (f : X → Y) (P : X → Type 0) (texts : List Y) (i : ℕ) (t : Y) (xs : List X) → i < length texts → ((d : Y) → get_or texts i d ≡ t) → ((w : X) → P w → t ≡ f w → ⊥) → All P xs → texts ≡ map f xs → ⊥
none_has f P texts i t [] within here none all e = let size = ap length e in absurd (omega arith)
none_has f P texts i t (x ∷ more) within here none all e =
    let size : length (x ∷ more) ≡ length texts = sym (length-map (x ∷ more) f) ∙ ap length (sym e) in
    none (get_or (x ∷ more) i x) (All-get_or P (x ∷ more) i x (omega arith) all)
    (sym (here t) ∙ ap (λ l. get_or l i t) e ∙ get_or-map f (x ∷ more) i x t (omega arith))
