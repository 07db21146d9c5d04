-- The names in a table that no row has, as a walk over the table finds them.
use Rattle.std.proofs.Common.{◌≡◌, ℕ, Bool, true, false, not, List, [], ◌∷◌, ◌++◌, map, refl, ap, sym, ◌∙◌, append_assoc, append-nil, string_bytes, inl, inr}
use Rattle.std.specs.Prelude.{filter}
use Rattle.std.specs.List.{list_any}
use Rattle.std.proofs.lemmas.Bool.{cases_Bool}
use Rattle.toml.specs.Data.{table}
use Rattle.toml.specs.View.{members_view}
use Rattle.toml.proofs.Views.{Entry}
use Rattle.machine_desc.specs.declared.keys.Key.{Key}
use Rattle.machine_desc.specs.Keys.{row_of, is_row}
use Rattle.machine_desc.specs.Document.{dotted, member_names, unknown_in}

pub any_map : {A B : Type 0} (p : B → Bool) (g : A → B) (xs : List A) → list_any p (map g xs) ≡ list_any (λ x. p (g x)) xs
any_map p g [] = refl
any_map p g (x ∷ xs) = rw (any_map p g xs)

-- one more at the end
kept_last : (test : List ℕ → Bool) (f : List ℕ → List ℕ) (xs : List (List ℕ)) (k : List ℕ) → map f (filter test (xs ++ k ∷ [])) ≡ map f (filter test xs) ++ map f (filter test (k ∷ []))
kept_last test f [] k = refl
kept_last test f (x ∷ xs) k = elim (cases_Bool (test x)) [
  | inl passes ↦ rw (passes, kept_last test f xs k)
  | inr fails ↦ rw (fails, kept_last test f xs k)
]

names_last : (done : List Entry) (e : Entry) → member_names (members_view (done ++ e ∷ [])) ≡ member_names (members_view done) ++ string_bytes e.0 ∷ []
names_last [] e = refl
names_last (d ∷ done) e = ap (λ names. string_bytes d.0 ∷ names) (names_last done e)

-- whether a name is to be told
abbrev told : List ℕ → List Key → List ℕ → Bool
told name ks key = not (list_any (is_row name key) (map row_of ks))

unknown_last : (prefix name : List ℕ) (ks : List Key) (done : List Entry) (e : Entry)
    → unknown_in prefix name (map row_of ks) (table (members_view (done ++ e ∷ []))) ≡ unknown_in prefix name (map row_of ks) (table (members_view done)) ++ map (dotted prefix) (filter (told name ks) (string_bytes e.0 ∷ []))
unknown_last prefix name ks done e =
    ap (λ (names : List (List ℕ)). map (dotted prefix) (filter (told name ks) names)) (names_last done e)
    ∙ kept_last (told name ks) (dotted prefix) (member_names (members_view done)) (string_bytes e.0)

-- a name that no row has
pub unknown_more : (prefix name : List ℕ) (ks : List Key) (done : List Entry) (e : Entry) (key : List ℕ) (old now new : List (List ℕ))
    → (text : List ℕ) → text ≡ string_bytes e.0 → list_any (λ k. is_row name text (row_of k)) ks ≡ false → key ≡ dotted prefix (string_bytes e.0)
    → now ≡ old ++ unknown_in prefix name (map row_of ks) (table (members_view done)) → new ≡ now ++ key ∷ []
    → new ≡ old ++ unknown_in prefix name (map row_of ks) (table (members_view (done ++ e ∷ [])))
unknown_more prefix name ks done e key old now new text same absent written past step =
    let test : told name ks (string_bytes e.0) ≡ true = ap not (any_map (is_row name (string_bytes e.0)) row_of ks ∙ ap (λ (t : List ℕ). list_any (λ k. is_row name t (row_of k)) ks) (sym same) ∙ absent) in
    let last : map (dotted prefix) (filter (told name ks) (string_bytes e.0 ∷ [])) ≡ dotted prefix (string_bytes e.0) ∷ [] = rw test in
    step ∙ ap (λ (k : List ℕ). now ++ k ∷ []) written ∙ ap (λ (xs : List (List ℕ)). xs ++ dotted prefix (string_bytes e.0) ∷ []) past
    ∙ append_assoc old (unknown_in prefix name (map row_of ks) (table (members_view done))) (dotted prefix (string_bytes e.0) ∷ [])
    ∙ ap (λ (xs : List (List ℕ)). old ++ (unknown_in prefix name (map row_of ks) (table (members_view done)) ++ xs)) (sym last)
    ∙ ap (λ (xs : List (List ℕ)). old ++ xs) (sym (unknown_last prefix name ks done e))

-- a name that a row has
pub known_more : (prefix name : List ℕ) (ks : List Key) (done : List Entry) (e : Entry) (old now : List (List ℕ))
    → (text : List ℕ) → text ≡ string_bytes e.0 → list_any (λ k. is_row name text (row_of k)) ks ≡ true
    → now ≡ old ++ unknown_in prefix name (map row_of ks) (table (members_view done))
    → now ≡ old ++ unknown_in prefix name (map row_of ks) (table (members_view (done ++ e ∷ [])))
known_more prefix name ks done e old now text same present past =
    let test : told name ks (string_bytes e.0) ≡ false = ap not (any_map (is_row name (string_bytes e.0)) row_of ks ∙ ap (λ (t : List ℕ). list_any (λ k. is_row name t (row_of k)) ks) (sym same) ∙ present) in
    let last : map (dotted prefix) (filter (told name ks) (string_bytes e.0 ∷ [])) ≡ [] = rw test in
    past ∙ ap (λ (xs : List (List ℕ)). old ++ xs)
    (sym (append-nil (unknown_in prefix name (map row_of ks) (table (members_view done))))
    ∙ ap (λ (xs : List (List ℕ)). unknown_in prefix name (map row_of ks) (table (members_view done)) ++ xs) (sym last)
    ∙ sym (unknown_last prefix name ks done e))
