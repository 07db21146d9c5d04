-- The words behind the colons of pairs, one after another.
use denote.Ref.{Bor}
use Rattle.std.proofs.Common.{◌≡◌, ℕ, zero, suc, ◌+◌, ◌*◌, ◌/◌, ◌<◌, ◌≤◌, Bool, true, false, ◌||◌, List, [], ◌∷◌, length, get_or, take, map, refl, sym, ◌∙◌, ap, subst, arith}
use Rattle.std.specs.List.{list_any}
use Rattle.std.proofs.lemmas.List.{get_or-map, length-map, take_all}
use Rattle.std.proofs.lemmas.List.Folds.{list_any_more}
use Rattle.cert_items.specs.Order.{seconds, writes}

pub seconds_length : (words : List (List ℕ)) → length (seconds words) ≡ length words / 2
seconds_length [] = refl
seconds_length (w ∷ []) = refl
seconds_length (w ∷ v ∷ words) = let n = seconds_length words in omega (arith, n)

pub second_at : (words : List (List ℕ)) (k : ℕ) (d : List ℕ) → 2 * k + 1 < length words → get_or (seconds words) k d ≡ get_or words (2 * k + 1) d
second_at [] k d inside = absurd (omega (arith, inside))
second_at (w ∷ []) k d inside = absurd (omega (arith, inside))
second_at (w ∷ v ∷ words) zero d inside = refl
second_at (w ∷ v ∷ words) (suc k) d inside =
    let n : suc (suc (2 * k + 1)) ≡ 2 * suc k + 1 = omega arith in
    second_at words k d (omega (arith, inside)) ∙ ap (λ i. get_or (w ∷ v ∷ words) i d) n

or_assoc : (a b c : Bool) → ((a || b) || c) ≡ (a || (b || c))
or_assoc true b c = refl
or_assoc false b c = refl

pub mark_more : (words : List (Bor (List ℕ))) (at j : ℕ) (old before new : Bool) → 2 * at + 1 < length words → before ≡ (old || list_any (writes j) (take at (seconds (map (λ w. w.now) words))))
    → new ≡ (before || writes j (get_or words (2 * at + 1) (record { ref_ptr = (0, 0); now = [] })).now)
    → new ≡ (old || list_any (writes j) (take (at + 1) (seconds (map (λ w. w.now) words))))
mark_more words at j old before new inside so step =
    let none : Bor (List ℕ) = record { ref_ptr = (0, 0); now = [] } in
    let texts = map (λ w. w.now) words in
    let size : length texts ≡ length words = length-map words (λ w. w.now) in
    let here : get_or (seconds texts) at [] ≡ (get_or words (2 * at + 1) none).now = second_at texts at [] (omega (arith, size, inside)) ∙ get_or-map (λ w. w.now) words (2 * at + 1) none [] inside in
    let many : at < length (seconds texts) = let n = seconds_length texts in omega (arith, n, size, inside) in
    step ∙ ap (λ b. b || writes j (get_or words (2 * at + 1) none).now) so ∙ or_assoc old (list_any (writes j) (take at (seconds texts))) (writes j (get_or words (2 * at + 1) none).now)
    ∙ ap (λ w. old || (list_any (writes j) (take at (seconds texts)) || writes j w)) (sym here) ∙ ap (λ b. old || b) (sym (list_any_more (writes j) (seconds texts) at [] many))

pub mark_all : (words : List (Bor (List ℕ))) (at j : ℕ) (old new : Bool) → length words / 2 ≤ at → new ≡ (old || list_any (writes j) (take at (seconds (map (λ w. w.now) words))))
    → new ≡ (old || list_any (writes j) (seconds (map (λ w. w.now) words)))
mark_all words at j old new over so =
    let texts = map (λ w. w.now) words in
    let size : length texts ≡ length words = length-map words (λ w. w.now) in
    let n = seconds_length texts in
    let all : length (seconds texts) ≤ at = subst (λ k. k ≤ at) (sym (n ∙ ap (λ k. k / 2) size)) over in
    so ∙ ap (λ l. old || list_any (writes j) l) (take_all at (seconds texts) all)
