-- Lists and tests over the numbers below a bound, one number at a time.
use Rattle.std.proofs.Common.{◌≡◌, ℕ, ◌+◌, ◌<◌, Bool, true, ◌||◌, List, [], ◌∷◌, ◌++◌, get_or, sym, ◌∙◌, ap, subst, arith}
use Rattle.wx_base.proofs.Ranges.{range_more}
use Rattle.std.specs.List.{list_any, range_with_len, flat_map}
use Rattle.std.proofs.lemmas.List.Folds.{list_any_at}
use Rattle.std.proofs.lemmas.List.FromFn.{get_or-range_with_len, length-range_with_len}
use Rattle.std.proofs.lemmas.Grind.{flat_map-append}
use Rattle.std.proofs.lemmas.List.Folds.{list_any-append}
use Rattle.std.proofs.lemmas.List.{append-nil}

pub texts_more : (text : ℕ → List ℕ) (n : ℕ) →
    flat_map text (range_with_len 0 (n + 1)) ≡ flat_map text (range_with_len 0 n) ++ text n
texts_more text n =
    let e : 0 + n ≡ n = omega arith in
    let g : range_with_len 0 (n + 1) ≡ range_with_len 0 n ++ n ∷ [] = range_more 0 n ∙ ap (λ k. range_with_len 0 n ++ k ∷ []) e in
    ap (flat_map text) g ∙ flat_map-append text (range_with_len 0 n) (n ∷ [])
    ∙ ap (λ last. flat_map text (range_with_len 0 n) ++ last) (append-nil (text n))

pub any_more : (test : ℕ → Bool) (n : ℕ) →
    list_any test (range_with_len 0 (n + 1)) ≡ (list_any test (range_with_len 0 n) || test n)
any_more test n =
    let e : 0 + n ≡ n = omega arith in
    let g : range_with_len 0 (n + 1) ≡ range_with_len 0 n ++ n ∷ [] = range_more 0 n ∙ ap (λ k. range_with_len 0 n ++ k ∷ []) e in
    ap (list_any test) g ∙ list_any-append test (range_with_len 0 n) (n ∷ []) ∙ grind arith

pub any_found : (test : ℕ → Bool) (n i : ℕ) → i < n → test i ≡ true → list_any test (range_with_len 0 n) ≡ true
any_found test n i below holds =
    let e : get_or (range_with_len 0 n) i 0 ≡ i = get_or-range_with_len 0 n i 0 below ∙ omega arith in
    list_any_at test (range_with_len 0 n) i 0 (subst (λ k. i < k) (sym (length-range_with_len 0 n)) below)
    (ap test e ∙ holds)
