-- A test of each number below a bound computes, and says what it tests of each of them.
use Rattle.std.proofs.Common.{◌≡◌, ℕ, ◌<◌, Bool, true, length, get_or, sym, ◌∙◌, subst, arith}
use Rattle.std.specs.List.{list_all, range_with_len}
use Rattle.std.proofs.lemmas.List.Sums.{AllPass-from_list_all}
use Rattle.std.proofs.lemmas.List.FromFn.{get_or-range_with_len, length-range_with_len}

-- what a test says of each number below a bound
pub below_all : (test : ℕ → Bool) (n : ℕ) → list_all test (range_with_len 0 n) ≡ true → (k : ℕ) → k < n → test k ≡ true
below_all test n all k below =
    let inside : k < length (range_with_len 0 n) = subst (λ m. k < m) (sym (length-range_with_len 0 n)) below in
    let there : get_or (range_with_len 0 n) k 0 ≡ k = get_or-range_with_len 0 n k 0 below ∙ omega arith in
    subst (λ m. test m ≡ true) there (AllPass-from_list_all test (range_with_len 0 n) all k 0 inside)
