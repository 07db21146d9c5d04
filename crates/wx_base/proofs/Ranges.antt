-- Lists over the numbers below a bound, one number at a time.
use Rattle.std.proofs.Common.{◌≡◌, ℕ, zero, suc, ◌+◌, cond, [], ◌∷◌, ◌++◌, ◌∙◌, ap, refl, arith}
use Rattle.std.specs.List.{filter}
use Rattle.std.proofs.lemmas.List.Elements.{filter-append}
use Rattle.std.specs.List.{range_with_len}
use Rattle.wx_base.specs.Bits.{is_in}
use Rattle.wx_base.specs.Transfer.{listed_below}

-- one more number
pub range_more : (a n : ℕ) → range_with_len a (n + 1) ≡ range_with_len a n ++ (a + n) ∷ []
range_more a zero = let e : a + zero ≡ a = omega arith in rw e refl
range_more a (suc n) =
    let e : suc n + 1 ≡ suc (n + 1) = omega arith in
    let f : a + 1 + n ≡ a + suc n = omega arith in
    rw e (ap (λ xs. a ∷ xs) (range_more (a + 1) n ∙ ap (λ k. range_with_len (a + 1) n ++ k ∷ []) f))

-- one more number that may be in the list
pub listed_more : (list n : ℕ) → listed_below (n + 1) list ≡ listed_below n list ++ cond (is_in list n) (n ∷ []) []
unfolding listed_below
listed_more list n =
    let e : 0 + n ≡ n = omega arith in
    ap (filter (is_in list)) (range_more 0 n ∙ ap (λ k. range_with_len 0 n ++ k ∷ []) e)
    ∙ filter-append (is_in list) (range_with_len 0 n) (n ∷ [])
