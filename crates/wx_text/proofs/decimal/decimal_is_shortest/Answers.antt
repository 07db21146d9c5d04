use Rattle.std.proofs.Common.{◌≡◌, ℕ, ◌+◌, ◌<◌, ◌≤◌, ◌/◌, ◌%◌, ◌^◌, List, [], ◌∷◌, ◌++◌, length, get_or, refl, arith, length-append, inl, inr}
use Rattle.std.proofs.lemmas.Bool.{cases_lt}
use Rattle.std.proofs.lemmas.Grind.{common_steps}
use Rattle.std.proofs.lemmas.Fmt.{decimal_by_steps_wide, decimal_is_IsNumeral_wide}
use Rattle.std.proofs.lemmas.Str.Parse.{digit_at}
use Rattle.std.specs.Fmt.{decimal}
use Rattle.wx_text.proofs.decimal.decimal_is_shortest.Goals as goal

-- how the spelling of a number begins
record Begins (n : ℕ) (bytes : List ℕ) : Type 0 where
  some : 0 < length bytes
  first : 0 < n → 48 < get_or bytes 0 0
  one : n < 10 → length bytes ≡ 1

more : (n : ℕ) (ds : List ℕ) → 10 ≤ n → Begins (n / 10) ds → Begins n (ds ++ ((48 + n % 10) ∷ []))
more n ds big b = record {
  some = omega (arith, length-append {A = ℕ});
  first = λ h. let f : 48 < get_or ds 0 0 = b.first (omega arith) in let s : 0 < length ds = b.some in grind (arith, common_steps);
  one = λ h. absurd (omega arith);
}

begins : (n : ℕ) → n < 10 ^ 64 → Begins n (decimal n)
begins n small = decimal_by_steps_wide Begins (λ k h. record { some = omega arith; first = λ p. omega arith; one = λ p. refl }) more n small

lone_zero : (n : ℕ) (ds : List ℕ) → Begins n ds → get_or ds 0 0 ≡ 48 → length ds ≡ 1
lone_zero n ds b e = elim (cases_lt 0 n) [ inl p ↦ let f : 48 < get_or ds 0 0 = b.first p in absurd (omega arith) | inr p ↦ b.one (omega arith) ]

pub returns : goal.returns
returns c = let small : c.args._n < 10 ^ 64 = omega arith in
    let numeral = decimal_is_IsNumeral_wide c.args._n small in
    let b = begins c.args._n small in record {
      some = b.some;
      digits = λ k h. digit_at (decimal c.args._n) k numeral.0.1 h;
      value = numeral.1;
      no_leading_zero = λ e. lone_zero c.args._n (decimal c.args._n) b e;
    }
