-- Numbers that ascend.
use Rattle.std.proofs.Common.{◌≡◌, ◌<◌, ◌≤◌, ℕ, List, length, get_or, inl, inr, arith}
use Rattle.std.proofs.lemmas.Bool.{cases_order, cases_lt}
use Rattle.wx_base.specs.Facts.{AreAscending}

-- ascending numbers do not fall
pub rising : (lines : List ℕ) → AreAscending lines → (i j : ℕ) → i ≤ j → j < length lines → get_or lines i 0 ≤ get_or lines j 0
rising lines a i j le h = elim (cases_order i j) [
  | inl e ↦ rw e (omega arith)
  | inr apart ↦ elim apart [ inl lt ↦ omega (arith, a i j 0 lt h) | inr gt ↦ absurd (omega arith) ]
]

-- a number between those below a place and those from there on is none of them
pub missing : (lines : List ℕ) (line at : ℕ) → ((k : ℕ) → k < at → get_or lines k 0 < line) → ((k : ℕ) → at ≤ k → k < length lines → line < get_or lines k 0)
    → (i : ℕ) → i < length lines → get_or lines i 0 ≡ line → ⊥
missing lines line at low high i h e = elim (cases_lt i at) [ inl lt ↦ omega (arith, low i lt) | inr le ↦ omega (arith, high i le h) ]
