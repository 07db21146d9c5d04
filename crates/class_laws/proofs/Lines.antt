-- Instructions that stand one behind the other: those between two of one cache line are of the line too.
use Rattle.std.proofs.Common.{◌≡◌, ℕ, zero, suc, ◌+◌, ◌*◌, ◌/◌, ◌%◌, ◌^◌, ◌<◌, ◌≤◌, true, ◌==◌, inl, inr, arith}
use Rattle.std.proofs.Math.Nat.{div-mul-le_self, div-le_self}
use Rattle.std.proofs.lemmas.Bool.{cases_lt, cases_Bool, false≢true, eqb-true}
use Rattle.std.proofs.lemmas.Nat.{le-div}
use Rattle.wx_base.specs.declared.machine.Machine.{Machine}
use Rattle.wx_base.specs.Machine.{IsShape}
use Rattle.flow_block.specs.Blocks.{line_at, has_line}
use Rattle.flow_block.specs.Sites.{behind}

-- numbers that rise a little do so modulo 2^32, or the first is near the end and the last at the begin
pub data Wraps (x y z : ℕ) : Type 0 where
  rise : x ≤ y → y ≤ z → Wraps x y z
  wrap : 2 ^ 32 ≤ x + 128 → z < 128 → Wraps x y z

pub wraps : (x y z : ℕ) → x ≤ y → y ≤ z → z ≤ x + 128 → Wraps (x % 2 ^ 32) (y % 2 ^ 32) (z % 2 ^ 32)
wraps x y z less more near = elim (cases_lt (z % 2 ^ 32) (x % 2 ^ 32)) [
  | inl over ↦ wrap (omega arith) (omega arith)
  | inr up ↦ rise (omega arith) (omega arith)
]

div_rises : (x y d : ℕ) → 0 < d → x ≤ y → x / d ≤ y / d
div_rises x y d some less = le-div (x / d) y d some (omega (arith, div-mul-le_self x d))

-- a quotient that the first and the last have, the one between has too
squeezed : (x y z d : ℕ) → 0 < d → d ≤ 256 → Wraps x y z → x / d ≡ z / d → y / d ≡ z / d
squeezed x y z d some few (rise less more) same = omega (arith, div_rises x y d some less, div_rises y z d some more)
squeezed x y z d some few (wrap far near) same = absurd (omega (arith, le-div 1000 x d some (omega arith), div-le_self z d))

module _ (machine : Machine) (shape : IsShape machine.shape) (start : ℕ) where
  between : (j k : ℕ) → j ≤ k → k ≤ 30 → line_at machine start j ≡ line_at machine start (suc k) → line_at machine start k ≡ line_at machine start (suc k)
  between j k less few same =
      squeezed (behind start j) (behind start k) (behind start (suc k)) machine.shape.line (omega (arith, shape.line)) (omega (arith, shape.line))
      (wraps (start + 4 * j) (start + 4 * k) (start + 4 * suc k) (omega arith) (omega arith) (omega arith)) same

  -- an instruction before a place has the line
  record HasBefore (before line : ℕ) : Type 0 where
    place : ℕ
    less : place < before
    same : line_at machine start place ≡ line

  has_before : (before line : ℕ) → has_line machine start before line ≡ true → HasBefore before line
  has_before zero line h = absurd (false≢true h)
  has_before (suc before) line h = elim (cases_Bool (line_at machine start before == line)) [
    | inl e ↦ record { place = before; less = omega arith; same = eqb-true (line_at machine start before) line e }
    | inr e ↦
        let rest = has_before before line (rw e at h) in
        record { place = rest.place; less = omega (arith, rest.less); same = rest.same }
  ]

  -- an instruction that is not the first of its line in a block has the line of the one before it
  pub line_before : (k : ℕ) → k ≤ 30 → has_line machine start (suc k) (line_at machine start (suc k)) ≡ true
      → line_at machine start k ≡ line_at machine start (suc k)
  line_before k few h =
      let there = has_before (suc k) (line_at machine start (suc k)) h in
      between there.place k (omega (arith, there.less)) few there.same
