-- The sets of a cache before and after an access.
use Rattle.std.proofs.Common.{◌≡◌, ℕ, ◌<◌, ◌%◌, [], length, refl, arith, get_or-set_same, get_or-set_other}
use Rattle.wx_base.specs.declared.machine.Shape.{Shape}
use Rattle.wx_base.specs.Machine.{IsShape}
use Rattle.wx_base.specs.Cache.{Lines, IsCache, set_of, lines_with, touched, accessed}

set_within : (sets line n : ℕ) → 0 < sets → n ≡ sets → line % sets < n
set_within sets line n h e = omega arith

-- the set of a line is one of the cache
pub within : (shape : Shape) (cache : Lines) (line : ℕ) → IsShape shape → IsCache shape cache → set_of shape line < length cache
within shape cache line s c = set_within shape.sets line (length cache) (omega (arith, s.sets)) c.sets

-- the accessed line's set
pub lines_of_same : (shape : Shape) (cache : Lines) (line other : ℕ) → IsShape shape → IsCache shape cache → set_of shape other ≡ set_of shape line
    → lines_with shape (accessed shape cache line) other ≡ touched shape.ways (lines_with shape cache other) line
lines_of_same shape cache line other s c e =
    let h : set_of shape line < length cache = within shape cache line s c in
    rw e (rw get_or-set_same refl)

-- another set
pub lines_of_other : (shape : Shape) (cache : Lines) (line other : ℕ) → (set_of shape other ≡ set_of shape line → ⊥)
    → lines_with shape (accessed shape cache line) other ≡ lines_with shape cache other
lines_of_other shape cache line other ne = get_or-set_other cache (set_of shape line) (set_of shape other) (touched shape.ways (lines_with shape cache line) line) [] ne
