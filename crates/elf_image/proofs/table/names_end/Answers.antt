use Rattle.std.proofs.Common.{◌≢◌, ℕ, ◌<◌, ◌≤◌, List, length, slice_index, inl, inr, arith}
use Rattle.std.proofs.lemmas.Bool.{cases_lt}
use Rattle.elf_image.specs.Causes.{EndsWithin}
use Rattle.elf_image.proofs.table.names_end.Goals as goal

-- a name that ends begins no later than at the last zero
begins_by : (table : List ℕ) (name last : ℕ) → ((k : ℕ) → last < k → k < length table → slice_index table k ≢ 0) → EndsWithin table name → name ≤ last
begins_by table name last none w =
    elim (cases_lt last w.0) [ inl h ↦ absurd (none w.0 h w.2 w.3) | inr h ↦ omega (arith, w.1, h) ]

pub returns-in-Some : goal.returns-in-Some
returns-in-Some c = (
  λ t i h. (c.in-Some.last, c.names_begin_by.ensures.0 t i h, c.in-Some.ensures.0, c.in-Some.ensures.1),
  λ names. c.names_begin_by.ensures.1 (λ i h. begins_by c.args.table.now _ c.in-Some.last c.in-Some.ensures.2 (names i h)),
)
