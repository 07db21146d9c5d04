use Rattle.std.proofs.Common.{◌∙◌, ◌≡◌, ◌<◌, ◌||◌, Bool, false, true, not, [], ap, sym, length, get_or, ltb, arith}
use Rattle.std.specs.List.{filter}
use Rattle.std.proofs.lemmas.List.{get_or_default}
use Rattle.std.proofs.lemmas.List.Sums.{length-filter}
use Rattle.cache_pers.specs.Rows.{rows_of}
use Rattle.cache_pers.specs.Stays.{is_set_at}
use Rattle.cache_pers.proofs.RowLemmas.{count_of, row_at}
use Rattle.cache_pers.proofs.States.{kept_at, kept_absent}
use Rattle.cache_pers.proofs.younger.Younger.kept.Goals as goal

pub returns-then-not-index : goal.returns-then-not-index
returns-then-not-index c =
    let found = rw c.as_slice.ensures.value at c.in-Some.ensures in
    let held = c.self.inside.held.items in
    let known : is_set_at c.self.inside.known.items c.in-Some.at ≡ false =
    sym (c.index.ensures ∙ get_or_default c.self.inside.known.items c.in-Some.at c.index.result.now false (omega (arith, found.0, c.self.invariant.known))) ∙ c.if-not-index.true in
    rw (← c.self.view_is) (ap not c.if-not-index.true
    ∙ sym (kept_at c.self.inside.shape c.self.inside.lines.items c.self.inside.known.items (rows_of held) c.args.line c.in-Some.at
    c.self.invariant.ascending found.0 found.1 c.self.invariant.known c.self.invariant.held c.self.invariant.each
    ∙ ap (λ b. not b || ltb (length (filter (λ b. b) (get_or (rows_of held) c.in-Some.at []))) c.self.inside.shape.ways) known))

pub returns-else-not-index : goal.returns-else-not-index
returns-else-not-index c =
    let found = rw c.as_slice.ensures.value at c.in-Some.ensures in
    let held = c.self.inside.held.items in
    let known : is_set_at c.self.inside.known.items c.in-Some.at ≡ true =
    sym (c.index.ensures ∙ get_or_default c.self.inside.known.items c.in-Some.at c.index.result.now false (omega (arith, found.0, c.self.invariant.known))) ∙ c.if-not-index.false in
    let within : c.in-Some.at < length held = omega (arith, found.0, count_of held, c.self.invariant.held) in
    let row : get_or (rows_of held) c.in-Some.at [] ≡ c.as_slice-else-not-index.result.now
    = row_at held c.in-Some.at c.index-else-not-index.result.now within c.index-else-not-index.ensures ∙ sym c.as_slice-else-not-index.ensures.value in
    let count : length (filter (λ (b : Bool). b) (get_or (rows_of held) c.in-Some.at [])) ≡ c.count.result
    = ap (λ xs. length (filter (λ (b : Bool). b) xs)) row ∙ length-filter (λ (b : Bool). b) c.as_slice-else-not-index.result.now ∙ sym c.count.ensures in
    rw (← c.self.view_is) (sym (kept_at c.self.inside.shape c.self.inside.lines.items c.self.inside.known.items (rows_of held) c.args.line c.in-Some.at
    c.self.invariant.ascending found.0 found.1 c.self.invariant.known c.self.invariant.held c.self.invariant.each
    ∙ ap (λ b. not b || ltb (length (filter (λ b. b) (get_or (rows_of held) c.in-Some.at []))) c.self.inside.shape.ways) known
    ∙ ap (λ n. ltb n c.self.inside.shape.ways) count))

pub returns-in-None : goal.returns-in-None
returns-in-None c =
    rw (← c.self.view_is) (sym (kept_absent c.self.inside.shape c.self.inside.lines.items c.self.inside.known.items (rows_of c.self.inside.held.items) c.args.line
    (rw c.as_slice.ensures.value at c.in-None.ensures)))
