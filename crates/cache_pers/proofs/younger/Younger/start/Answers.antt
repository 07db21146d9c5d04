use Rattle.std.proofs.Common.{length, ap, ◌∙◌}
use Rattle.cache_pers.specs.Stays.{is_set_at, is_set_in}
use Rattle.cache_pers.specs.Rows.{rows_of}
use Rattle.cache_pers.proofs.States.{nothing_known, replicate_clear, rows_clear}
use Rattle.cache_pers.proofs.younger.Younger.start.Goals as goal

pub returns-clause-unknown : goal.returns-clause-unknown
returns-clause-unknown c =
    nothing_known c.in_ok-lines.lines.items c.in_ok-known.known.items (rows_of c.in_ok-held.held.items)
    (λ k. ap (λ entries. is_set_at entries k) (c.in_ok-known.ensures.items_if_clones_equal (λ y e. e)) ∙ replicate_clear (length c.args.lines.now) k)
    (λ i k. ap (λ rows. is_set_in rows i k) c.in_ok-held.ensures ∙ rows_clear (length c.args.lines.now) (length c.args.lines.now) i k)
