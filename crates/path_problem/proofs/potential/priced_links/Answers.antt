use Rattle.std.proofs.Common.{List, ℕ, sym, subst}
use Rattle.std.specs.List.{Contains}
use Rattle.path_problem.proofs.potential.priced_links.Goals as goal

pub links_of-requires-clause-each : goal.links_of-requires-clause-each
links_of-requires-clause-each c = λ a h.
    subst (λ (order : List ℕ). Contains order a) (sym c.as_slice.ensures.value) (c.in_ok-order.ensures.each a h)
