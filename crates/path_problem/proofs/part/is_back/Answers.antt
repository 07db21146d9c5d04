use Rattle.std.proofs.Common.{◌≡◌, ◌+◌, ◌∙◌, ap, ℕ, List, get_or}
use Rattle.std.specs.Prelude.{nat_eq}
use Rattle.path_graph.proofs.TestedLemmas.{owner_tells}
use Rattle.path_problem.proofs.part.is_back.Goals as goal

pub returns : goal.returns
returns c =
    let p = c.args.part.now in
    let owners = p.layout.now.owners.items in
    let a = c.args.number in
    let is : c.number_at.result ≡ get_or owners a 0 = c.number_at.ensures ∙ ap (λ (xs : List ℕ). get_or xs a 0) c.as_slice.ensures.value in
    ap (λ n. nat_eq n (p.number + 1)) is ∙ owner_tells p.layout.now.graph.now owners p.number a c.requires.layout.owners c.requires.loops
