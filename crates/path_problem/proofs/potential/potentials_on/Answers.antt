use Rattle.std.specs.Global.{Vec}
use Rattle.std.proofs.Common.{ℕ, List, ◌^◌, length, sym, subst}
use Rattle.std.specs.Prelude.{ℤ, pos, ◌≤ℤ◌}
use Rattle.std.specs.List.{All}
use Rattle.path_problem.specs.declared.net.Link.{Link}
use Rattle.path_problem.specs.Net.{AreLinks}
use Rattle.path_problem.specs.Potential.{ArePotentials}
use Rattle.path_problem.specs.Whole.{AreNumbers, IsFirstAbove}
use Rattle.path_problem.specs.Window.{weight_limit}
use Rattle.path_problem.proofs.WholeLemmas.{sound_links, no_gain, are_potentials, is_vertex_large, settled_same, none_below, ok_more}
use Rattle.path_problem.proofs.potential.potentials_on.Goals as goal

pub settle-requires-clause-links : goal.settle-requires-clause-links
settle-requires-clause-links c =
    let F : List Link → Type 0 = λ l. AreLinks l (length c.as_slice-2.result.now) 0 (weight_limit (2 ^ 16)) in
    let G : List ℤ → Type 0 = λ f. AreLinks c.in_ok-links.links.items (length f) 0 (weight_limit (2 ^ 16)) in
    subst F (sym c.as_slice.ensures.value) (subst G (sym c.as_slice-2.ensures) (sound_links c.args.layout.now.graph.now c.args.prices.now c.in_ok-links.links.items c.in_ok-links.ensures c.requires.layout.graph))

pub unreachable-requires : goal.unreachable-requires
unreachable-requires c =
    let s = settled_same c.as_slice.ensures.value c.as_slice-2.ensures c.in-Gains.is c.in_ok-values.ensures in
    no_gain c.args.layout.now.graph.now c.args.prices.now c.in_ok-links.links.items c.in_ok-links.ensures c.requires.closed c.in-Gains.field-0.items s.gain

pub numbers-requires : goal.numbers-requires
numbers-requires c =
    let s = settled_same c.as_slice.ensures.value c.as_slice-2.ensures c.in-Settled.is c.in_ok-values.ensures in
    subst (λ (v : List ℤ). All (λ z. pos 0 ≤ℤ z) v) (sym c.as_slice-in-Settled.ensures.value) (none_below c.in_ok-links.links.items c.args.layout.now.graph.now.finish c.in-Settled.values.items s c.requires.finishes)

pub returns-clause-ok : goal.returns-clause-ok
returns-clause-ok c =
    let s = settled_same c.as_slice.ensures.value c.as_slice-2.ensures c.in-Settled.is c.in_ok-values.ensures in
    ok_more (λ (p : Vec ℕ). AreNumbers c.as_slice-in-Settled.result.now p.items) (λ (p : Vec ℕ). ArePotentials c.args.layout.now.graph.now c.args.prices.now p.items) c.numbers.result
    (λ p n. are_potentials c.args.layout.now.graph.now c.args.prices.now c.in_ok-links.links.items c.in_ok-links.ensures c.requires.layout.graph c.in-Settled.values.items s p.items (subst (λ (v : List ℤ). AreNumbers v p.items) c.as_slice-in-Settled.ensures.value n))
    c.numbers.ensures.ok

pub returns-clause-large : goal.returns-clause-large
returns-clause-large c = λ v e.
    let s = settled_same c.as_slice.ensures.value c.as_slice-2.ensures c.in-Settled.is c.in_ok-values.ensures in
    is_vertex_large c.args.layout.now.graph.now c.args.prices.now c.in_ok-links.links.items c.in_ok-links.ensures c.requires.layout.graph c.in-Settled.values.items s v (subst (λ (z : List ℤ). IsFirstAbove z v) c.as_slice-in-Settled.ensures.value (c.numbers.ensures.large v e))
