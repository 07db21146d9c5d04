use Rattle.std.proofs.Common.{List, ℕ, length, subst}
use Rattle.std.specs.Global.{Vec}
use Rattle.std.specs.Prelude.{Option, IfSome}
use Rattle.path_graph.specs.Tested.{AreOwners, AreFalling}
use Rattle.path_graph.proofs.TestedLemmas.{is_graph_now}
use Rattle.path_graph.proofs.conditions.is_graph.Goals as goal

pub returns-in_ok-ranks-in-Some : goal.returns-in_ok-ranks-in-Some
returns-in_ok-ranks-in-Some c = λ e.
    let g = c.args.graph.now in
    let P : Option (Vec ℕ) → Type 0 = λ o. IfSome o (λ owners. AreOwners g (length g.loops) owners.items) in
    let own = subst P c.in-Some.is c.in_ok-owners.ensures.some in
    let fall = subst (λ (os : List ℕ). AreFalling g os c.as_slice-in-Some-2.result.now) c.as_slice-in-Some.ensures.value (c.are_falling.ensures e) in
    is_graph_now g c.in-Some.owners.items c.as_slice-in-Some-2.result.now (c.in_ok-are_sound.ensures c.if-not-branch.false) own fall (c.has_ends.ensures c.if-not-has_ends.false)

pub arcs_from-requires : goal.arcs_from-requires
arcs_from-requires c = record { each = (c.has_ends.ensures c.if-not-has_ends.false).sources }
