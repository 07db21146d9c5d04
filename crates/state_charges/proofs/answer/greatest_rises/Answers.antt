use Rattle.std.proofs.Common.{◌≡◌, ℕ, List, length, drop, replicate, ap, subst, sym, ◌∙◌}
use Rattle.std.proofs.lemmas.List.{length-replicate, take_at}
use Rattle.state_charges.specs.Raising.{IsEarly, IsEdgeRise, Raises}
use Rattle.state_charges.proofs.answer.greatest_rises.Goals as goal

pub raise_edges-requires-clause-long : goal.raise_edges-requires-clause-long
raise_edges-requires-clause-long c =
    ap (λ (xs : List ℕ). length xs) (c.as_mut_slice.ensures.value ∙ c.in_ok-amounts.ensures) ∙ (length-replicate {A = ℕ} c.len.result 0 ∙ c.len.ensures)

pub raise_edges-requires-clause-right : goal.raise_edges-requires-clause-right
raise_edges-requires-clause-right c =
    let s = c.args.subject.now in
    c.new-work.ensures c.args.table.now s.unfolded.now s.machine.now

pub returns-clause-raises : goal.returns-clause-raises
returns-clause-raises c =
    let s = c.args.subject.now in
    let groups = c.args.places.now.groups in
    let new = c.raise_edges.new.amounts in
    let long : length new ≡ c.in_ok-amounts.amounts.len = c.raise_edges.auto.amounts ∙ c.as_mut_slice.ensures.len in
    let zeros : c.as_mut_slice.result.now ≡ replicate (length groups) 0 =
    c.as_mut_slice.ensures.value ∙ (c.in_ok-amounts.ensures ∙ ap (λ (n : ℕ). replicate n 0) c.len.ensures) in
    subst (λ (xs : List ℕ). Raises (IsEarly (IsEdgeRise s.unfolded.now s.machine.now s.classes.now s.vectors.now groups) (length s.unfolded.now.edges)) (replicate (length groups) 0) xs)
    (sym (take_at new (drop (length new) c.in_ok-amounts.amounts.items) c.in_ok-amounts.amounts.len long))
    (subst (λ (xs : List ℕ). Raises (IsEarly (IsEdgeRise s.unfolded.now s.machine.now s.classes.now s.vectors.now groups) (length s.unfolded.now.edges)) xs new) zeros
    c.in_ok-raise_edges.ensures.raises)
