use Rattle.std.proofs.Common.{List, length, sym, ap, subst, ◌∙◌}
use Rattle.std.specs.List.{slice_get}
use Rattle.cache_solve.specs.Systems.{AreRaised, IsLeast}
use Rattle.cache_solve.proofs.Lists.{written}
use Rattle.cache_solve.proofs.Solving.{least_of}
use Rattle.cache_solve.proofs.solver.solve.Goals as goal

pub settle-requires-clause-alike : goal.settle-requires-clause-alike
settle-requires-clause-alike g c = record { each = λ n s e. (c.in_ok-states.ensures.each.each n s (ap (λ (xs : List g.row.S.Denot). slice_get xs n) (sym c.as_mut_slice.ensures.value) ∙ e)).of }

pub returns-clause-least : goal.returns-clause-least
returns-clause-least g c =
    let s = g.S.State in
    let t = c.order.ensures in
    let f = c.args.flow.now in
    let e = c.in_ok-settle.ensures in
    let v = c.as_mut_slice.ensures.value in
    let raised = subst (λ (xs : List g.row.S.Denot). AreRaised (s.Covers f.lines) (s.accessed c.args.shape) s.known f c.args.moves.now xs c.settle.new.states) v e.raised in
    let is = written c.in_ok-states.states c.settle.new.states raised.long in
    subst (λ (xs : List g.row.S.Denot). IsLeast s.known s.Covers s.accessed s.start s.IsFair c.args.shape f c.args.moves.now c.args.first xs) (sym is)
    (least_of s.known s.shape_of s.lines_of s.IsWithin s.Covers s.accessed s.start s.IsFair c.args.shape f c.args.moves.now c.args.first c.in_ok-states.states.items c.settle.new.states
    (t.same f.lines) (t.joins f.lines) c.in_ok-states.ensures.long c.in_ok-states.ensures.each raised e.settled)
