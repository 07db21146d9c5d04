use Rattle.std.proofs.Common.{arith, length-append, length-drop}
use Rattle.std.proofs.lemmas.List.{length-take}
use Rattle.std.specs.Prelude.{ℤ}
use Rattle.path_problem.proofs.CheckLemmas.{next_window}
use Rattle.path_problem.proofs.inequalities.bad_arc.Goals as goal

pub loop-window-preserved : goal.loop-window-preserved
loop-window-preserved c =
    next_window c.args.graph.now c.args.prices.now c.args.potentials.now c.loop-window.window _ c.loop-window.invariant c.in-None.ensures (λ a h l. omega (arith, length-take {A = ℤ}, length-append {A = ℤ}, length-drop {A = ℤ}, c.min-size.ensures, c.min-size.array_long, c.full_weights.auto.weights, c.len-count.ensures))
