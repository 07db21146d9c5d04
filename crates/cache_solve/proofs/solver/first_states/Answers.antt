use Rattle.std.proofs.Common.{ℕ, List, subst, ◌==◌}
use Rattle.cache_solve.specs.Systems.{IsFirst}
use Rattle.cache_solve.proofs.Solving.{first_more}
use Rattle.cache_solve.proofs.solver.first_states.Goals as goal

pub loop-node-preserved : goal.loop-node-preserved
loop-node-preserved g c =
    let s = g.S.State in
    first_more s.known s.shape_of s.lines_of s.IsWithin s.Covers s.accessed s.start s.IsFair c.args.shape c.args.flow.now.lines c.args.first c.loop-node.node c.loop-node.states.items
    c.push.new.self.items c.in_ok-state.state c.in_ok-push.ensures.items
    (subst (λ (ls : List ℕ). IsFirst s.known s.shape_of s.lines_of s.IsWithin s.Covers s.start s.IsFair c.args.shape ls (c.loop-node.node == c.args.first) c.in_ok-state.state) c.as_slice.ensures c.in_ok-state.ensures) c.loop-node.invariant
