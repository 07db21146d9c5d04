use Rattle.std.proofs.Common.{◌≡◌, ℕ, arith, length, subst}
use Rattle.state_families.specs.Families.{AreFirst}
use Rattle.state_families.proofs.FirstLemmas.{first_more, first_none}
use Rattle.state_families.proofs.rounds.first_sets.Goals as goal

pub loop-node-init : goal.loop-node-init
loop-node-init c = first_none c.args.u.now.start c.in_ok-sets.sets.items c.in_ok-sets.ensures.items

pub loop-node-preserved : goal.loop-node-preserved
loop-node-preserved c =
    first_more c.args.u.now.start c.loop-node.sets.items c.push.new.self.items c.loop-node.node c.in_ok-vectors.vectors c.loop-node.invariant c.in_ok-vectors.ensures
    c.in_ok-push.ensures.items

pub returns : goal.returns
returns c =
    let all : c.loop-node.node ≡ length c.args.u.now.nodes = omega (arith, c.len.ensures) in
    subst (λ (n : ℕ). AreFirst n c.args.u.now.start c.loop-node.sets.items) all c.loop-node.invariant
