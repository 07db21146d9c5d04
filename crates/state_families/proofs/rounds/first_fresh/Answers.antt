use Rattle.std.proofs.Common.{◌≡◌, ℕ, arith, length, subst}
use Rattle.state_families.specs.Fresh.{AreFirstFresh}
use Rattle.state_families.proofs.FirstLemmas.{fresh_more, fresh_none}
use Rattle.state_families.proofs.rounds.first_fresh.Goals as goal

pub loop-node-init : goal.loop-node-init
loop-node-init c = fresh_none c.args.u.now.start c.in_ok-fresh.fresh.items c.in_ok-fresh.ensures.items

pub loop-node-preserved : goal.loop-node-preserved
loop-node-preserved c =
    fresh_more c.args.u.now.start c.loop-node.fresh.items c.push.new.self.items c.loop-node.node c.in_ok-first_vectors.field-0 c.loop-node.invariant c.in_ok-first_vectors.ensures
    c.in_ok-push.ensures.items

pub returns : goal.returns
returns c =
    let all : c.loop-node.node ≡ length c.args.u.now.nodes = omega (arith, c.len.ensures) in
    subst (λ (n : ℕ). AreFirstFresh n c.args.u.now.start c.loop-node.fresh.items) all c.loop-node.invariant
