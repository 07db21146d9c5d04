use Rattle.std.proofs.Common.{[], ap, subst, arith, ◌≡◌, ℕ, replicate}
use Rattle.state_families.specs.Incoming.{lists_of}
use Rattle.state_families.proofs.IncomingLemmas.{empty_more}
use Rattle.state_families.proofs.incoming.empty_lists.Goals as goal

pub loop-init : goal.loop-init
loop-init c = ap lists_of c.in_ok-lists.ensures.items

pub loop-preserved : goal.loop-preserved
loop-preserved c = empty_more (λ list. list.items) c.loop.lists.items c.push.new.self.items c.new.result c.loop.counter c.in_ok-push.ensures.items c.new.ensures.items c.loop.invariant

pub returns : goal.returns
returns c =
    let all : c.loop.counter ≡ c.args.count = omega arith in
    subst (λ (n : ℕ). lists_of c.loop.lists.items ≡ replicate n []) all c.loop.invariant
