use Rattle.std.proofs.Common.{◌≡◌, ℕ, ◌-◌, length, get_or, map, sym, ◌∙◌, arith, ap, rules}
use Rattle.wx_base.specs.Blocks.{cost_of, rebased}
use Rattle.pipe_time.proofs.Greatest.{taken_off}
use Rattle.pipe_time.proofs.counting.rebase.Goals as goal

pub returns-clause-slots : goal.returns-clause-slots
returns-clause-slots c =
    let same : c.max-cost.result ≡ cost_of c.args.m.now c.args.v.now.slots = search rules in
    taken_off c.args.v.now.slots c.loop-k.v.slots (cost_of c.args.m.now c.args.v.now.slots) 35 (search rules) c.loop-k.invariant.long
    (λ j l. c.loop-k.invariant.done j (omega arith) ∙ ap (λ x. get_or c.args.v.now.slots j 0 - x) same)
