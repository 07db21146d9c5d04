use Rattle.node_exits.proofs.ExitLemmas.{answer_is}
use Rattle.node_exits.proofs.exits.leave_from.Goals as goal

pub returns-clause-leaving : goal.returns-clause-leaving
returns-clause-leaving c = λ from at.
    let s = c.args.site.now in
    let node = c.requires.node in
    answer_is c.leave_at.new.table s.unfolded.now s.machine.now s.node from c.args.taken (record { memo = c.leave_at.new.memo; pool = c.args.work.now.pool }) c.leave_at.result
    (c.nodes_have_blocks.ensures s.unfolded.now.program s.unfolded.now s.node node.unfolded.unfolded node.within)
    (λ b is. c.leave_at.ensures.leaving from b at is)
