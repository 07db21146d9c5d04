use Rattle.node_exits.proofs.ExitLemmas.{finish_is}
use Rattle.node_exits.proofs.exits.finish_of.Goals as goal

pub returns-clause-finish : goal.returns-clause-finish
returns-clause-finish c = λ from at.
    let s = c.args.site.now in
    let node = c.requires.node in
    finish_is c.finish_at.new.table s.unfolded.now s.machine.now s.node from c.finish_at.result
    (c.nodes_have_blocks.ensures s.unfolded.now.program s.unfolded.now s.node node.unfolded.unfolded node.within)
    (λ b is. c.finish_at.ensures.finish from b at is)
