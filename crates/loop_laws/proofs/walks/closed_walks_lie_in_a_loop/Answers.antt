use Rattle.loop_laws.proofs.Closed.{closed_walks_lie_in_a_loop}
use Rattle.loop_laws.proofs.walks.closed_walks_lie_in_a_loop.Goals as goal

pub returns : goal.returns
returns c = closed_walks_lie_in_a_loop (record {
  heads = c.heads_begin_blocks.ensures;
  led = c.programs_lead_to_instructions.ensures.programs;
  walks = c.closed_walks_lie_in_loops.ensures.walks;
  told = c.closed_walks_lie_in_loops.ensures.ways;
})
