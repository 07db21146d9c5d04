use Rattle.ctx_laws.proofs.Runs.{runs_follow_unfoldings}
use Rattle.ctx_laws.proofs.following.runs_follow_unfoldings.Goals as goal

pub returns : goal.returns
returns c = runs_follow_unfoldings (record {
  paths = c.heads_are_entries.ensures.paths;
  edges = c.heads_are_entries.ensures.edges;
  heads = c.heads_begin_blocks.ensures;
  blocks = c.blocks_lie_in_loops.ensures;
  past = c.steps_go_past.ensures;
  flow = c.steps_follow_flow.ensures;
  last = c.frames_tell_calls.ensures.last;
  goes = c.runs_go_by_flow.ensures;
  reached = c.runs_stay_in_reached.ensures.reached;
  functions = c.runs_stay_in_reached.ensures.functions;
  words = c.code_stays.ensures.words;
  ranges = c.words_stay_in_range.ensures.runs;
})
