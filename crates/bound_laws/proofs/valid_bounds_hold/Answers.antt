use Rattle.bound_laws.proofs.Runs.{valid_bounds_hold}
use Rattle.bound_laws.proofs.valid_bounds_hold.Goals as goal

pub returns : goal.returns
returns c = valid_bounds_hold (record {
  follow = c.runs_follow_unfoldings.ensures;
  walks = c.walks_tell_executed.ensures.walks;
  visit = c.runs_visit_nodes.ensures;
  recurrence = c.executed_of_prefixes.ensures.times;
  times = c.vectors_bound_times.ensures.completion;
})
