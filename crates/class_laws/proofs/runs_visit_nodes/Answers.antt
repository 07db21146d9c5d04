use Rattle.class_laws.proofs.Visiting.{runs_visit_nodes}
use Rattle.class_laws.proofs.runs_visit_nodes.Goals as goal

pub returns : goal.returns
returns c = runs_visit_nodes (record {
  keeps = c.access_keeps_cache.ensures;
  again = c.second_access_hits.ensures;
  spelled = c.words_are_spelled.ensures;
  slow = c.slow_steps_may_be_slow.ensures;
  ranges = c.words_stay_in_range.ensures.steps;
  words = c.code_stays.ensures.words;
  members = c.stays_are_at_members.ensures.members;
  held = c.held_lines_are_there.ensures;
  barred = c.barred_lines_are_absent.ensures;
  kept = c.kept_in_stays.ensures;
  flows = c.unfoldings_flow.ensures;
})
