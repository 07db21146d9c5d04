use Rattle.std.proofs.Common.{ap, refl, ◌∙◌}
use Rattle.cache_sets.specs.Sets.{of_set}
use Rattle.cache_sets.proofs.SetLemmas.{narrow_is_flow}
use Rattle.cache_sets.proofs.narrow.set_flow.Goals as goal

pub returns-clause-flow : goal.returns-clause-flow
returns-clause-flow c =
    narrow_is_flow c.args.shape c.args.set c.args.flow.now (record { start = c.args.flow.now.start; nodes = c.new.result; moves = c.new-2.result; lines = c.new-3.result })
    (record {
      start = refl;
      nodes = c.new.ensures ∙ c.in_ok-nodes.ensures;
      moves = c.new-2.ensures ∙ c.in_ok-moves.ensures.items ∙ c.as_slice.ensures;
      lines = c.new-3.ensures ∙ c.in_ok-lines.ensures ∙ ap (of_set c.args.shape c.args.set) c.as_slice-2.ensures;
    }) c.requires.flow
