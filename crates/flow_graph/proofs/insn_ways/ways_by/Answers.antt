use Rattle.std.proofs.Common.{◌∙◌}
use Rattle.flow_graph.proofs.SetLemmas.{ways_joined, listed_ascend}
use Rattle.flow_graph.proofs.insn_ways.ways_by.Goals as goal

pub add_some-requires : goal.add_some-requires
add_some-requires c = rw (c.in_ok-ways.ensures.ok ∙ c.branch_targets.ensures) (listed_ascend c.args.facts.now.branches c.args.addr c.args.flow.indirect c.requires.branches)

pub returns : goal.returns
returns c = ways_joined c.args.facts.now c.args.addr c.args.flow (rw c.next_of.ensures at c.in_ok-add_some-2.ensures) (rw (c.in_ok-ways.ensures.ok ∙ c.branch_targets.ensures) at c.in_ok-add_some.ensures)
