use Rattle.cache_class.proofs.solving.tables_of.Goals as goal

pub set_tables-requires-clause-flow : goal.set_tables-requires-clause-flow
set_tables-requires-clause-flow c = c.unfoldings_flow.ensures c.args.u.now.program c.args.u.now c.in_ok-flow.flow c.requires.unfolding c.in_ok-flow.ensures

pub new-requires-clause-from : goal.new-requires-clause-from
new-requires-clause-from c = (c.unfoldings_flow.ensures c.args.u.now.program c.args.u.now c.in_ok-flow.flow c.requires.unfolding c.in_ok-flow.ensures).from

pub new-requires-clause-to : goal.new-requires-clause-to
new-requires-clause-to c = (c.unfoldings_flow.ensures c.args.u.now.program c.args.u.now c.in_ok-flow.flow c.requires.unfolding c.in_ok-flow.ensures).to

pub run_of-requires-clause-flow : goal.run_of-requires-clause-flow
run_of-requires-clause-flow c = c.unfoldings_flow.ensures c.args.u.now.program c.args.u.now c.in_ok-flow.flow c.requires.unfolding c.in_ok-flow.ensures

pub loops_of-requires-clause-flow : goal.loops_of-requires-clause-flow
loops_of-requires-clause-flow c = c.unfoldings_flow.ensures c.args.u.now.program c.args.u.now c.in_ok-flow.flow c.requires.unfolding c.in_ok-flow.ensures

pub returns-clause-tables : goal.returns-clause-tables
returns-clause-tables c = record {
  whole = c.requires.unfolding;
  few = c.requires.few;
  form = c.requires.shape;
  of = c.in_ok-flow.ensures;
  flows = c.unfoldings_flow.ensures c.args.u.now.program c.args.u.now c.in_ok-flow.flow c.requires.unfolding c.in_ok-flow.ensures;
  each_set = c.in_ok-sets.ensures;
  ways_are = c.in_ok-ways.ensures;
  run_is = c.in_ok-run.ensures;
  loops_are = c.in_ok-loops.ensures;
  chains_are = c.in_ok-chains.ensures;
}
