use Rattle.xdd_ops.proofs.GivenLemmas.{fixed_after, fixed_events}
use Rattle.xdd_ops.proofs.given.fix.Goals as goal

pub returns-clause-after : goal.returns-clause-after
returns-clause-after c = fixed_after c.args.table.now c.fix_below.new.table c.args.event c.args.d.place c.args.miss c.fix_below.result c.requires c.fix_below.ensures.kept c.fix_below.ensures.fixed

pub returns-clause-events : goal.returns-clause-events
returns-clause-events c = fixed_events c.args.table.now c.fix_below.new.table c.args.event c.args.d.place c.args.miss c.fix_below.result c.requires c.fix_below.ensures.kept c.fix_below.ensures.fixed
