use Rattle.ffx_facts.proofs.Exact.{cause_is_given, fine_is_read}
use Rattle.ffx_facts.proofs.read.read_facts.Goals as goal

pub returns-clause-read : goal.returns-clause-read
returns-clause-read c = fine_is_read c.args.bytes.now c.args.symbols.now c.read_checked.result c.read_checked.ensures.refused

pub returns-clause-exact : goal.returns-clause-exact
returns-clause-exact c = cause_is_given c.args.bytes.now c.args.symbols.now c.read_checked.result c.read_checked.ensures.accepted c.read_checked.ensures.refused
