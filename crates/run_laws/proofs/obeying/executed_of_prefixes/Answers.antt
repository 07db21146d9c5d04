use Rattle.run_laws.proofs.RunLemmas.{prefixes_are_executed, runs_without_end_are_whole, runs_are_no_longer, times_are_the_recurrence}
use Rattle.run_laws.proofs.obeying.executed_of_prefixes.Goals as goal

pub returns-clause-prefixes : goal.returns-clause-prefixes
returns-clause-prefixes c = prefixes_are_executed

pub returns-clause-unended : goal.returns-clause-unended
returns-clause-unended c = runs_without_end_are_whole

pub returns-clause-most : goal.returns-clause-most
returns-clause-most c = runs_are_no_longer

pub returns-clause-times : goal.returns-clause-times
returns-clause-times c = times_are_the_recurrence
