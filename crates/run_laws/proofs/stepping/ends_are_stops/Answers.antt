use Rattle.run_laws.proofs.EndLemmas.{ends_are_stops, stops_go_on_passed_over}
use Rattle.run_laws.proofs.stepping.ends_are_stops.Goals as goal

pub returns-clause-ends : goal.returns-clause-ends
returns-clause-ends c = ends_are_stops

pub returns-clause-on : goal.returns-clause-on
returns-clause-on c = stops_go_on_passed_over
