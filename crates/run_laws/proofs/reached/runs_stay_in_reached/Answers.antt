use Rattle.run_laws.proofs.GoingLemmas.{frames_are_listed}
use Rattle.run_laws.proofs.StayLemmas.{frames_stay_in_functions, runs_stay_in_reached}
use Rattle.run_laws.proofs.StopLemmas.{runs_find_instructions}
use Rattle.run_laws.proofs.reached.runs_stay_in_reached.Goals as goal

pub returns-clause-reached : goal.returns-clause-reached
returns-clause-reached c = runs_stay_in_reached

pub returns-clause-functions : goal.returns-clause-functions
returns-clause-functions c = frames_stay_in_functions

pub returns-clause-found : goal.returns-clause-found
returns-clause-found c = runs_find_instructions

pub returns-clause-listed : goal.returns-clause-listed
returns-clause-listed c = frames_are_listed
