use Rattle.flow_laws.proofs.ProgramLemmas.{programs_lead, runs_of_programs}
use Rattle.flow_laws.proofs.programs.programs_lead_to_instructions.Goals as goal

pub returns-clause-programs : goal.returns-clause-programs
returns-clause-programs c = programs_lead

pub returns-clause-runs : goal.returns-clause-runs
returns-clause-runs c = runs_of_programs c.runs_stay_in_reached.ensures.found
