use Rattle.wcet_cli.proofs.Running.{every_run_obeys}
use Rattle.wcet_cli.proofs.laws.straight_runs_obey.Goals as goal

pub returns : goal.returns
returns c machine bytes program size p = every_run_obeys machine bytes program size p
