use Rattle.start_file.proofs.StartWhole.{start_text}
use Rattle.start_file.proofs.start_laws.lines_are_a_start_text.Goals as goal

pub returns : goal.returns
returns c = start_text
