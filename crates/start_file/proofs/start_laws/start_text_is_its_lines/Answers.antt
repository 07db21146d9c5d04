use Rattle.start_file.proofs.StartWhole.{text_is_lines}
use Rattle.start_file.proofs.start_laws.start_text_is_its_lines.Goals as goal

pub returns : goal.returns
returns c = text_is_lines
