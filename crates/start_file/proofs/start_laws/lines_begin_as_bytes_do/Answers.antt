use Rattle.start_file.proofs.StartBegun.{begun}
use Rattle.start_file.proofs.start_laws.lines_begin_as_bytes_do.Goals as goal

pub returns : goal.returns
returns c = begun
