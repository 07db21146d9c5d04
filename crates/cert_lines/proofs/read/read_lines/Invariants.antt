use Rattle.std.proofs.Common.{◌≡◌, Some, take, length}
use Rattle.cert_lines.specs.Machine.{run, start}
use Rattle.cert_lines.specs.Reading.{view, IsReady}
use Rattle.cert_lines.proofs.read.read_lines.Given as goal

abbrev pub invariant-loop-at : goal.invariant-loop-at
invariant-loop-at l = record {
  bytes : l.reader.bytes.now ≡ l.fn.bytes;
  end : l.at-end ≡ length l.fn.bytes;
  ready : IsReady l.reader l.at;
  read : run (Some start) (take l.at l.fn.bytes) ≡ Some (view l.reader l.at);
}
