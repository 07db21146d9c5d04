use Rattle.std.proofs.Common.{◌≡◌, Some, take}
use Rattle.ffx_facts.specs.Machine.{run, start}
use Rattle.ffx_facts.specs.Scan.{view}
use Rattle.ffx_facts.proofs.scan.scan.Given as goal

abbrev pub invariant-loop-at : goal.invariant-loop-at
invariant-loop-at l = record {
  bytes : l.scanner.bytes.now ≡ l.bytes;
  place : l.scanner.place ≡ l.at;
  read : run (Some start) (take l.at l.bytes) ≡ Some (view l.scanner);
}
