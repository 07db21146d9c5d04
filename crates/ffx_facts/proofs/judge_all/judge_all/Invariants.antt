use Rattle.std.proofs.Common.{map, take}
use Rattle.ffx_facts.specs.Faults.{AreFine}
use Rattle.ffx_facts.specs.Memory.{HasSeen}
use Rattle.ffx_facts.specs.Scan.{element}
use Rattle.ffx_facts.proofs.judge_all.judge_all.Given as goal

abbrev pub invariant-loop-element : goal.invariant-loop-element
invariant-loop-element l = record {
  fine : AreFine l.symbols (take l.element-index (map element l.elements)) l.all.items;
  seen : HasSeen l.seen l.all.items;
}
