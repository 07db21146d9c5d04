use Rattle.std.proofs.Common.{rules}
use Rattle.xdd_table.specs.Diagram.{itself}
use Rattle.xdd_ops.proofs.ApplyLemmas.{cofactors_taken}
use Rattle.xdd_ops.specs.Cofactors.{IsCofactors}
use Rattle.xdd_ops.proofs.cofactors.cofactors.Goals as goal

pub returns-in_default : goal.returns-in_default
returns-in_default c = record {
  hit_in = search rules;
  miss_in = search rules;
  hit_after = search rules;
  miss_after = search rules;
  hit_before = search rules;
  miss_before = search rules;
  hit_less = search rules;
  miss_less = search rules;
  hit_below = itself;
  miss_below = itself;
  hit_time = search rules;
  miss_time = search rules;
  times = search rules;
  hit_events = search rules;
  miss_events = search rules;
}

pub returns-in_default-2 : goal.returns-in_default-2
returns-in_default-2 c = record {
  hit_in = search rules;
  miss_in = search rules;
  hit_after = search rules;
  miss_after = search rules;
  hit_before = search rules;
  miss_before = search rules;
  hit_less = search rules;
  miss_less = search rules;
  hit_below = itself;
  miss_below = itself;
  hit_time = search rules;
  miss_time = search rules;
  times = search rules;
  hit_events = search rules;
  miss_events = search rules;
}

pub returns-in-Branch : goal.returns-in-Branch
returns-in-Branch c =
    let w : IsCofactors c.args.table.now c.args.d.place c.in-Branch.root c.in-Branch.hit.place c.in-Branch.miss.place = cofactors_taken c.args.table.now c.in-Branch.ensures.table c.args.d.place c.in-Branch.root c.in-Branch.hit c.in-Branch.miss c.requires.within c.in-Branch.ensures.value in
    rw c.if-root-event.true at w
