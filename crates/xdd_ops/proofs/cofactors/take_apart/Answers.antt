use Rattle.std.proofs.Common.{refl}
use Rattle.xdd_ops.proofs.ApplyLemmas.{split_of}
use Rattle.xdd_ops.proofs.cofactors.take_apart.Goals as goal

pub returns : goal.returns
returns c = record { same = refl; parts = split_of c.args.table.now c.args.pair.0.place c.args.pair.1.place c.args.event c.cofactors.result.0 c.cofactors.result.1 c.cofactors-2.result.0 c.cofactors-2.result.1 c.cofactors.ensures c.cofactors-2.ensures c.requires.root }
