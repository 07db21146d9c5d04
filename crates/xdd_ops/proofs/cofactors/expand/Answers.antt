use Rattle.xdd_ops.proofs.ApplyLemmas.{lower_root}
use Rattle.xdd_ops.proofs.cofactors.expand.Goals as goal

pub take_apart-requires-in-Branch-Branch-clause-root : goal.take_apart-requires-in-Branch-Branch-clause-root
take_apart-requires-in-Branch-Branch-clause-root c = let b = c.in-Branch-Branch in
    lower_root c.args.table.now c.args.pair.0.place c.args.pair.1.place b.e b.g c.min.result b.hit-0 b.miss-0 b.hit-1 b.miss-1 c.min.ensures b.ensures.value b.ensures'.value
