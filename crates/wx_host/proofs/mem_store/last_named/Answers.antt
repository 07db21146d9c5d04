use Rattle.std.proofs.Common.{arith}
use Rattle.wx_host.proofs.Held.{held-step}
use Rattle.wx_host.proofs.mem_store.last_named.Goals as goal

pub loop-i-preserved : goal.loop-i-preserved
loop-i-preserved c =
    (omega arith, held-step _ _ _ c.index-files-i.result _ (omega arith) c.loop-i.invariant.0 c.index-files-i.is c.is_named.ensures c.if-is_named.false c.loop-i.invariant.1)
