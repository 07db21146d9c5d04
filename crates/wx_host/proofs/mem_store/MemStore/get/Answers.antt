use Rattle.std.proofs.Common.{ap}
use Rattle.wx_host.specs.MemStore.{MemStoreView}
use Rattle.wx_host.proofs.Held.{held-get}
use Rattle.wx_host.proofs.mem_store.MemStore.get.Goals as goal

pub returns : goal.returns
returns c =
    held-get _ _ _ _ _ c.in_ok-i.i c.index-file.result.now c.deref.ensures.value (ap (λ (s : MemStoreView). s.files) c.self.view_is) c.in_ok-i.ensures.0 c.in_ok-i.ensures.1 c.index-file.ensures c.bytes.ensures
