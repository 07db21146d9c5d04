use Rattle.wx_host.proofs.Held.{cut-short}
use Rattle.wx_host.proofs.mem_store.hand_over.Goals as goal

pub returns-then-kept-content : goal.returns-then-kept-content
returns-then-kept-content c =
    cut-short _ _ _ c.min.result _ _ c.requires c.extend_from_slice.ensures.items c.in_ok-map_err.ensures.variant c.min.ensures c.if-kept-content.true
