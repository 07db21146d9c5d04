use Rattle.std.proofs.Common.{sym}
use Rattle.wx_host.proofs.Held.{read-known}
use Rattle.wx_host.specs.MemStore.{held}
use Rattle.wx_host.proofs.mem_store.MemStoreStore.read.Goals as goal

pub returns-then-fails-clause-only_listed : goal.returns-then-fails-clause-only_listed
returns-then-fails-clause-only_listed c =
    λ _. rw (← c.self.view_is) (c.next_fails-fails.ensures.fails.0 c.if-fails.true)

pub returns-in-Some-clause-outcome : goal.returns-in-Some-clause-outcome
returns-in-Some-clause-outcome c =
    rw (← c.self.view_is) (read-known (held c.self.inside.files.items) _ _ _ _ _ c.hand_over.result (sym c.in-Some.ensures) c.hand_over.ensures)
