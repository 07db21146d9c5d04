use Rattle.std.proofs.Common.{sym}
use Rattle.std.proofs.lemmas.List.{get_or_read}
use Rattle.flow_block.proofs.Queued.{on_ok, no_cut, with_cut, queue_own, cut_own, some_cut, none_cut}
use Rattle.flow_block.proofs.starts.Queue.step.Goals as goal

pub cut-requires : goal.cut-requires
cut-requires g c = (c.requires.0, (c.requires.1.0, (c.requires.1.1.0, queue_own g.of _ _ _ _ _ _ _ c.requires.0 c.requires.1.1.1.0 c.requires.1.1.1.1 c.index.ensures)))

pub add-requires-clause-listed : goal.add-requires-clause-listed
add-requires-clause-listed g c = cut_own g.of _ _ _ _ _ _ _ _ c.requires.0 c.requires.1.1.1.0 c.requires.1.1.1.1 c.index.ensures (some_cut c.in_ok-found.ensures c.in-Some.is)

pub returns-in-Some : goal.returns-in-Some
returns-in-Some g c = on_ok _ (λ k. with_cut g.of _ _ _ _ _ _ _ _ _ c.requires.0.code.ascending c.requires.1.1.1.0 c.requires.1.1.1.1 (sym (get_or_read _ _ _ c.requires.1.1.1.1 c.index.ensures 0)) (some_cut c.in_ok-found.ensures c.in-Some.is) k) c.add.ensures

pub returns-in-None : goal.returns-in-None
returns-in-None g c = no_cut g.of _ _ _ _ _ _ c.requires.1.1.1.0 (sym (get_or_read _ _ _ c.requires.1.1.1.1 c.index.ensures 0)) (none_cut c.in_ok-found.ensures c.in-None.is)
