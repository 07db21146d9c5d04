use Rattle.flow_block.proofs.Queued.{queue_begun_by}
use Rattle.flow_block.proofs.starts.starts.Goals as goal

pub close-requires : goal.close-requires
close-requires g c = (c.requires.0, (c.requires.1.0, (c.requires.1.1, (queue_begun_by g.of _ _ _ _ _ c.requires.1.0 (c.in_ok-to_vec.ensures.items_if_clones_equal (λ x y e. e)) c.in_ok-marked_addresses.ensures))))
