use Rattle.std.proofs.Common.{refl, arith}
use Rattle.std.proofs.lemmas.List.{take_all}
use Rattle.pipe_block.proofs.Merging.{merged_none, merged_next}
use Rattle.pipe_block.proofs.leaving.places_in.Goals as goal

pub loop-row-init : goal.loop-row-init
loop-row-init c = merged_none _ _ c.requires c.new-places.ensures.items

pub loop-row-preserved : goal.loop-row-preserved
loop-row-preserved c =
    merged_next c.args.rows.now c.loop-row.set.keys c.place_of.new.rows.keys c.loop-row.places.items c.push.new.self.items c.loop-row.row-index _ _
    c.in_ok-place.place c.loop-row-test.true refl c.loop-row.invariant c.place_of.ensures.rows c.in_ok-place.ensures.place c.place_of.ensures.only c.in_ok-push.ensures.items

pub returns : goal.returns
returns c = rw (take_all c.loop-row.row-index c.args.rows.now (omega arith)) at c.loop-row.invariant
