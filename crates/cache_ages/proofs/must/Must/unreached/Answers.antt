use Rattle.std.proofs.Common.{length, refl}
use Rattle.cache_ages.proofs.States.{filled}
use Rattle.cache_ages.proofs.must.Must.unreached.Goals as goal

pub returns-clause-youngest : goal.returns-clause-youngest
returns-clause-youngest c = filled (c.args.shape.ways) (0) (length c.args.lines.now) c.args.lines.now c.in_ok-lines.lines.items c.in_ok-ages.ages.items
    (c.in_ok-lines.ensures.items_if_clones_equal (λ y e h. h)) refl (c.in_ok-ages.ensures.items_if_clones_equal (λ y e. e))
