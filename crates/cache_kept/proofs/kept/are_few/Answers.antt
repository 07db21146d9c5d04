use Rattle.std.proofs.Common.{arith}
use Rattle.std.proofs.lemmas.Bool.{ltb-true}
use Rattle.cache_kept.proofs.OverLemmas.{over_few, over_many, ltb_not}
use Rattle.cache_kept.proofs.kept.are_few.Goals as goal

pub returns-clause-few : goal.returns-clause-few
returns-clause-few c e =
    over_few c.args.look.now c.args.node c.args.place c.in_ok-found.found.items c.requires.look c.in_ok-found.ensures
    (omega (arith, c.in_ok-found.found.ok.0, c.len.ensures, ltb-true c.len.result c.args.look.now.shape.ways e))

pub returns-clause-many : goal.returns-clause-many
returns-clause-many c e =
    over_many c.args.look.now c.args.node c.args.place c.in_ok-found.found.items c.requires.look c.in_ok-found.ensures
    (omega (arith, c.in_ok-found.found.ok.0, c.len.ensures, ltb_not c.len.result c.args.look.now.shape.ways e)) (omega (arith, c.requires.shape.ways.0))
