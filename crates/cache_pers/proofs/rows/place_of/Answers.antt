use Rattle.std.proofs.lemmas.List.Sorted.{searched}
use Rattle.cache_ages.proofs.Ascending.{rising, missing}
use Rattle.cache_ages.proofs.Beside.{none_at}
use Rattle.cache_pers.proofs.rows.place_of.Goals as goal

pub returns-in-Err : goal.returns-in-Err
returns-in-Err c =
    let gap = rw c.in-Err.is at (searched c.args.lines.now c.args.line c.binary_search.result c.binary_search.ensures.position (rising c.args.lines.now c.requires)) in
    none_at c.args.lines.now c.args.line (missing c.args.lines.now c.args.line c.in-Err.field-0 gap.1 gap.2)
