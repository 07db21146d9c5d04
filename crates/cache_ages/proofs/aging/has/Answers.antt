use Rattle.std.proofs.Common.{sym}
use Rattle.std.proofs.lemmas.List.Sorted.{searched}
use Rattle.cache_ages.proofs.Ascending.{rising, missing}
use Rattle.cache_ages.proofs.Beside.{none_at, one_at}
use Rattle.cache_ages.proofs.aging.has.Goals as goal

pub returns-in-Ok : goal.returns-in-Ok
returns-in-Ok c =
    let found = rw c.in-Ok.is at (searched c.args.lines.now c.args.line c.binary_search.result c.binary_search.ensures.position (rising c.args.lines.now c.requires)) in
    sym (one_at c.args.lines.now c.in-Ok.field-0 c.args.line found.0 found.1)

pub returns-in-Err : goal.returns-in-Err
returns-in-Err c =
    let gap = rw c.in-Err.is at (searched c.args.lines.now c.args.line c.binary_search.result c.binary_search.ensures.position (rising c.args.lines.now c.requires)) in
    sym (none_at c.args.lines.now c.args.line (missing c.args.lines.now c.args.line c.in-Err.field-0 gap.1 gap.2))
