use Rattle.std.proofs.Common.{sym, ◌∙◌, arith}
use Rattle.std.proofs.lemmas.List.{get_or_default}
use Rattle.std.proofs.lemmas.List.Sorted.{searched}
use Rattle.cache_ages.proofs.Beside.{beside_at, beside_absent, none_at}
use Rattle.cache_ages.proofs.Ascending.{rising, missing}
use Rattle.cache_ages.proofs.aging.age_of.Goals as goal

pub returns-in-Ok : goal.returns-in-Ok
returns-in-Ok c =
    let found = rw c.in-Ok.is at (searched c.args.lines.now c.args.line c.binary_search.result c.binary_search.ensures.position (rising c.args.lines.now c.requires.ascending)) in
    get_or_default c.args.ages.now c.in-Ok.at 0 c.args.outside (omega (arith, found.0, c.requires.each))
    ∙ sym (beside_at c.args.outside c.args.lines.now c.args.ages.now c.in-Ok.at c.args.line c.requires.ascending found.0 found.1 c.requires.each)

pub returns-in-Err : goal.returns-in-Err
returns-in-Err c =
    let gap = rw c.in-Err.is at (searched c.args.lines.now c.args.line c.binary_search.result c.binary_search.ensures.position (rising c.args.lines.now c.requires.ascending)) in
    sym (beside_absent c.args.outside c.args.lines.now c.args.ages.now c.args.line (none_at c.args.lines.now c.args.line (missing c.args.lines.now c.args.line c.in-Err.field-0 gap.1 gap.2)))
