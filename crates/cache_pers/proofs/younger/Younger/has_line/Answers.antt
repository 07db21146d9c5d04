use Rattle.std.proofs.Common.{sym}
use Rattle.cache_ages.proofs.Beside.{one_at}
use Rattle.cache_pers.proofs.younger.Younger.has_line.Goals as goal

pub returns-in-Some : goal.returns-in-Some
returns-in-Some c =
    let found = rw c.as_slice.ensures.value at c.in-Some.ensures in
    rw (← c.self.view_is) (sym (one_at c.self.inside.lines.items c.in-Some.field-0 c.args.line found.0 found.1))

pub returns-in-None : goal.returns-in-None
returns-in-None c = rw (← c.self.view_is) (sym (rw c.as_slice.ensures.value at c.in-None.ensures))
