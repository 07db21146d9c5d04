use Rattle.std.proofs.Common.{sym, ap, ◌∙◌, take, ◌-◌}
use Rattle.cache_lru.proofs.Lines.{fits_without, kept_all}
use Rattle.cache_lru.proofs.set.make_place.Goals as goal

pub returns-in-Some-clause-lines : goal.returns-in-Some-clause-lines
returns-in-Some-clause-lines c = c.remove.ensures.items ∙ fits_without c.args.list.now.items c.in-Some.place c.args.line c.args.ways c.requires.different (rw c.as_slice.ensures.value at c.in-Some.ensures).0 (rw c.as_slice.ensures.value at c.in-Some.ensures).1 c.requires.fits

pub returns-in-None-clause-lines : goal.returns-in-None-clause-lines
returns-in-None-clause-lines c = c.truncate.ensures.items ∙ ap (take (c.args.ways - 1)) (sym (kept_all c.args.list.now.items c.args.line (rw c.as_slice.ensures.value at c.in-None.ensures)))
