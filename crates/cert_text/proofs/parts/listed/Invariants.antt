use Rattle.std.proofs.Common.{◌≡◌, ◌++◌, drop}
use Rattle.std.specs.Prelude.{filter_map}
use Rattle.cert_text.specs.Told.{listed_in}
use Rattle.cert_text.proofs.parts.listed.Given as goal

abbrev pub invariant-loop-item : goal.invariant-loop-item
invariant-loop-item l = filter_map listed_in l.items ≡ l.vectors.items ++ filter_map listed_in (drop l.item-index l.items)
