use Rattle.std.proofs.Common.{◌≡◌, ◌++◌, Some, map, drop}
use Rattle.wx_text.specs.Decimal.{decimal}
use Rattle.cert_lines.specs.declared.kind.Kind.TheVariants as kind
use Rattle.cert_lines.specs.declared.kind.Role.TheVariants as role
use Rattle.cert_items.specs.Said.{flat}
use Rattle.cert_text.specs.Written.{pairs_from, spelled}
use Rattle.cert_text.proofs.spell.push_slots.Given as goal

abbrev pub invariant-loop-slot : goal.invariant-loop-slot
invariant-loop-slot l =
    l.initial.out.items ++ spelled kind.Listed (Some role.Left) (map decimal (flat (pairs_from 0 l.slots))) ≡ l.out.items ++ spelled kind.Listed (Some role.Left) (map decimal (flat (pairs_from l.slot (drop l.slot l.slots))))
