use Rattle.std.proofs.Common.{◌≡◌, ◌++◌, Some, map, drop}
use Rattle.wx_text.specs.Decimal.{decimal}
use Rattle.cert_lines.specs.declared.kind.Kind.TheVariants as kind
use Rattle.cert_lines.specs.declared.kind.Role.TheVariants as role
use Rattle.cert_items.specs.Said.{flat}
use Rattle.cert_text.specs.Written.{place_of, spelled}
use Rattle.cert_text.proofs.spell.push_places.Given as goal

abbrev pub invariant-loop-vector : goal.invariant-loop-vector
invariant-loop-vector l =
    l.initial.out.items ++ spelled kind.Places (Some role.Left) (map decimal (flat (map (place_of l.pool) l.family)))
    ≡ l.out.items ++ spelled kind.Places (Some role.Left) (map decimal (flat (map (place_of l.pool) (drop l.vector-index l.family))))
