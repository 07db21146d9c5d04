use Rattle.std.proofs.Common.{◌≡◌, ℕ, List, Option, Some, None, eqb, sym, ap, ◌∙◌}
use Rattle.std.specs.Map.{lookup}
use Rattle.std.specs.Option.{unwrap_or}
use Rattle.std.specs.Ordering.{nat_cmp}
use Rattle.std.specs.FinMap as map
use Rattle.wx_mem.proofs.Entries.{found}
use Rattle.wx_mem.proofs.memory.Memory.read.Goals as goal

answered : (es : List (ℕ × ℕ)) (q fill : ℕ) (o : Option ℕ) → o ≡ lookup (eqb q) es → unwrap_or o fill ≡ unwrap_or (map.get (map.from_entries {R = nat_cmp} es) q) fill
answered es q fill o e = ap (λ o. unwrap_or o fill) (e ∙ sym (found es q))

pub returns-in-Some : goal.returns-in-Some
returns-in-Some c = rw (← c.self.view_is) (answered c.self.inside.bytes.entries c.args.addr c.self.inside.fill (Some c.in-Some.byte.now) c.in-Some.ensures.value)

pub returns-in-None : goal.returns-in-None
returns-in-None c = rw (← c.self.view_is) (answered c.self.inside.bytes.entries c.args.addr c.self.inside.fill None c.in-None.ensures.value)
