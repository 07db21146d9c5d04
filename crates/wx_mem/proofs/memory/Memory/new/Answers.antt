use Rattle.std.proofs.Common.{◌<◌, ap, arith, ◌∙◌}
use Rattle.std.specs.Option.{unwrap_or}
use Rattle.std.specs.Ordering.{nat_cmp}
use Rattle.std.specs.FinMap as map
use Rattle.std.specs.FinMap.{get-empty}
use Rattle.wx_mem.proofs.memory.Memory.new.Goals as goal

pub invariant_of-result : goal.invariant_of-result
invariant_of-result c = record {
  each = λ at.
      let is = ap (λ es. unwrap_or (map.get (map.from_entries {R = nat_cmp} es) at) c.args.fill) c.new.ensures.empty ∙ ap (λ o. unwrap_or o c.args.fill) (get-empty nat_cmp at) in
      let small : c.args.fill < 256 = omega arith in rw is small;
}

pub returns-clause-bytes : goal.returns-clause-bytes
returns-clause-bytes c = λ at. ap (λ es. unwrap_or (map.get (map.from_entries {R = nat_cmp} es) at) c.args.fill) c.new.ensures.empty ∙ ap (λ o. unwrap_or o c.args.fill) (get-empty nat_cmp at)
