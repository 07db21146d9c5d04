use Rattle.std.proofs.Common.{◌∙◌, ◌+◌, ap, sym, length, min, arith, ◌≤◌}
use Rattle.std.proofs.lemmas.List.Elements.{All-same}
use Rattle.cache_ages.specs.Bounds.{beside}
use Rattle.cache_ages.proofs.Beside.{beside_each}
use Rattle.cache_ages.proofs.States.{aged_all_within, may_aged, written}
use Rattle.cache_ages.proofs.may.May.access.Goals as goal

pub overflow_add-age : goal.overflow_add-age
overflow_add-age c =
    let low : c.age_of-age.result ≤ c.self.inside.shape.ways =
    rw (rw (← c.self.view_is) at c.age_of-age.ensures)
    (beside_each 0 (λ age. age ≤ c.self.inside.shape.ways) c.self.inside.lines.items c.self.inside.ages.items c.args.line (omega arith) c.self.invariant.within) in
    omega (arith, c.self.invariant.shape.ways)

pub returns-clause-ages : goal.returns-clause-ages
returns-clause-ages c =
    let count = c.access.ensures.each ∙ ap length c.as_slice.ensures.value in
    let is = written c.self.inside.ages c.access.new.ages (count ∙ sym c.self.invariant.each) in
    rw (← c.self.view_is) (ap (beside 0 c.self.inside.lines.items) is
    ∙ may_aged c.self.inside.shape c.self.inside.lines.items c.self.inside.ages.items c.access.new.ages c.args.line c.min-below.result
    c.self.invariant.each count c.self.invariant.within (rw (← c.self.view_is) at c.requires)
    (rw (c.as_slice.ensures.value, c.as_mut_slice.ensures.value) at c.access.ensures.aged)
    (c.min-below.ensures ∙ ap (λ n. min (n + 1) c.self.inside.shape.ways) (rw (← c.self.view_is) at c.age_of-age.ensures)))

pub invariant_of-self : goal.invariant_of-self
invariant_of-self c =
    let count = c.access.ensures.each ∙ ap length c.as_slice.ensures.value in
    let is = written c.self.inside.ages c.access.new.ages (count ∙ sym c.self.invariant.each) in
    record {
      shape = c.self.invariant.shape;
      ascending = c.self.invariant.ascending;
      each = ap length is ∙ count;
      within = All-same (λ age. age ≤ c.self.inside.shape.ways) _ _ is
          (aged_all_within c.self.inside.shape c.self.inside.lines.items c.self.inside.ages.items c.access.new.ages c.args.line c.min-below.result
          c.self.invariant.each count c.self.invariant.within (rw (← c.self.view_is) at c.requires)
          (rw (c.as_slice.ensures.value, c.as_mut_slice.ensures.value) at c.access.ensures.aged)
          (omega (arith, c.min-below.ensures)));
    }
