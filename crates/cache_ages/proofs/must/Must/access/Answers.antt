use Rattle.std.proofs.Common.{◌∙◌, ap, sym, length, arith, ◌≤◌}
use Rattle.std.proofs.lemmas.List.Elements.{All-same}
use Rattle.cache_ages.specs.Bounds.{beside}
use Rattle.cache_ages.proofs.Beside.{beside_each}
use Rattle.cache_ages.proofs.States.{aged_all_within, must_aged, written}
use Rattle.cache_ages.proofs.must.Must.access.Goals as goal

pub invariant_of-self : goal.invariant_of-self
invariant_of-self c =
    let count = c.access.ensures.each ∙ ap length c.as_slice.ensures.value in
    let is = written c.self.inside.ages c.access.new.ages (count ∙ sym c.self.invariant.each) in
    record {
      shape = c.self.invariant.shape;
      ascending = c.self.invariant.ascending;
      each = ap length is ∙ count;
      within = All-same (λ age. age ≤ c.self.inside.shape.ways) _ _ is
          (aged_all_within c.self.inside.shape c.self.inside.lines.items c.self.inside.ages.items c.access.new.ages c.args.line c.age_of-below.result
          c.self.invariant.each count c.self.invariant.within (rw (← c.self.view_is) at c.requires)
          (rw (c.as_slice.ensures.value, c.as_mut_slice.ensures.value) at c.access.ensures.aged)
          (rw (rw (← c.self.view_is) at c.age_of-below.ensures)
          (beside_each c.self.inside.shape.ways (λ age. age ≤ c.self.inside.shape.ways) c.self.inside.lines.items c.self.inside.ages.items c.args.line (omega arith) c.self.invariant.within)));
    }

pub returns-clause-ages : goal.returns-clause-ages
returns-clause-ages c =
    let count = c.access.ensures.each ∙ ap length c.as_slice.ensures.value in
    let is = written c.self.inside.ages c.access.new.ages (count ∙ sym c.self.invariant.each) in
    rw (← c.self.view_is) (ap (beside c.self.inside.shape.ways c.self.inside.lines.items) is
    ∙ must_aged c.self.inside.shape c.self.inside.lines.items c.self.inside.ages.items c.access.new.ages c.args.line c.age_of-below.result
    c.self.invariant.each count c.self.invariant.within (rw (← c.self.view_is) at c.requires)
    (rw (c.as_slice.ensures.value, c.as_mut_slice.ensures.value) at c.access.ensures.aged)
    (rw (← c.self.view_is) at c.age_of-below.ensures))
