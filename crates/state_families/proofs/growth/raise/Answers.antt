use Rattle.std.proofs.Common.{◌∙◌, ℕ, List, ap, get_or}
use Rattle.std.proofs.lemmas.Bool.Decides.{Decides-eqb, not_from_Decides}
use Rattle.std.proofs.lemmas.Slice.Eq.{slice_eq-Decides}
use Rattle.state_families.proofs.GrowthLemmas.{raise_it, raise_same}
use Rattle.state_families.proofs.growth.raise.Goals as goal

pub returns-then-eq : goal.returns-then-eq
returns-then-eq c =
    let set = c.args.set.now in
    let d = slice_eq-Decides Decides-eqb _ _ _ c.eq.ensures in
    raise_same c.args.m.now.states c.args.m.now.horizon c.args.arrivals.now _ c.greatest-raised.result _ c.greatest-raised.ensures set.vectors set.kept c.new-then-eq.result c.requires.sound
    c.requires.joined (ap (λ (xs : List (List ℕ)). get_or xs 0 _) c.as_slice.ensures) (d.0 c.if-eq.true) (c.new-then-eq.ensures ∙ c.new.ensures.items)

pub returns : goal.returns
returns c =
    let set = c.args.set.now in
    let d = slice_eq-Decides Decides-eqb _ _ _ c.eq.ensures in
    raise_it c.args.m.now.states c.args.m.now.horizon c.args.arrivals.now _ c.greatest-raised.result _ c.greatest-raised.ensures set.vectors set.kept c.in_ok-set.field-0 c.in_ok-fresh.fresh
    c.requires.sound c.requires.arrivals c.requires.joined (ap (λ (xs : List (List ℕ)). get_or xs 0 _) c.as_slice.ensures) (not_from_Decides _ d c.if-eq.false) c.in_ok-set.ensures
    c.in_ok-fresh.ensures
