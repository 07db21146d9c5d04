use Rattle.std.proofs.Common.{◌≡◌, ℕ, List, Option, Some, None, IfSome, slice_get, eqb, get_or, sym, ap, ◌∙◌}
use Rattle.std.proofs.lemmas.List.Quantifiers.{position-Some}
use Rattle.std.proofs.lemmas.Option.{slice_get-get_or}
use Rattle.std.specs.List.{position}
use Rattle.xdd_table.proofs.OrderLemmas.{place_same}
use Rattle.xdd_table.proofs.order.Order.position.Goals as goal

found_at : (places : List ℕ) (p : ℕ) (r : Option ℕ) → r ≡ position (eqb p) places → IfSome r (λ i. slice_get places i ≡ Some p)
found_at places p None e = tt
found_at places p (Some i) e =
    let w = position-Some (eqb p) places i 0 (sym e) in
    let same : p ≡ get_or places i 0 = place_same p (get_or places i 0) w.1 in
    slice_get-get_or places i 0 w.0 ∙ ap Some (sym same)

pub returns-clause-found : goal.returns-clause-found
returns-clause-found c = rw (← c.self.view_is) (found_at c.self.inside.places.keys c.args.d.place c.get_index_of.result c.get_index_of.ensures.index)
