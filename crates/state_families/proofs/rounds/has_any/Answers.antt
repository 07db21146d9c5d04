use Rattle.std.proofs.Common.{◌≡◌, ◌∙◌, ℕ, Some, ap, arith, refl, slice_get, sym, true≢false, inl, inr}
use Rattle.std.proofs.lemmas.Bool.{cases_lt}
use Rattle.std.proofs.lemmas.Option.{same_Some, slice_get-get_or, slice_get_within}
use Rattle.state_families.proofs.RoundLemmas.{some_there}
use Rattle.state_families.proofs.rounds.has_any.Goals as goal

pub returns-then-not-is_empty-clause-some : goal.returns-then-not-is_empty-clause-some
returns-then-not-is_empty-clause-some c =
    let list = c.list-item.result in
    λ found. record {
      place = c.loop-list.list-index;
      list = list;
      stands = slice_get-get_or c.args.lists.now c.loop-list.list-index list c.loop-list-test.true ∙ ap Some (sym c.list-item.is);
      some = some_there list (λ none. true≢false (sym (c.if-not-is_empty.ensures.1 none)));
    }

pub loop-list-preserved : goal.loop-list-preserved
loop-list-preserved c = λ place list l at. elim (cases_lt place c.loop-list.list-index) [
  | inl less ↦ c.loop-list.invariant place list less at
  | inr most ↦
      let lists = c.args.lists.now in
      let item = c.list-item.result in
      let here : place ≡ c.loop-list.list-index = omega (arith, l, most) in
      let there : slice_get lists place ≡ Some item =
      ap (λ (n : ℕ). slice_get lists n) here ∙ slice_get-get_or lists c.loop-list.list-index item c.loop-list-test.true ∙ ap Some (sym c.list-item.is) in
      same_Some list item (sym at ∙ there) ∙ c.if-not-is_empty.ensures.0 refl
]

pub returns-clause-none : goal.returns-clause-none
returns-clause-none c =
    λ nothing place list at. c.loop-list.invariant place list (omega (arith, slice_get_within c.args.lists.now place list at, c.loop-list-test.false)) at
