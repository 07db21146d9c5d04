use Rattle.std.specs.Prelude.{◌==◌, ◌<◌}
use Rattle.std.proofs.Common.{[], Option, rules, Ok, Err, sym, ap, ◌∙◌, subst}
use Rattle.std.specs.List.{AllPairs, find}
use Rattle.std.specs.Option.{option_map_or}
use Rattle.std.proofs.lemmas.List.{get_or_default}
use Rattle.std.proofs.lemmas.List.Sorted.{answers_always}
use Rattle.wx_base.specs.declared.facts.TargetFact.{TargetFact}
use Rattle.flow_block.proofs.KeyLemmas.{searched}
use Rattle.flow_block.proofs.lookup.listed_targets.Goals as goal

abbrev no_fact : TargetFact
no_fact = record { address = 0; targets = [] }

pub returns-in-Ok : goal.returns-in-Ok
returns-in-Ok c =
    let list = c.as_slice-list.result.now in
    let up = subst (AllPairs (λ f g. f.address < g.address)) (sym c.as_slice-list.ensures) c.requires.addresses in
    let by_key = c.in-Ok.ensures.position (λ fact. fact.address) (answers_always _ _ _ (λ f a r g called. search rules)) in
    let s = searched (λ fact. fact.address) list up c.args.address no_fact (Ok c.in-Ok.at) c.in-Ok.ensures.bound by_key in
    c.as_slice.ensures ∙ ap (λ (fact : TargetFact). fact.targets) (get_or_default list c.in-Ok.at c.index-list-at.result no_fact c.in-Ok.ensures.bound)
    ∙ sym (ap (λ (o : Option TargetFact). option_map_or (λ fact. fact.targets) o []) (ap (find (λ fact. fact.address == c.args.address)) (sym c.as_slice-list.ensures) ∙ s.found))

pub returns-in-Err : goal.returns-in-Err
returns-in-Err c =
    let list = c.as_slice-list.result.now in
    let up = subst (AllPairs (λ f g. f.address < g.address)) (sym c.as_slice-list.ensures) c.requires.addresses in
    let by_key = c.in-Err.ensures.position (λ fact. fact.address) (answers_always _ _ _ (λ f a r g called. search rules)) in
    let s = searched (λ fact. fact.address) list up c.args.address no_fact (Err c.in-Err.field-0) c.in-Err.ensures.bound by_key in
    sym (ap (λ (o : Option TargetFact). option_map_or (λ fact. fact.targets) o []) (ap (find (λ fact. fact.address == c.args.address)) (sym c.as_slice-list.ensures) ∙ s.absent))
