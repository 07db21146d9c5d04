use Rattle.std.specs.Prelude.{◌==◌}
use Rattle.std.proofs.Common.{rules, Ok, Err, None, sym, ap, ◌∙◌, subst}
use Rattle.std.specs.List.{find}
use Rattle.std.proofs.lemmas.List.Sorted.{answers_always}
use Rattle.wx_base.specs.declared.facts.LoopFact.{LoopFact}
use Rattle.wx_base.specs.Facts.{LoopsAscend}
use Rattle.flow_block.proofs.KeyLemmas.{searched}
use Rattle.flow_block.proofs.lookup.loop_fact.Goals as goal

abbrev no_fact : LoopFact
no_fact = record { address = 0; maxcount = 0; totalcount = None }

pub returns-in-Ok : goal.returns-in-Ok
returns-in-Ok c =
    let loops = c.as_slice-loops.result.now in
    let by_key = c.in-Ok.ensures.position (λ fact. fact.address) (answers_always _ _ _ (λ f a r g called. search rules)) in
    let s = searched (λ fact. fact.address) loops (subst LoopsAscend (sym c.as_slice-loops.ensures) c.requires) c.args.head no_fact (Ok c.in-Ok.at) c.in-Ok.ensures.bound by_key in
    record { value = sym (ap (find (λ fact. fact.address == c.args.head)) (sym c.as_slice-loops.ensures) ∙ s.found); named = s.is }

pub returns-in-Err : goal.returns-in-Err
returns-in-Err c =
    let loops = c.as_slice-loops.result.now in
    let by_key = c.in-Err.ensures.position (λ fact. fact.address) (answers_always _ _ _ (λ f a r g called. search rules)) in
    let s = searched (λ fact. fact.address) loops (subst LoopsAscend (sym c.as_slice-loops.ensures) c.requires) c.args.head no_fact (Err c.in-Err.field-0) c.in-Err.ensures.bound by_key in
    record { value = sym (ap (find (λ fact. fact.address == c.args.head)) (sym c.as_slice-loops.ensures) ∙ s.absent); named = tt }
