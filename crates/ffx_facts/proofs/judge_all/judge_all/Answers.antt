use Rattle.std.proofs.Common.{◌≡◌, map, true, sym, ap, ◌∙◌}
use Rattle.std.specs.List.{list_any}
use Rattle.std.proofs.lemmas.Result.{err_from_is_err_and}
use Rattle.ffx_facts.specs.Faults.{fault_behind, is_same_fact}
use Rattle.ffx_facts.specs.Scan.{element}
use Rattle.ffx_facts.proofs.Judged.{fine_none, fine_more, first_fault, inside_map, is_first, no_kept, not_first, own_fault, repeats_seen, says_at, seen_more, seen_none, twice_behind}
use Rattle.ffx_facts.proofs.judge_all.judge_all.Goals as goal

pub loop-element-init : goal.loop-element-init
loop-element-init c = rw c.new-all.ensures.items (record { fine = fine_none c.args.symbols.now; seen = seen_none c.new-seen.result c.new-seen.ensures })

pub returns-in_err-says : goal.returns-in_err-says
returns-in_err-says c =
    let kept = c.args.elements.now in
    let i = c.loop-element.element-index in
    let p = err_from_is_err_and c.from_residual.result c.from_residual.ensures.1 in
    rw (p.1, p.2) (own_fault c.args.symbols.now (map element kept) i (element no_kept) c.loop-element.all.items _ (inside_map kept i c.loop-element-test.true) c.loop-element.invariant.fine
    (c.in_err-says.ensures.value ∙ says_at c.args.symbols.now kept i c.loop-element-test.true) c.in_err-says.ensures.fault)

pub returns-then-not-branch : goal.returns-then-not-branch
returns-then-not-branch c =
    let kept = c.args.elements.now in
    let i = c.loop-element.element-index in
    let all = c.loop-element.all.items in
    let s = c.in_ok-says.says in
    let again : list_any (is_same_fact s) all ≡ true = repeats_seen c.loop-element.seen all s c.loop-element.invariant.seen ∙ not_first _ (sym c.if-not-branch.true ∙ c.in_ok-is_first.ensures.first) in
    let said = c.in_ok-says.ensures.value ∙ says_at c.args.symbols.now kept i c.loop-element-test.true in
    first_fault c.args.symbols.now (map element kept) i (element no_kept) all _ (inside_map kept i c.loop-element-test.true) c.loop-element.invariant.fine (ap (fault_behind all) (sym said) ∙ twice_behind all s again)

pub loop-element-preserved : goal.loop-element-preserved
loop-element-preserved c =
    let kept = c.args.elements.now in
    let i = c.loop-element.element-index in
    let all = c.loop-element.all.items in
    let s = c.in_ok-says.says in
    let new = repeats_seen c.loop-element.seen all s c.loop-element.invariant.seen ∙ is_first _ (sym c.if-not-branch.false ∙ c.in_ok-is_first.ensures.first) in
    let said = c.in_ok-says.ensures.value ∙ says_at c.args.symbols.now kept i c.loop-element-test.true in
    rw c.in_ok-push.ensures.items (record {
      fine = fine_more c.args.symbols.now (map element kept) i (element no_kept) all s (inside_map kept i c.loop-element-test.true) c.loop-element.invariant.fine (sym said) new;
      seen = seen_more c.loop-element.seen c.is_first.new.self all s c.loop-element.invariant.seen c.in_ok-is_first.ensures.seen;
    })
