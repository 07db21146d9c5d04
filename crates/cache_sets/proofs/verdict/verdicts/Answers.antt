use Rattle.std.proofs.Common.{◌≡◌, List, [], ◌∷◌, ◌++◌, length, get_or, Some, sym, ap, subst, ◌∙◌, arith}
use Rattle.std.proofs.lemmas.List.{get_or_default}
use Rattle.std.proofs.lemmas.Option.{slice_get-get_or}
use Rattle.cache_flow.specs.Flows.{accesses_of}
use Rattle.cache_sets.specs.declared.verdict.Verdict.{Verdict}
use Rattle.cache_sets.specs.Verdicts.{AreVerdictsOf}
use Rattle.cache_sets.proofs.VerdictLemmas.{NodesToldSoFar, all_told, nodes_more}
use Rattle.cache_sets.proofs.verdict.verdicts.Goals as goal

pub returns : goal.returns
returns c =
    let end : c.loop-node.node ≡ length c.args.flow.now.nodes = omega (arith, c.loop-node-test.false, c.loop-node.auto.node-end, c.len-node-end.ensures) in
    all_told c.args.shape c.args.flow.now c.requires.flow c.least_solutions_show.ensures.must c.least_solutions_show.ensures.may c.in_ok-must.must.items c.in_ok-may.may.items
    c.in_ok-must.ensures.least c.in_ok-may.ensures.least c.in_ok-must.ensures.long c.in_ok-may.ensures.long c.in_ok-must.ensures.each c.in_ok-may.ensures.each
    c.loop-node.verdicts.items
    (subst (λ n. NodesToldSoFar c.args.flow.now c.in_ok-must.must.items c.in_ok-may.may.items n c.loop-node.verdicts.items) end c.loop-node.invariant)

pub loop-node-preserved : goal.loop-node-preserved
loop-node-preserved c =
    let f = c.args.flow.now in
    let node = c.loop-node.node in
    let is : c.as_slice-accesses.result.now ≡ accesses_of f node =
    c.as_slice-accesses.ensures ∙ c.index-as_slice-node.is ∙ ap (λ ns. get_or ns node c.index-as_slice-node.result) c.as_slice.ensures
    ∙ get_or_default f.nodes node c.index-as_slice-node.result [] (omega (arith, c.loop-node-test.true, c.len-node-end.ensures)) in
    let told = subst (λ xs. AreVerdictsOf c.index.result.now c.index-in-loop-node.result.now xs c.in_ok-told.told.items) is c.in_ok-told.ensures in
    nodes_more f c.in_ok-must.must.items c.in_ok-may.may.items node c.loop-node.verdicts.items c.push.new.self.items c.in_ok-told.told.items c.index.result.now c.index-in-loop-node.result.now
    (slice_get-get_or c.in_ok-must.must.items node c.index.result.now (omega (arith, c.loop-node-test.true, c.len-node-end.ensures, c.in_ok-must.ensures.long)) ∙ ap Some (sym c.index.ensures))
    (slice_get-get_or c.in_ok-may.may.items node c.index-in-loop-node.result.now (omega (arith, c.loop-node-test.true, c.len-node-end.ensures, c.in_ok-may.ensures.long)) ∙ ap Some (sym c.index-in-loop-node.ensures))
    told (c.in_ok-push.ensures.items ∙ ap (λ (ts : List Verdict). c.loop-node.verdicts.items ++ ts ∷ []) c.new.ensures) c.loop-node.invariant
