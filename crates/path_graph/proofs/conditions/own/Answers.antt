use Rattle.std.proofs.Common.{◌≡◌, ℕ, ◌+◌, ◌<◌, ◌≤◌, List, set, length, get_or, sym, ap, subst, ◌∙◌}
use Rattle.std.specs.Prelude.{◌⊎◌}
use Rattle.std.proofs.Common.{arith}
use Rattle.std.proofs.lemmas.Bool.{false≢true}
use Rattle.std.proofs.lemmas.List.{get_or_default}
use Rattle.path_graph.specs.declared.graph.LoopArcs.{LoopArcs}
use Rattle.path_graph.specs.Graph.{loop_at}
use Rattle.path_graph.proofs.TestedLemmas.{OwnsSoFar, owns_begin, owns_more, owns_all, back_below, listed_free}
use Rattle.path_graph.proofs.conditions.own.Goals as goal

pub loop-arc-init : goal.loop-arc-init
loop-arc-init c = owns_begin c.args.graph.now c.args.number c.args.owners.now c.requires.owners

pub loop-arc-preserved : goal.loop-arc-preserved
loop-arc-preserved c =
    let g = c.args.graph.now in
    let n = c.args.number in
    let i = c.loop-arc.arc-index in
    let owners = c.loop-arc.owners in
    let listed = c.as_slice-arc-items.result.now in
    let is : listed ≡ (loop_at g n).back = c.as_slice-arc-items.ensures ∙ ap (λ (ls : List LoopArcs). (get_or ls n c.index-as_slice-number.result).back) c.as_slice.ensures
    ∙ ap (λ (l : LoopArcs). l.back) (get_or_default g.loops n c.index-as_slice-number.result _ c.requires.number) in
    let F : List ℕ → Type 0 = λ xs. OwnsSoFar g n (i + 1) (set owners (get_or xs i 0) (n + 1)) in
    let free = c.may_own.ensures.0 c.if-not-may_own.false in
    subst F (sym is)
    (owns_more g n i owners c.loop-arc.invariant (subst (λ (xs : List ℕ). i < length xs) is c.loop-arc-test.true)
    (subst (λ (xs : List ℕ). get_or xs i 0 < length owners) is c.if-arc-owners.false)
    (subst (λ (xs : List ℕ). (get_or owners (get_or xs i 0) 0 ≡ 0) ⊎ (get_or owners (get_or xs i 0) 0 ≡ n + 1)) is free))

pub returns-clause-owners : goal.returns-clause-owners
returns-clause-owners c = λ _.
    let g = c.args.graph.now in
    let n = c.args.number in
    let is : c.as_slice-arc-items.result.now ≡ (loop_at g n).back = c.as_slice-arc-items.ensures ∙ ap (λ (ls : List LoopArcs). (get_or ls n c.index-as_slice-number.result).back) c.as_slice.ensures
    ∙ ap (λ (l : LoopArcs). l.back) (get_or_default g.loops n c.index-as_slice-number.result _ c.requires.number) in
    owns_all g n c.loop-arc.arc-index c.loop-arc.owners c.loop-arc.invariant (subst (λ (xs : List ℕ). length xs ≤ c.loop-arc.arc-index) is c.loop-arc-test.false)

pub returns-then-arc-owners-clause-passes : goal.returns-then-arc-owners-clause-passes
returns-then-arc-owners-clause-passes c = λ graph.
    let g = c.args.graph.now in
    let n = c.args.number in
    let is : c.as_slice-arc-items.result.now ≡ (loop_at g n).back = c.as_slice-arc-items.ensures ∙ ap (λ (ls : List LoopArcs). (get_or ls n c.index-as_slice-number.result).back) c.as_slice.ensures
    ∙ ap (λ (l : LoopArcs). l.back) (get_or_default g.loops n c.index-as_slice-number.result _ c.requires.number) in
    let below = back_below g n c.loop-arc.arc-index c.as_slice-arc-items.result.now graph c.requires.number is c.loop-arc-test.true in
    let long = c.loop-arc.auto.owners in
    let count = c.requires.count in
    absurd (omega arith)

pub returns-then-not-may_own-clause-passes : goal.returns-then-not-may_own-clause-passes
returns-then-not-may_own-clause-passes c = λ graph.
    let g = c.args.graph.now in
    let n = c.args.number in
    let is : c.as_slice-arc-items.result.now ≡ (loop_at g n).back = c.as_slice-arc-items.ensures ∙ ap (λ (ls : List LoopArcs). (get_or ls n c.index-as_slice-number.result).back) c.as_slice.ensures
    ∙ ap (λ (l : LoopArcs). l.back) (get_or_default g.loops n c.index-as_slice-number.result _ c.requires.number) in
    let free = listed_free g n c.loop-arc.arc-index c.as_slice-arc-items.result.now c.loop-arc.owners graph c.loop-arc.invariant c.requires.number is c.loop-arc-test.true in
    absurd (false≢true (sym c.if-not-may_own.true ∙ c.may_own.ensures.1 free))
