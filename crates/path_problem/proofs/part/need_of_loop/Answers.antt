use Rattle.std.proofs.Common.{◌≡◌, ◌+◌, ◌<◌, ℕ, List, length, get_or, ap, refl, sym, subst, ◌∙◌}
use Rattle.std.specs.Prelude.{Option, MatchOption}
use Rattle.std.specs.List.{All}
use Rattle.std.proofs.lemmas.List.{get_or_default}
use Rattle.path_graph.specs.declared.graph.LoopArcs.{LoopArcs}
use Rattle.path_graph.specs.declared.graph.TheConstants.{LARGEST}
use Rattle.path_graph.specs.Graph.{loop_at}
use Rattle.path_problem.specs.Least.{GainsBelow, IsLeastPrice}
use Rattle.path_problem.specs.Part.{AreInner, AreNames, NeedGives}
use Rattle.path_graph.specs.Sources.{AreSame, HasArcsOf}
use Rattle.path_problem.proofs.PartLemmas.{need_gives, same_names, same_arcs}
use Rattle.path_problem.proofs.SourceLemmas.{same_below}
use Rattle.path_problem.proofs.WholeLemmas.{ok_more}
use Rattle.path_problem.proofs.part.need_of_loop.Goals as goal

-- the loop's members, whichever slice holds them
members_are : (ls loops : List LoopArcs) (l : ℕ) (arcs : LoopArcs) (members : List ℕ) → arcs ≡ get_or ls l arcs → ls ≡ loops → l < length loops → (d : LoopArcs) → members ≡ arcs.members → members ≡ (get_or loops l d).members
members_are ls loops l arcs members is same h d e = e ∙ ap (λ (a : LoopArcs). a.members) (is ∙ ap (λ xs. get_or xs l arcs) same ∙ get_or_default loops l arcs d h)

same_at : (members listed order slice : List ℕ) → listed ≡ members → AreSame listed order → slice ≡ order → AreSame members slice
same_at members listed order slice e same is =
    let F : List ℕ → Type 0 = λ xs. AreSame xs slice in
    subst F e (subst (AreSame listed) (sym is) same)

pub arcs_of-requires-clause-vertices : goal.arcs_of-requires-clause-vertices
arcs_of-requires-clause-vertices c =
    let g = c.args.layout.now.graph.now in
    let l = c.args.number in
    let e : c.as_slice-2.result.now ≡ (loop_at g l).members = members_are c.as_slice.result.now g.loops l c.index-as_slice-number.result c.as_slice-2.result.now c.index-as_slice-number.is c.as_slice.ensures c.requires.number _ c.as_slice-2.ensures in
    same_below (length g.finish) (loop_at g l).members c.as_slice-3.result.now (same_at _ _ _ _ e c.in_ok-members.ensures c.as_slice-3.ensures.value) (c.requires.layout.graph.loops l c.requires.number).members

pub place_members-requires : goal.place_members-requires
place_members-requires c =
    let g = c.args.layout.now.graph.now in
    let l = c.args.number in
    let e : c.as_slice-2.result.now ≡ (loop_at g l).members = members_are c.as_slice.result.now g.loops l c.index-as_slice-number.result c.as_slice-2.result.now c.index-as_slice-number.is c.as_slice.ensures c.requires.number _ c.as_slice-2.ensures in
    let F : ℕ → Type 0 = λ n. All (λ v. v < n) c.as_slice-4.result.now in
    subst F (sym c.requires.places) (same_below (length g.finish) (loop_at g l).members c.as_slice-4.result.now (same_at _ _ _ _ e c.in_ok-members.ensures c.as_slice-4.ensures.value) (c.requires.layout.graph.loops l c.requires.number).members)

pub inner_links-requires-clause-names : goal.inner_links-requires-clause-names
inner_links-requires-clause-names c =
    let g = c.args.layout.now.graph.now in
    let l = c.args.number in
    let e : c.as_slice-2.result.now ≡ (loop_at g l).members = members_are c.as_slice.result.now g.loops l c.index-as_slice-number.result c.as_slice-2.result.now c.index-as_slice-number.is c.as_slice.ensures c.requires.number _ c.as_slice-2.ensures in
    let F : List ℕ → Type 0 = λ names. AreNames c.as_slice-4.result.now names c.place_members.new.places in
    same_names (loop_at g l).members c.as_slice-4.result.now c.as_slice-5.result.now c.place_members.new.places (same_at _ _ _ _ e c.in_ok-members.ensures c.as_slice-4.ensures.value)
    (subst F (sym c.as_slice-5.ensures.value) c.in_ok-names.ensures)

pub inner_links-requires-clause-each : goal.inner_links-requires-clause-each
inner_links-requires-clause-each c =
    let g = c.args.layout.now.graph.now in
    let l = c.args.number in
    let e : c.as_slice-2.result.now ≡ (loop_at g l).members = members_are c.as_slice.result.now g.loops l c.index-as_slice-number.result c.as_slice-2.result.now c.index-as_slice-number.is c.as_slice.ensures c.requires.number _ c.as_slice-2.ensures in
    same_arcs g (loop_at g l).members c.as_slice-3.result.now c.as_slice-6.result.now (same_at _ _ _ _ e c.in_ok-members.ensures c.as_slice-3.ensures.value)
    (subst (HasArcsOf g c.as_slice-3.result.now) (sym c.as_slice-6.ensures.value) c.in_ok-leaving.ensures.each)

pub returns : goal.returns
returns c =
    let g = c.args.layout.now.graph.now in
    let l = c.args.number in
    let links = c.as_slice-7.result.now in
    let inner = subst (AreInner g (loop_at g l) c.args.weights.now c.as_slice-5.result.now c.place_members.new.places) (sym c.as_slice-7.ensures.value) c.in_ok-links.ensures in
    ok_more (λ (o : Option ℕ). MatchOption o (GainsBelow links (LARGEST + 1)) (IsLeastPrice links)) (NeedGives g l c.args.weights.now) c.least_price.result
    (λ o m. need_gives g l (loop_at g l) c.args.weights.now c.as_slice-5.result.now c.place_members.new.places links o c.requires.layout.graph c.requires.number refl c.requires.weights inner m) c.least_price.ensures
