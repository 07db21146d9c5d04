use Rattle.std.proofs.Common.{◌≡◌, ◌≤◌, ◌<◌, ℕ, List, [], ◌∷◌, Option, Some, None, MatchOption, length, refl, sym, ap, subst, ◌∙◌, inr, arith}
use Rattle.std.proofs.lemmas.Option.{MatchOption-at_some}
use Rattle.std.proofs.lemmas.List.{length-map}
use Rattle.std.specs.Option.{IsSome}
use Rattle.indexmap.specs.IndexSet.{insert_key}
use Rattle.flow_ctx.specs.declared.place.Place.{Place}
use Rattle.flow_ctx.specs.declared.unfolded.Call.{Call}
use Rattle.flow_ctx.specs.declared.unfolded.UNode.{UNode}
use Rattle.flow_ctx.specs.Found.{nodes_of}
use Rattle.flow_ctx.specs.Nodes.{BeginsAt}
use Rattle.flow_ctx.specs.Targets.{node_of}
use Rattle.flow_ctx.proofs.FoundLemmas.{no_more, all_found, begun, different, explored_more, found_has_place}
use Rattle.flow_ctx.proofs.PlaceLemmas.{place_eq, place_tells}
use Rattle.flow_ctx.proofs.explore.explore.Goals as goal
use Rattle.flow_ctx.proofs.explore.explore.Goals.{else-loop-i-test, then-loop-i-test+in_default}

pub unwrap-start-requires : goal.unwrap-start-requires
unwrap-start-requires c = by c.place_at.result c.place_at.ensures
  where
    by : (o : Option Place) → MatchOption o ((n : UNode) → BeginsAt c.args.program.now n c.new.result.items c.args.program.now.start → ⊥) (λ place. BeginsAt c.args.program.now (node_of place) c.new.result.items c.args.program.now.start) → IsSome o
    by None h = absurd (h c.requires.first (subst (λ (l : List Call). BeginsAt c.args.program.now c.requires.first l c.args.program.now.start) (sym c.new.ensures.items) c.requires.starts))
    by (Some x) h = refl

pub loop-i-init : goal.loop-i-init
loop-i-init c =
    let program = c.args.program.now in
    let p = c.unwrap-start.result in
    let b = MatchOption-at_some ((n : UNode) → BeginsAt program n c.new.result.items program.start → ⊥) (λ place. BeginsAt program (node_of place) c.new.result.items program.start) p c.unwrap-start.ensures c.place_at.ensures in
    let keys : c.insert.new.self.keys ≡ p ∷ [] = c.in_ok-insert.ensures.keys ∙ ap (λ (l : List Place). insert_key place_eq l p) c.new-places.ensures.empty in (
      omega (arith, ap length keys),
      begun program c.requires c.insert.new.self.keys p keys
          (subst (λ (l : List Call). BeginsAt program (node_of p) l program.start) c.new.ensures.items b),
    )

pub targets_of-requires-clause-place : goal.targets_of-requires-clause-place
targets_of-requires-clause-place c = found_has_place c.args.program.now c.requires c.loop-i.i c.loop-i.places.keys c.loop-i.i c.in-Some.place.now c.loop-i.invariant.1 (sym c.in-Some.ensures.key)

pub returns-then-len-gt-MOST_NODES-clause-refused : goal.returns-then-len-gt-MOST_NODES-clause-refused
returns-then-len-gt-MOST_NODES-clause-refused c =
    let e = explored_more c.args.program.now c.requires c.loop-i.i c.loop-i.places.keys c.add.new.places.keys c.in-Some.place.now c.in_ok-targets.targets.items c.loop-i.invariant.1 (sym c.in-Some.ensures.key) c.in_ok-targets.ensures c.in_ok-add.ensures in
    inr (
      refl,
      record {
        nodes = nodes_of c.add.new.places.keys;
        many = rw length-map (omega (arith, c.len.ensures.len));
        different = different place_eq place_tells c.add.new.places.keys c.len.ensures.unique;
        reached = e.reached;
      },
    )

pub loop-i-preserved : goal.loop-i-preserved
loop-i-preserved c = (
  omega (arith, c.len.ensures.len),
  explored_more c.args.program.now c.requires c.loop-i.i c.loop-i.places.keys c.add.new.places.keys c.in-Some.place.now c.in_ok-targets.targets.items c.loop-i.invariant.1 (sym c.in-Some.ensures.key) c.in_ok-targets.ensures c.in_ok-add.ensures,
)

pub returns-clause-found : goal.returns-clause-found
returns-clause-found c = all_found c.args.program.now c.requires c.loop-i.i c.loop-i.places.keys (elim c.loop-i-test.branch [
  | else-loop-i-test w ↦ omega (arith, c.loop-i.invariant.0)
  | then-loop-i-test+in_default w ↦ no_more c.loop-i.places.keys c.loop-i.i w.in_default.ensures.key
]) c.loop-i.invariant.1
