use Rattle.std.proofs.Common.{◌<◌, ℕ, length, get_or, sym, subst, ◌∙◌, arith}
use Rattle.std.proofs.lemmas.List.Elements.{Contains-get_or}
use Rattle.graph_loops.specs.Graph.{lists_of}
use Rattle.graph_loops.proofs.Places.{lists_length}
use Rattle.graph_loops.proofs.SourceLemmas.{added_next}
use Rattle.graph_loops.proofs.sources.add_source.Goals as goal

pub push_at-requires : goal.push_at-requires
push_at-requires c =
    let v = get_or c.args.targets.now c.loop-v.v-index 0 in
    let within : v < length c.args.sources.now = c.requires.within v (Contains-get_or c.args.targets.now c.loop-v.v-index 0 (omega arith)) in
    omega (arith, c.loop-v.auto.sources)

pub loop-v-preserved : goal.loop-v-preserved
loop-v-preserved c =
    let v = get_or c.args.targets.now c.loop-v.v-index 0 in
    let within : v < length c.args.sources.now = c.requires.within v (Contains-get_or c.args.targets.now c.loop-v.v-index 0 (omega arith)) in
    added_next (lists_of c.args.sources.now) (lists_of c.loop-v.sources) (lists_of c.push_at.new.lists) c.args.u c.args.targets.now c.loop-v.v-index (omega arith)
    (subst (λ (n : ℕ). v < n) (sym (c.loop-v.invariant.count ∙ lists_length c.args.sources.now)) within) c.loop-v.invariant c.in_ok-push_at.ensures
