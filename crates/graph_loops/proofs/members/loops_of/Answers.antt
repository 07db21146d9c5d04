use Rattle.std.proofs.Common.{◌≡◌, ◌+◌, List, sym, ap, ◌∙◌, subst, arith}
use Rattle.std.proofs.lemmas.Option.{MatchOption-at_some, MatchOption-at_none}
use Rattle.wx_base.specs.Paths.{IsHead}
use Rattle.graph_loops.specs.declared.loops.Loop.{Loop}
use Rattle.graph_loops.specs.Graph.{edges}
use Rattle.graph_loops.specs.Loops.{AreLoops, IsLoop}
use Rattle.graph_loops.proofs.MemberLemmas.{LoopsBelow, loop_more, loop_absent, all_loops}
use Rattle.graph_loops.proofs.members.loops_of.Goals as goal
use Rattle.graph_loops.proofs.members.loops_of.Goals.{in-Some+in_ok-push, in_default}

pub loop-head-preserved : goal.loop-head-preserved
loop-head-preserved c =
    let lists = c.args.graph.now in
    let entry = c.args.ways.now.entry in
    let head = c.loop-head.head in
    let None : Type 0 = IsHead (edges lists) entry head → ⊥ in
    let One : Loop → Type 0 = λ l. (l.head ≡ head) × IsLoop lists entry l in
    elim c.match-branch-2.branch [
      | in-Some+in_ok-push w ↦
          let found = MatchOption-at_some None One w.in-Some.found w.in-Some.is c.in_ok-found.ensures in
          loop_more lists entry head c.loop-head.loops.items c.loop-head.invariant c.match-branch-2.loops.items w.in-Some.found (ap (λ v. v.items) w.loops-is ∙ w.in_ok-push.ensures.items) found.0 found.1
      | in_default w ↦
          subst (λ (ls : List Loop). LoopsBelow lists entry (head + 1) ls) (sym (ap (λ v. v.items) w.loops-is))
          (loop_absent lists entry head c.loop-head.loops.items c.loop-head.invariant (MatchOption-at_none None One w.in_default.is c.in_ok-found.ensures))
    ]

pub returns : goal.returns
returns c =
    let lists = c.args.graph.now in
    let entry = c.args.ways.now.entry in
    subst (λ (ls : List Loop). AreLoops lists entry ls) (sym c.new.ensures)
    (all_loops lists entry c.loop-head.head c.loop-head.loops.items c.loop-head.invariant c.len-head-end.ensures.graph (omega (arith, c.len-head-end.ensures.count)))
