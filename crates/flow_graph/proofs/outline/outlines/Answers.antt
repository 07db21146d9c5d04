use Rattle.std.proofs.Common.{◌+◌, List, sym, ap, subst, refl, ◌∙◌}
use Rattle.flow_graph.specs.declared.outline.Outline.{Outline}
use Rattle.flow_graph.specs.Outlines.{IsOutline}
use Rattle.flow_graph.proofs.OutlineLemmas.{OutlinesSoFar, outline_passed, outline_added}
use Rattle.flow_graph.proofs.outline.outlines.Goals as goal
use Rattle.flow_graph.proofs.outline.outlines.Goals.{then-is_entry+in_ok-structure+in_ok-push, else-is_entry}

pub loop-entry-preserved : goal.loop-entry-preserved
loop-entry-preserved c =
    let ways = c.args.ways.now in
    let entries = c.args.entries.now in
    let i = c.loop-entry.entry in
    let list = c.loop-entry.list.items in
    elim c.if-is_entry.branch [
      | then-is_entry+in_ok-structure+in_ok-push w ↦
          let o : Outline = record { entry = i; structure = w.in_ok-structure.structure } in
          let outline : IsOutline ways o = record { cycle = w.in_ok-structure.ensures.cycle; loops = w.in_ok-structure.ensures.loops } in
          subst (λ (xs : List Outline). OutlinesSoFar ways entries (i + 1) xs) (sym (ap (λ v. v.items) w.list-is ∙ w.in_ok-push.ensures.items))
          (outline_added ways entries i list c.loop-entry.invariant o refl outline w.if-is_entry.true)
      | else-is_entry w ↦
          subst (λ (xs : List Outline). OutlinesSoFar ways entries (i + 1) xs) (sym (ap (λ v. v.items) w.list-is))
          (outline_passed ways entries i list c.loop-entry.invariant w.if-is_entry.false)
    ]
