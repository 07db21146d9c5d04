use Rattle.std.proofs.Common.{List, length, ap, sym, ◌∙◌, subst}
use Rattle.std.proofs.lemmas.List.{length-replicate}
use Rattle.flow_graph.specs.declared.program.Function.{Function}
use Rattle.flow_graph.specs.declared.program.LoopInfo.{LoopInfo}
use Rattle.run_machine.specs.Judging.{loops_at, IsGap}
use Rattle.run_machine.proofs.Frames.{opens, loops_there, loops_absent, loops_behind, no_gap, no_loops, loops_at_place}
use Rattle.run_machine.proofs.frame.Frame.open.Goals as goal

pub returns-in_ok-counts-in-Ok-clause-opened : goal.returns-in_ok-counts-in-Ok-clause-opened
returns-in_ok-counts-in-Ok-clause-opened c =
    opens (loops_at c.args.functions.now c.in-Ok.place) c.args.entry (length c.as_slice-count.result.now) c.in_ok-counts-in-Ok.counts.items c.in_ok-counts-in-Ok.ensures

pub returns-in_ok-counts-in-Ok-clause-frame : goal.returns-in_ok-counts-in-Ok-clause-frame
returns-in_ok-counts-in-Ok-clause-frame c = record {
  loops = loops_there c.args.functions.now c.args.entry c.in-Ok.place c.index-functions-place.result c.requires.entries c.in-Ok.ensures c.index-functions-place.is;
  counts = ap length c.in_ok-counts-in-Ok.ensures ∙ length-replicate (length c.as_slice-count.result.now) 0
      ∙ ap length (c.as_slice-count.ensures ∙ ap (λ (f : Function). f.loops) (sym c.index-functions-place.is)
      ∙ sym (loops_at_place c.args.functions.now c.in-Ok.place c.index-functions-place.result c.in-Ok.ensures.0 c.index-functions-place.is));
  gap = no_gap (loops_at c.args.functions.now c.in-Ok.place);
}

pub returns-in-Err-clause-opened : goal.returns-in-Err-clause-opened
returns-in-Err-clause-opened c =
    opens (loops_at c.args.functions.now (length c.args.functions.now)) c.args.entry 0 c.new.result.items c.new.ensures.items

pub returns-in-Err-clause-frame : goal.returns-in-Err-clause-frame
returns-in-Err-clause-frame c = record {
  loops = loops_absent c.args.functions.now c.args.entry c.in-Err.field-0 c.in-Err.ensures;
  counts = ap length c.new.ensures.items ∙ ap length (sym (loops_behind c.args.functions.now));
  gap = subst (λ (loops : List LoopInfo). IsGap loops 0 4294967296) (sym (loops_behind c.args.functions.now)) (no_loops 4294967296);
}
