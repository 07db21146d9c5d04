use Rattle.std.proofs.Common.{◌≡◌, List, length, ap, sym, ◌∙◌, subst, arith}
use Rattle.std.specs.Vec.{with_items}
use Rattle.flow_graph.specs.declared.program.Function.{Function}
use Rattle.flow_graph.specs.declared.program.LoopInfo.{LoopInfo}
use Rattle.run_machine.specs.Judging.{loops_at, IsGap}
use Rattle.run_machine.proofs.Frames.{stays, none_behind, moves, loops_at_place, written_items}
use Rattle.run_machine.proofs.frame.Frame.enter.Goals as goal

pub returns-then-from-self-clause-moved : goal.returns-then-from-self-clause-moved
returns-then-from-self-clause-moved c = λ callers.
    stays c.args.functions.now c.args.self.now c.args.to callers c.args.totals.now c.requires.frame (c.requires.frame.gap.none c.args.to (omega arith) (omega arith))

pub returns-then-self-functions-clause-moved : goal.returns-then-self-functions-clause-moved
returns-then-self-functions-clause-moved c = λ callers.
    stays c.args.functions.now c.args.self.now c.args.to callers c.args.totals.now c.requires.frame (none_behind c.args.functions.now c.args.self.now.place c.args.to (omega arith))

pub arrive-requires-clause-counts : goal.arrive-requires-clause-counts
arrive-requires-clause-counts c =
    let same : loops_at c.args.functions.now c.args.self.now.place ≡ c.index-functions-self.result.loops = loops_at_place c.args.functions.now c.args.self.now.place c.index-functions-self.result (omega arith) c.index-functions-self.is in
    let slice : c.as_slice-loops.result.now ≡ c.index-functions-self.result.loops = c.as_slice-loops.ensures ∙ ap (λ (f : Function). f.loops) (sym c.index-functions-self.is) in
    ap length c.as_mut_slice.ensures.value ∙ c.requires.frame.counts ∙ ap length (same ∙ sym slice)

pub returns-clause-moved : goal.returns-clause-moved
returns-clause-moved c = λ callers.
    let same : loops_at c.args.functions.now c.args.self.now.place ≡ c.index-functions-self.result.loops = loops_at_place c.args.functions.now c.args.self.now.place c.index-functions-self.result (omega arith) c.index-functions-self.is in
    let slice : c.as_slice-loops.result.now ≡ c.index-functions-self.result.loops = c.as_slice-loops.ensures ∙ ap (λ (f : Function). f.loops) (sym c.index-functions-self.is) in
    let written = written_items c.args.self.now.counts c.arrive.new.counts (c.arrive.auto.counts ∙ ap length c.as_mut_slice.ensures.value) in
    moves c.args.functions.now c.args.self.now c.args.to c.as_slice-loops.result.now c.in_ok-arrival.arrival.breach c.as_mut_slice.result.now c.arrive.new.counts (with_items c.args.self.now.counts c.arrive.new.counts) callers c.args.totals.now c.arrive.new.totals
    c.requires.frame (same ∙ sym slice) c.as_mut_slice.ensures.value written (c.in_ok-arrival.ensures.moved c.args.self.now.entry callers)

pub returns-clause-frame : goal.returns-clause-frame
returns-clause-frame c =
    let same : loops_at c.args.functions.now c.args.self.now.place ≡ c.index-functions-self.result.loops = loops_at_place c.args.functions.now c.args.self.now.place c.index-functions-self.result (omega arith) c.index-functions-self.is in
    let slice : c.as_slice-loops.result.now ≡ c.index-functions-self.result.loops = c.as_slice-loops.ensures ∙ ap (λ (f : Function). f.loops) (sym c.index-functions-self.is) in
    let long = c.arrive.auto.counts ∙ ap length c.as_mut_slice.ensures.value in
    let written = written_items c.args.self.now.counts c.arrive.new.counts long in
    record {
      loops = c.requires.frame.loops;
      counts = ap length written ∙ long ∙ c.requires.frame.counts;
      gap = subst (λ (loops : List LoopInfo). IsGap loops c.in_ok-arrival.arrival.gap.low c.in_ok-arrival.arrival.gap.high) (sym (same ∙ sym slice)) c.in_ok-arrival.ensures.gap;
    }
