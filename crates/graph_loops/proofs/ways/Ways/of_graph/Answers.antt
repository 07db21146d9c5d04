use Rattle.std.proofs.Common.{◌≡◌, ℕ, length, subst, arith}
use Rattle.graph_loops.specs.Graph.{lists_of}
use Rattle.graph_loops.specs.Ways.{AreBackInto, AreForwardInto}
use Rattle.graph_loops.proofs.Places.{lists_more}
use Rattle.graph_loops.proofs.WayLemmas.{EachSoFar, each_more, each_all, none_forward, none_back_past}
use Rattle.graph_loops.proofs.ways.Ways.of_graph.Goals as goal

pub loop-v-preserved : goal.loop-v-preserved
loop-v-preserved c =
    let forward = lists_more c.loop-v.forward.items c.push.new.self.items c.in_ok-sources.sources.forward c.in_ok-push.ensures.items in
    let back = lists_more c.loop-v.back.items c.push-in-loop-v.new.self.items c.in_ok-sources.sources.back c.in_ok-push-2.ensures.items in
    record {
      forward = each_more (AreForwardInto c.args.graph.now c.args.entry) (lists_of c.loop-v.forward.items) (lists_of c.push.new.self.items) c.loop-v.v c.in_ok-sources.sources.forward.items forward c.loop-v.invariant.forward c.in_ok-sources.ensures.forward;
      back = each_more (AreBackInto c.args.graph.now c.args.entry) (lists_of c.loop-v.back.items) (lists_of c.push-in-loop-v.new.self.items) c.loop-v.v c.in_ok-sources.sources.back.items back c.loop-v.invariant.back c.in_ok-sources.ensures.back;
    }

pub returns-clause-ways : goal.returns-clause-ways
returns-clause-ways c =
    let lists = c.args.graph.now in
    let all : c.loop-v.v ≡ length lists = omega (arith, c.len-v-end.ensures.count) in
    let forward = subst (λ (n : ℕ). EachSoFar (AreForwardInto lists c.args.entry) n (lists_of c.loop-v.forward.items)) all c.loop-v.invariant.forward in
    let back = subst (λ (n : ℕ). EachSoFar (AreBackInto lists c.args.entry) n (lists_of c.loop-v.back.items)) all c.loop-v.invariant.back in
    record {
      body = c.in_ok-body.ensures;
      forward_count = forward.count;
      forward = each_all (AreForwardInto lists c.args.entry) (lists_of c.loop-v.forward.items) (length lists) (λ v h. none_forward lists c.args.entry v c.len-v-end.ensures.graph h) forward;
      back_count = back.count;
      back = each_all (AreBackInto lists c.args.entry) (lists_of c.loop-v.back.items) (length lists) (λ v h. none_back_past lists c.args.entry v c.len-v-end.ensures.graph h) back;
    }
