use Rattle.std.proofs.Common.{◌≡◌, ◌++◌, ◌∷◌, []}
use Rattle.flow_graph.proofs.FunctionLemmas.{infos_more}
use Rattle.flow_graph.proofs.function.loop_infos.Goals as goal

pub loop-found-preserved : goal.loop-found-preserved
loop-found-preserved c =
    let facts = c.args.facts.now in
    let addresses = c.args.addresses.now in
    let loops = c.args.loops.now in
    let i = c.loop-found.found-index in
    let pushed : c.push.new.self.items ≡ c.loop-found.infos.items ++ c.in_ok-loop_info.field-0 ∷ [] = c.in_ok-push.ensures.items in
    rw pushed
    (infos_more facts addresses loops c.loop-found.infos.items i c.found-item.result c.in_ok-loop_info.field-0 c.loop-found-test.true c.found-item.is c.loop-found.invariant c.in_ok-loop_info.ensures)
