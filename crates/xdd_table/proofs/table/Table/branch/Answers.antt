use Rattle.std.proofs.Common.{ℕ, ◌<◌, List, length, Result, Ok, Err, IfOk}
use Rattle.wx_text.specs.declared.memory.NoMemory.{NoMemory}
use Rattle.xdd_table.specs.declared.node.Dd.{Dd}
use Rattle.xdd_table.specs.declared.node.Node.{Node}
use Rattle.xdd_table.specs.declared.node.Node.TheVariants.{Branch}
use Rattle.xdd_table.specs.Diagram.{EventsLess, Holds, Keeps}
use Rattle.xdd_table.proofs.StoreLemmas.{events_branch}
use Rattle.xdd_table.proofs.table.Table.branch.Goals as goal

events_ok : (old new : List Node) (event : ℕ) (hit miss : Dd) (r : Result Dd NoMemory) → hit.place < length old → miss.place < length old
    → IfOk r (λ d. Holds old new (Branch event hit miss) d.place) → Keeps old new
    → IfOk r (λ d. (bound : ℕ) → event < bound → EventsLess old hit.place bound → EventsLess old miss.place bound → EventsLess new d.place bound)
events_ok old new event hit miss (Ok d) h m holds keeps = λ bound less below_hit below_miss.
    events_branch new d.place event bound hit miss holds.at less (keeps.events hit.place bound h below_hit) (keeps.events miss.place bound m below_miss)
events_ok old new event hit miss (Err e) h m holds keeps = tt

pub returns-clause-events : goal.returns-clause-events
returns-clause-events c = rw (← c.self.view_is) (events_ok c.self.inside.nodes.keys c.store.new.nodes.keys c.args.event c.args.hit c.args.miss c.store.result (rw c.self.view_is c.requires.hit_in) (rw c.self.view_is c.requires.miss_in) c.store.ensures.place c.store.ensures.kept)
