use Rattle.std.proofs.Common.{◌≡◌, List, ℕ, suc, ◌<◌, length, slice_get, Some, get_or, arith}
use Rattle.std.proofs.lemmas.Option.{slice_get-get_or}
use Rattle.xdd_table.specs.declared.node.Node.{Node}
use Rattle.xdd_table.specs.declared.node.Node.TheVariants.{Leaf}
use Rattle.xdd_table.specs.Diagram.{Combination, time, time_of_node, IsTable}
use Rattle.xdd_table.proofs.Canonical.{unread}
use Rattle.xdd_table.proofs.TimeLaws.{time-node}
use Rattle.xdd_table.proofs.table.Table.node.Goals as goal

read_time : (nodes nodes' : List Node) (p : ℕ) (d : Node) → IsTable nodes → nodes' ≡ nodes → p < length nodes → (f : Combination) → time nodes f p ≡ time_of_node nodes f (get_or nodes' p d)
read_time nodes nodes' p d table e h f =
    let at : slice_get nodes p ≡ Some (get_or nodes p d) = slice_get-get_or nodes p d h in
    rw e (time-node f nodes p (get_or nodes p d) at (table.each p (get_or nodes p d) at))

pub returns-clause-times : goal.returns-clause-times
returns-clause-times c = rw (← c.self.view_is) (read_time c.self.inside.nodes.keys c.as_slice.result.now c.args.d.place (Leaf 0) c.self.invariant c.as_slice.ensures.keys (rw c.self.view_is c.requires))

pub returns-clause-unread : goal.returns-clause-unread
returns-clause-unread c =
    let table : IsTable c.args.self.now = rw (← c.self.view_is) c.self.invariant in
    λ f e b after. unread c.args.self.now table (suc c.args.d.place) c.args.d.place f e b (omega arith) c.requires after
