use Rattle.std.proofs.Common.{◌≡◌, false, sym, ◌∙◌}
use Rattle.xdd_table.proofs.OrderLemmas.{end_branch, end_leaf}
use Rattle.xdd_table.specs.Order.{has, met}
use Rattle.xdd_table.proofs.order.+finish.Goals as goal
use Rattle.xdd_table.proofs.order.+finish.Goals.{in-Branch+in_ok-finish+in_ok-finish-2, in_default}

pub returns-then-contains : goal.returns-then-contains
returns-then-contains t c = met (sym c.contains.ensures ∙ c.if-contains.true)

pub returns : goal.returns
returns t c = let new : has c.args.done.now.keys c.args.d.place ≡ false = sym c.contains.ensures ∙ c.if-contains.false in
    elim c.match-node.branch [
      | in-Branch+in_ok-finish+in_ok-finish-2 w ↦
          end_branch c.args.table.now w.in-Branch.ensures.table c.args.d.place w.in-Branch.event w.in-Branch.hit w.in-Branch.miss c.args.done.now.keys w.finish.new.done.keys w.finish-in-Branch.new.done.keys c.insert.new.self.keys
          new w.in-Branch.ensures.value w.in_ok-finish.ensures w.in_ok-finish-2.ensures (rw w.done-is at c.in_ok-insert.ensures.keys)
      | in_default w ↦
          end_leaf c.args.table.now w.in_default.ensures.table c.args.d.place w.in_default.field-0 c.args.done.now.keys c.insert.new.self.keys
          new w.in_default.ensures.value (rw w.done-is at c.in_ok-insert.ensures.keys)
    ]
