use Rattle.std.proofs.Common.{rules, ◌≡◌, ◌<◌, ◌^◌, length}
use Rattle.xdd_ops.specs.Text.{diagram_text}
use Rattle.xdd_ops.proofs.TextLemmas.{text_printed}
use Rattle.xdd_ops.proofs.print.text_of.Goals as goal

pub returns : goal.returns
returns c =
    let is : c.push_lines.new.text.items ≡ diagram_text c.args.table.now c.in_ok-order.order = search rules in
    let count : length c.in_ok-order.order < 2 ^ 64 = search rules in
    text_printed c.args.table.now c.args.d.place c.push_lines.new.text.items c.in_ok-order.order c.in_ok-order.ensures.walk is count c.in_ok-push_lines.ensures.table c.in_ok-push_lines.ensures.fit
