use Rattle.std.proofs.Common.{◌<◌, ◌^◌, rules}
use Rattle.machine_desc.proofs.Counts.{count_within, count_past}
use Rattle.machine_desc.proofs.fault.count_fault.Goals as goal

pub returns-then-value-most : goal.returns-then-value-most
returns-then-value-most c =
    let small : c.len-value.result < 2 ^ 63 = search rules in
    count_within c.args.most c.len-value.result c.args.items.now.items small c.ranges.most (search rules) c.if-value-most.true

pub returns-else-value-most : goal.returns-else-value-most
returns-else-value-most c =
    let small : c.len-value.result < 2 ^ 63 = search rules in
    count_past c.args.most c.len-value.result c.args.items.now.items small c.ranges.most (search rules) c.if-value-most.false
