use Rattle.std.proofs.Common.{◌≡◌, length, arith}
use Rattle.pipe_block.proofs.EndLemmas.{last_leaving, leavings_more, leavings_self}
use Rattle.pipe_block.proofs.ending.add_leaving.Goals as goal

pub returns-clause-leaving : goal.returns-clause-leaving
returns-clause-leaving c from b few w =
    let at' : c.len-number.result ≡ length c.args.made.now.items = omega (arith, c.len-number.ensures, c.args.made.now.ok.0) in
    last_leaving c.leaving_from.new.table c.args.made.now.items c.push.new.self.items c.args.m.now from b c.args.taken c.in_ok-leaving.leaving c.len-number.result
    c.in_ok-push.ensures.items at' (c.in_ok-leaving.ensures.leaving from b few w)

pub returns-clause-leavings : goal.returns-clause-leavings
returns-clause-leavings c = leavings_more c.args.made.now.items c.push.new.self.items c.in_ok-leaving.leaving c.in_ok-push.ensures.items

pub returns-in_err-leaving-clause-leavings : goal.returns-in_err-leaving-clause-leavings
returns-in_err-leaving-clause-leavings c = leavings_self c.args.made.now.items
