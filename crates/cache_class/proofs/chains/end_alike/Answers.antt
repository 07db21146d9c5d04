use Rattle.std.proofs.Common.{◌-◌, ◌<◌, get_or, length, arith}
use Rattle.std.proofs.lemmas.List.Elements.{Contains-get_or}
use Rattle.cache_class.proofs.ChainLemmas.{alike_all}
use Rattle.cache_class.proofs.chains.end_alike.Goals as goal

pub last_loop-last-requires : goal.last_loop-last-requires
last_loop-last-requires c =
    let inside : c.loop-i.i - 1 < length c.args.nodes.now = omega arith in
    c.requires (get_or c.args.nodes.now (c.loop-i.i - 1) 0) (Contains-get_or c.args.nodes.now (c.loop-i.i - 1) 0 inside)

pub last_loop-requires : goal.last_loop-requires
last_loop-requires c =
    let inside : c.loop-i.i < length c.args.nodes.now = omega arith in
    c.requires (get_or c.args.nodes.now c.loop-i.i 0) (Contains-get_or c.args.nodes.now c.loop-i.i 0 inside)

pub returns : goal.returns
returns c t = alike_all c.args.chains.now c.args.nodes.now c.loop-i.i (omega arith) c.loop-i.invariant
