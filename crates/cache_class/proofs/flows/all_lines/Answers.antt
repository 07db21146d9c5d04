use Rattle.std.proofs.Common.{ℕ, List, sym, subst}
use Rattle.cache_class.proofs.LineLemmas.{AllSoFar, all_none, all_more, all_listed, lines_ascend}
use Rattle.cache_class.proofs.flows.all_lines.Goals as goal

pub loop-accesses-init : goal.loop-accesses-init
loop-accesses-init c = subst (λ (ls : List ℕ). AllSoFar c.args.nodes.now 0 ls) (sym c.new-set.ensures.empty) (all_none c.args.nodes.now)

pub loop-accesses-preserved : goal.loop-accesses-preserved
loop-accesses-preserved c =
    all_more c.args.nodes.now c.loop-accesses.set.keys c.add_lines.new.set.keys c.accesses-item.result c.as_slice.result.now c.loop-accesses.accesses-index
    c.loop-accesses-test.true c.accesses-item.is c.as_slice.ensures c.in_ok-add_lines.ensures c.loop-accesses.invariant

pub returns-clause-ascending : goal.returns-clause-ascending
returns-clause-ascending c = lines_ascend c.loop-accesses.set.keys c.in_ok-lines.lines.items c.in_ok-lines.ensures.all c.in_ok-lines.ensures.ordered

pub returns-clause-exact : goal.returns-clause-exact
returns-clause-exact c =
    all_listed c.args.nodes.now c.loop-accesses.set.keys c.in_ok-lines.lines.items c.loop-accesses.accesses-index c.loop-accesses-test.false c.in_ok-lines.ensures.all
    c.loop-accesses.invariant
