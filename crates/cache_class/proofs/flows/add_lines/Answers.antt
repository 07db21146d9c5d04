use Rattle.std.proofs.lemmas.Cmp.{nat_cmp_total}
use Rattle.std.proofs.lemmas.Map.Lookups.{exact_unsigned}
use Rattle.cache_class.proofs.LineLemmas.{lines_none, lines_more, lines_all}
use Rattle.cache_class.proofs.SetLemmas.{inserted}
use Rattle.cache_class.proofs.flows.add_lines.Goals as goal

pub loop-line-init : goal.loop-line-init
loop-line-init c = lines_none c.args.lines.now c.args.set.now.keys

pub loop-line-preserved : goal.loop-line-preserved
loop-line-preserved c =
    lines_more c.args.lines.now c.args.set.now.keys c.loop-line.set.keys c.insert.new.self.keys c.loop-line.line-index c.loop-line-test.true
    (inserted nat_cmp_total exact_unsigned c.loop-line.set c.insert.new.self _ c.in_ok-insert.ensures.updates) c.loop-line.invariant

pub returns : goal.returns
returns c = lines_all c.args.lines.now c.args.set.now.keys c.loop-line.set.keys c.loop-line.line-index c.loop-line-test.false c.loop-line.invariant
