use Rattle.wx_base.specs.CacheStates.{is_rival}
use Rattle.cache_kept.proofs.NewerLemmas.{rivals_begin, rivals_more, rivals_all}
use Rattle.cache_kept.proofs.newer.add_rivals.Goals as goal

pub loop-other-init : goal.loop-other-init
loop-other-init c = rivals_begin (is_rival c.args.shape c.args.line) c.args.others.now c.args.found.now.items c.requires.distinct

pub loop-other-preserved : goal.loop-other-preserved
loop-other-preserved c =
    rivals_more (is_rival c.args.shape c.args.line) c.args.others.now c.loop-other.other-index c.args.found.now.items c.loop-other.found.items c.add_rival.new.found.items c.loop-other-test.true
    c.in_ok-add_rival.ensures.distinct c.in_ok-add_rival.ensures.exact c.loop-other.invariant

pub returns-clause-exact : goal.returns-clause-exact
returns-clause-exact c =
    rivals_all (is_rival c.args.shape c.args.line) c.args.others.now c.loop-other.other-index c.args.found.now.items c.loop-other.found.items c.loop-other-test.false c.loop-other.invariant
