use Rattle.std.proofs.Common.{sym, ◌∙◌, arith}
use Rattle.std.proofs.lemmas.Bool.{false≢true}
use Rattle.cache_lru.proofs.Lines.{distinct_none, distinct_more, earlier_apart}
use Rattle.cache_lru.proofs.set.are_different.Goals as goal

pub loop-i-init : goal.loop-i-init
loop-i-init c = distinct_none c.args.lines.now

pub returns-then-contains : goal.returns-then-contains
returns-then-contains c = (
  λ e. absurd (false≢true e),
  λ d. sym (earlier_apart c.args.lines.now c.loop-i.i d (omega arith)) ∙ sym c.contains.ensures.value ∙ c.if-contains.true,
)

pub loop-i-preserved : goal.loop-i-preserved
loop-i-preserved c = distinct_more c.args.lines.now c.loop-i.i (omega arith) c.loop-i.invariant (sym c.contains.ensures.value ∙ c.if-contains.false)
