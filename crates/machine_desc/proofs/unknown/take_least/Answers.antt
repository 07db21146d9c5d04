use Rattle.std.proofs.Common.{arith, ◌∙◌, sym}
use Rattle.std.proofs.lemmas.Bool.{false≢true}
use Rattle.machine_desc.proofs.Least.{alone, replaced_by, stays_by}
use Rattle.machine_desc.proofs.unknown.take_least.Goals as goal
use Rattle.machine_desc.proofs.unknown.take_least.Goals.{then-is_before, else-is_before}

pub loop-index-init : goal.loop-index-init
loop-index-init c = (omega arith, omega arith, alone c.args.keys.items)

pub loop-index-preserved : goal.loop-index-preserved
loop-index-preserved c = elim c.if-is_before.branch [
  | then-is_before w ↦ rw w.least-is (
    omega arith,
    omega arith,
    replaced_by c.args.keys.items c.loop-index.least c.loop-index.index _ _ (omega arith) (omega (arith, c.loop-index.invariant.0, c.loop-index.invariant.1)) c.index.ensures c.index-in-loop-index.ensures (c.is_before.ensures.0 w.if-is_before.true) c.loop-index.invariant.2,
  )
  | else-is_before w ↦ rw w.least-is (
    omega arith,
    omega arith,
    stays_by c.args.keys.items c.loop-index.least c.loop-index.index _ _ (omega arith) (omega (arith, c.loop-index.invariant.0, c.loop-index.invariant.1)) c.index.ensures c.index-in-loop-index.ensures (λ less. false≢true (sym w.if-is_before.false ∙ c.is_before.ensures.1 less)) c.loop-index.invariant.2,
  )
]
