use Rattle.wcet_front.proofs.reply.refusal_lines.push_flow_refusal.Goals as goal

pub returns-in-Unsupported : goal.returns-in-Unsupported
returns-in-Unsupported c = rw c.in-Unsupported.is (rw c.as_slice.ensures at c.push_placed_word.ensures)

pub returns-in-IndirectNoTargets : goal.returns-in-IndirectNoTargets
returns-in-IndirectNoTargets c = rw c.in-IndirectNoTargets.is (rw c.as_slice-in-IndirectNoTargets.ensures at c.push_placed-in-IndirectNoTargets.ensures)

pub returns-in-LoopNoBound : goal.returns-in-LoopNoBound
returns-in-LoopNoBound c = rw c.in-LoopNoBound.is (rw c.as_slice-in-LoopNoBound.ensures at c.push_placed-in-LoopNoBound.ensures)

pub returns-in-TooManyBlocks : goal.returns-in-TooManyBlocks
returns-in-TooManyBlocks c = rw c.in-TooManyBlocks.is (rw c.as_slice-in-TooManyBlocks.ensures at c.push-in-TooManyBlocks.ensures)
