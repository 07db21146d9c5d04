use Rattle.std.proofs.Common.{arith}
use Rattle.std.proofs.lemmas.List.Kept.{AllPairs-from_increasing}
use Rattle.test_cache.proofs.states.are_ascending.Goals as goal

pub returns : goal.returns
returns c = λ _. AllPairs-from_increasing c.args.lines.now (λ k h. c.loop-i.invariant k (omega arith))
