use Rattle.std.proofs.Common.{ap, ◌∙◌, ℕ, take}
use Rattle.ffx_facts.proofs.Ordered.{take_taken}
use Rattle.ffx_facts.proofs.gather.leading_targets.Goals as goal

pub returns : goal.returns
returns c = ap (λ (n : ℕ). take n c.args.all.now) c.count_targets.ensures.count ∙ take_taken _ c.args.all.now
