use Rattle.wcet_front.proofs.NoFacts.{no_facts}
use Rattle.wcet_front.proofs.stages.facts_in.Goals as goal

pub returns-in-Err-clause-due : goal.returns-in-Err-clause-due
returns-in-Err-clause-due c = no_facts _ _ _ _ c.in-Err.refusal c.as_bytes.ensures c.as_slice.ensures c.in-Err.ensures.read c.bad_facts.ensures.refused
