use Rattle.ctx_laws.proofs.StayLemmas.{stays_are_at_members, stays_are_one}
use Rattle.ctx_laws.proofs.stays.stays_are_at_members.Goals as goal

pub returns-clause-one : goal.returns-clause-one
returns-clause-one c = stays_are_one

pub returns-clause-members : goal.returns-clause-members
returns-clause-members c = stays_are_at_members
