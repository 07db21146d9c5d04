use Rattle.xdd_table.specs.Diagram.{time}
use Rattle.state_charges.proofs.RaisingLemmas.{event_raised}
use Rattle.state_charges.proofs.events.raise_event.Goals as goal

pub returns-clause-raises : goal.returns-clause-raises
returns-clause-raises c =
    event_raised (λ f. time c.args.table.now f c.args.cost.place) c.args.miss.now c.in_ok-most.most c.args.amounts.now c.raise.new.amounts
    c.in_ok-most.ensures.bound c.in_ok-most.ensures.attained c.raise.ensures
