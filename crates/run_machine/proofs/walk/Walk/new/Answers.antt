use Rattle.std.proofs.Common.{sym, subst, refl}
use Rattle.run_machine.specs.declared.clock.Clock.{Clock}
use Rattle.run_machine.specs.Walk.{IsClock}
use Rattle.run_machine.proofs.Steps.{zero_within}
use Rattle.run_machine.proofs.walk.Walk.new.Goals as goal

pub returns-clause-walk : goal.returns-clause-walk
returns-clause-walk c = λ machine shape.
    let P : Clock → Type 0 = λ clock. IsClock machine clock in
    record {
      clock = subst P (sym c.new-2.ensures) (record { shape = shape; slots = zero_within 35 0 });
      activations = c.in_ok-monitor.ensures.monitor;
      stays = refl;
    }
