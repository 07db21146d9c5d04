-- What a step goes behind, a run may go past.
use Rattle.std.proofs.Common.{◌≡◌, Bool, true, false, not, ◌&&◌, ◌==◌, refl, ap, ◌∙◌}
use Rattle.wx_base.specs.Flow.{flow_of}
use Rattle.wx_base.specs.Instruction.{condition, always}
use Rattle.wx_base.specs.Monitor.{is_call}
use Rattle.flow_laws.specs.Programs.{StepsGoPast}

passes_by : (next call surely : Bool) → next ≡ true → (call ≡ true → not surely ≡ true) → (next && not (call && surely)) ≡ true
passes_by next true surely goes may = ap (λ b. b && not surely) goes ∙ may refl
passes_by next false surely goes may = ap (λ b. b && true) goes

pub steps_go_past : StepsGoPast
steps_go_past word address to g = passes_by (flow_of word address).next (is_call (flow_of word address)) (condition word == always) g.may g.call
