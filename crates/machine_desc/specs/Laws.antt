-- Laws of the definitions.
use Rattle.std.specs.Prelude.{◌≡◌, ℕ, ◌⊎◌, List}
use Rattle.wx_base.specs.declared.machine.Machine.{Machine}
use Rattle.wx_base.specs.Machine.{IsMachine}
use Rattle.machine_desc.specs.declared.error.MachineError.{MachineError}
use Rattle.machine_desc.specs.Causes.{IsDescription, IsFirstCause}

-- whatever the bytes, they describe a machine, or the cause of a refusal stands and none before it
abbrev pub DescribedOrRefused : Type 0
DescribedOrRefused = (bytes : List ℕ) → ((machine : Machine) × IsDescription bytes machine) ⊎ ((e : MachineError) × IsFirstCause bytes e)

-- bytes describe at most one machine
abbrev pub OneMachine : Type 0
OneMachine = (bytes : List ℕ) (a b : Machine) → IsDescription bytes a → IsDescription bytes b → a ≡ b

-- bytes have at most one first cause
abbrev pub OneCause : Type 0
OneCause = (bytes : List ℕ) (e f : MachineError) → IsFirstCause bytes e → IsFirstCause bytes f → e ≡ f

-- bytes that describe a machine have none
abbrev pub NotBoth : Type 0
NotBoth = (bytes : List ℕ) (machine : Machine) (e : MachineError) → IsDescription bytes machine → IsFirstCause bytes e → ⊥

-- the numbers of a machine that bytes describe lie in their ranges
abbrev pub DescriptionsAreInRange : Type 0
DescriptionsAreInRange = (bytes : List ℕ) (machine : Machine) → IsDescription bytes machine → IsMachine machine
