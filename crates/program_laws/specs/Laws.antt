-- What holds of all images with facts. This project's own.
use Rattle.std.specs.Prelude.{◌≡◌, ℕ}
use Rattle.wx_base.specs.declared.facts.Facts.{Facts}
use Rattle.wx_base.specs.declared.image.Image.{Image}
use Rattle.wx_base.specs.declared.machine.Machine.{Machine}
use Rattle.flow_graph.specs.declared.error.FlowError.{FlowError}
use Rattle.flow_graph.specs.declared.program.Program.{Program}
use Rattle.flow_graph.specs.Refusals.{IsFirst, IsSoundProgram}
use Rattle.flow_laws.specs.Programs.{EndsInMemory}

-- An image has a program against which no cause stands, or some refusal is the first that is due: it cannot be that neither holds.
abbrev pub SoundOrRefused : Type 0
SoundOrRefused = (image : Image) (facts : Facts) (start : ℕ) (machine : Machine) → EndsInMemory image
    → ((program : Program) → IsSoundProgram image facts start machine program → ⊥)
    → ((e : FlowError) → IsFirst image facts start machine e → ⊥) → ⊥

-- an image has at most one first refusal
abbrev pub OneFirst : Type 0
OneFirst = (image : Image) (facts : Facts) (start : ℕ) (machine : Machine) (e f : FlowError) → IsFirst image facts start machine e
    → IsFirst image facts start machine f → e ≡ f
