-- That bounds hold which valid certificates carry. This project's own.
use Rattle.std.specs.Prelude.{ℕ, ◌≤◌}
use Rattle.wx_base.specs.declared.facts.Facts.{Facts}
use Rattle.wx_base.specs.declared.image.Image.{Image}
use Rattle.wx_base.specs.declared.machine.Machine.{Machine}
use Rattle.wx_base.specs.Machine.{IsMachine}
use Rattle.wx_base.specs.Run.{IsStart, Start, run_of, time_of}
use Rattle.flow_graph.specs.declared.program.Program.{Program}
use Rattle.flow_graph.specs.Program.{rules_of}
use Rattle.flow_graph.specs.Refusals.{IsSoundProgram}
use Rattle.flow_ctx.specs.declared.unfolded.Unfolded.{Unfolded}
use Rattle.flow_ctx.specs.Unfolding.{IsUnfolding}
use Rattle.flow_laws.specs.Programs.{EndsInMemory}
use Rattle.cache_class.specs.declared.class.Classes.{Classes}
use Rattle.cache_class.specs.Classes.{AreClasses}
use Rattle.cert_text.specs.declared.certificate.Certificate.{Certificate}
use Rattle.cert_rules.specs.Rules.{IsValid}

-- Every run from a start of the image, cut anywhere, takes no longer than the bound of a valid certificate. No premise
-- says that it obeys: what a run has executed are the instructions up to a move that breaks a rule.
abbrev pub ValidBoundsHold : Type 0
ValidBoundsHold =
    (image : Image) (facts : Facts) (entry : ℕ) (machine : Machine) (program : Program) (u : Unfolded)
    (classes : Classes) (c : Certificate) (start : Start) (n : ℕ) → EndsInMemory image → IsMachine machine
    → IsSoundProgram image facts entry machine program → IsUnfolding program u → AreClasses u machine classes
    → IsValid u machine classes c → IsStart machine image entry start
    → time_of (run_of machine image (rules_of facts program) entry start n) ≤ c.bound
