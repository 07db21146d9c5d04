-- That the classes of events hold in runs. This project's own.
use Rattle.std.specs.Prelude.{ℕ}
use Rattle.wx_base.specs.declared.facts.Facts.{Facts}
use Rattle.wx_base.specs.declared.image.Image.{Image}
use Rattle.wx_base.specs.declared.machine.Machine.{Machine}
use Rattle.wx_base.specs.Machine.{IsMachine}
use Rattle.wx_base.specs.Run.{IsStart, Start, run_of}
use Rattle.flow_graph.specs.declared.program.Program.{Program}
use Rattle.flow_graph.specs.Program.{rules_of}
use Rattle.flow_graph.specs.Refusals.{IsSoundProgram}
use Rattle.flow_ctx.specs.declared.unfolded.Unfolded.{Unfolded}
use Rattle.flow_ctx.specs.Unfolding.{IsUnfolding}
use Rattle.flow_laws.specs.Programs.{EndsInMemory}
use Rattle.ctx_laws.specs.Following.{IsFollowing}
use Rattle.cache_class.specs.declared.class.Classes.{Classes}
use Rattle.cache_class.specs.Classes.{AreClasses}
use Rattle.class_laws.specs.Visits.{IsVisiting}

-- Every run from a start of the image, cut anywhere, pays visits to the nodes along the walk that it follows. At each the
-- outcomes of the events are allowed by their classes, and the events of a group miss once at most in a stay.
abbrev pub RunsVisitNodes : Type 0
RunsVisitNodes =
    (image : Image) (facts : Facts) (entry : ℕ) (machine : Machine) (program : Program) (u : Unfolded)
    (classes : Classes) (start : Start) (n : ℕ) → EndsInMemory image → IsMachine machine
    → IsSoundProgram image facts entry machine program → IsUnfolding program u → AreClasses u machine classes
    → IsStart machine image entry start
    → (following : IsFollowing u (run_of machine image (rules_of facts program) entry start n))
    → IsVisiting u classes (run_of machine image (rules_of facts program) entry start n).executed
    following.walk following.node following.index
