-- Why bytes are no straight program.
use Rattle.std.specs.Prelude.{ℕ, List}
use Rattle.wcet_cli.specs.declared.commands.straight.Refusal.{Refusal}
use Rattle.wcet_cli.specs.declared.commands.straight.Refusal.TheVariants as refusal
use Rattle.wcet_cli.specs.Straight.{IsCutOff, IsForeign}

-- the cause of a refusal stands
abbrev pub HasFault : List ℕ → Refusal → Type 0
HasFault bytes (refusal.LeavesCode addr) = IsCutOff bytes addr
HasFault bytes (refusal.Unsupported addr word) = IsForeign bytes addr word
