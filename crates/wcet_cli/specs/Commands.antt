-- The commands: what their words are, which files they read and write, and what they do. This project's own.
use Rattle.std.specs.Prelude.{◌≡◌, ℕ, List, [], ◌∷◌, option_copied}
use Rattle.wcet_front.specs.Writing.{Deed, OnlyReplies}
use Rattle.wcet_cli.specs.declared.command.Command.{Command}
use Rattle.wcet_cli.specs.declared.command.Command.TheVariants as command
use Rattle.wcet_cli.specs.declared.command.RunCommand.{RunCommand}
use Rattle.wcet_cli.specs.declared.command.MigrateCommand.{MigrateCommand}
use Rattle.wcet_cli.specs.declared.command.CheckCommand.{CheckCommand}
use Rattle.wcet_cli.specs.Words.{IsFlat, RunWords, IsRun, MigrateWords, IsMigrate, CheckWords, IsCheck}
use Rattle.wcet_cli.specs.FlatCommand.{FlatReplies}
use Rattle.wcet_cli.specs.RunCommand.{run_files, RunReplies}
use Rattle.wcet_cli.specs.MigrateCommand.{MigrateDoes}
use Rattle.wcet_cli.specs.CheckCommand.{check_files, CheckReplies}

-- a command with what its words name
pub data Form : Type 0 where
  Flat : List ℕ → Form
  Run : RunWords → Form
  Migrate : MigrateWords → Form
  Check : CheckWords → Form

-- the words say this command
abbrev pub IsForm : List (List ℕ) → Form → Type 0
IsForm words (Flat code) = IsFlat words code
IsForm words (Run w) = IsRun words w
IsForm words (Migrate w) = IsMigrate words w
IsForm words (Check w) = IsCheck words w

-- the files that it reads, in this order
abbrev pub files_of : Form → List (List ℕ)
files_of (Flat code) = code ∷ []
files_of (Run w) = run_files w
files_of (Migrate w) = w.source ∷ []
files_of (Check w) = check_files w

-- the files that it writes, in this order
abbrev pub written_by : Form → List (List ℕ)
written_by (Flat code) = []
written_by (Run w) = []
written_by (Migrate w) = w.target ∷ []
written_by (Check w) = []

-- what it does to the contents of those that it reads
abbrev pub Does : Form → Deed
Does (Flat code) = OnlyReplies FlatReplies
Does (Run w) = OnlyReplies (RunReplies w)
Does (Migrate w) = MigrateDoes w
Does (Check w) = OnlyReplies (CheckReplies w)

-- the words fit the form of a command
pub record FitsForm (words : List (List ℕ)) : Type 0 where
  pub form : Form
  pub is : IsForm words form

-- the files that the words name, in the order in which they are read; words that fit no form name none
pub data AreNamed (words names : List (List ℕ)) : Type 0 where
  by_form : (form : Form) → IsForm words form → names ≡ files_of form → AreNamed words names
  by_none : ¬ FitsForm words → names ≡ [] → AreNamed words names

-- the files that the words write, in this order; words that fit no form write none
pub data AreWrittenBy (words names : List (List ℕ)) : Type 0 where
  to_form : (form : Form) → IsForm words form → names ≡ written_by form → AreWrittenBy words names
  to_none : ¬ FitsForm words → names ≡ [] → AreWrittenBy words names

-- no command that the words say writes a file
abbrev pub WriteNothing : List (List ℕ) → Type 0
WriteNothing words = (form : Form) → IsForm words form → written_by form ≡ []

-- what the words of `migrate` name
abbrev pub migrate_words : MigrateCommand → MigrateWords
migrate_words c = record { source = c.source.now; target = c.target.now }

-- what the words of `run` name
abbrev pub run_words : RunCommand → RunWords
run_words c = record {
  image = c.inputs.image.now;
  facts = c.inputs.facts.now;
  machine = c.inputs.machine.now;
  start = c.start.now;
  steps = c.steps;
  entry = option_copied c.entry;
}

-- what the words of `check` name
abbrev pub check_words : CheckCommand → CheckWords
check_words c = record {
  image = c.inputs.image.now;
  facts = c.inputs.facts.now;
  machine = c.inputs.machine.now;
  certificate = c.certificate.now;
  entry = option_copied c.entry;
}

-- the command as the program keeps it
abbrev pub form_of : Command → Form
form_of (command.Flat code) = Flat code.now
form_of (command.Run run) = Run (run_words run)
form_of (command.Migrate migrate) = Migrate (migrate_words migrate)
form_of (command.Check check) = Check (check_words check)
