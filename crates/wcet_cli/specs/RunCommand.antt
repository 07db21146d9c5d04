-- What `run` replies: the report of the one run that a start text names, or why there is none. This project's own.
use Rattle.std.specs.Prelude.{◌≡◌, ℕ, List, [], ◌∷◌, Option}
use Rattle.wx_base.specs.Functions.{AreRules}
use Rattle.wx_base.specs.Monitor.{Rules}
use Rattle.wx_base.specs.Run.{Start, run_of}
use Rattle.wx_host.specs.Outside.{Contents}
use Rattle.flow_graph.specs.declared.error.FlowError.{FlowError}
use Rattle.flow_graph.specs.Program.{rules_of}
use Rattle.flow_graph.specs.Refusals.{IsCause}
use Rattle.run_machine.specs.declared.report.Report.{Report}
use Rattle.run_machine.specs.Report.{report_of}
use Rattle.wcet_front.specs.declared.inputs.InputTexts.{InputTexts}
use Rattle.wcet_front.specs.declared.inputs.Inputs.{Inputs}
use Rattle.wcet_front.specs.declared.reply.Reply.{Reply}
use Rattle.wcet_front.specs.declared.reply.Reply.TheVariants as reply
use Rattle.wcet_front.specs.Reply.{run_status, text_of}
use Rattle.wcet_front.specs.Files.{AreContents}
use Rattle.wcet_front.specs.Handing.{Took}
use Rattle.wcet_front.specs.Inputs.{AreTold, IsInputsRefusal, IsEntryOf, IsEntryRefusal, IsStartTold, IsStartRefusal, IsSoundProgram, IsFlowRefusal}
use Rattle.wcet_front.specs.Stages.{Then}
use Rattle.wcet_cli.specs.Words.{RunWords, IsRun}

-- the files of `run` in the order in which they are read
abbrev pub run_files : RunWords → List (List ℕ)
run_files w = w.image ∷ w.facts ∷ w.machine ∷ w.start ∷ []

-- the report of the run of at most so many instructions, judged by these rules
abbrev pub report_in : Inputs → Rules → ℕ → Start → ℕ → Report
report_in inputs rules entry begin steps = report_of (run_of inputs.machine inputs.image rules entry begin steps)

-- The reply that the contents of the files call for: stage by stage the first refusal, or the report of the run.
abbrev pub RunReply : RunWords → InputTexts → List ℕ → Reply → Type 0
RunReply w texts start said =
    Then (AreTold texts) (IsInputsRefusal texts)
    (λ inputs.
    Then (IsEntryOf inputs.image w.entry) (IsEntryRefusal inputs.image w.entry)
    (λ entry.
    Then (IsStartTold inputs.image inputs.machine entry start) (IsStartRefusal inputs.image inputs.machine start)
    (λ begin.
    Then (IsSoundProgram inputs entry) (IsFlowRefusal inputs entry)
    (λ program report. report ≡ reply.Ran (report_in inputs (rules_of inputs.facts program) entry begin w.steps)))))
    said

-- the same of the contents of the command's files in a list
abbrev pub RunReplies : RunWords → List (List ℕ) → Reply → Type 0
RunReplies w (image ∷ facts ∷ machine ∷ start ∷ []) said = RunReply w (record { image = image; facts = facts; machine = machine }) start said
RunReplies w _ said = ⊥

-- What the statuses of a run say: the words are `run` and what it names; the contents of its files tell an image, facts, a machine, an
-- entry and a start; nothing stands against the image with the facts; the sink took the line with the report of the run of at most
-- so many instructions from there, judged by the rules of image, facts and entry; and the status is that of the report.
pub record ReportsRun (holds : Option Contents) (words : List (List ℕ)) (taken taken' : Option (List ℕ)) (status : ℕ) : Type 0 where
  pub w : RunWords
  pub texts : InputTexts
  pub start : List ℕ
  pub inputs : Inputs
  pub entry : ℕ
  pub begin : Start
  pub rules : Rules
  pub form : IsRun words w
  pub contents : AreContents holds (run_files w) (texts.image ∷ texts.facts ∷ texts.machine ∷ start ∷ [])
  pub told : AreTold texts inputs
  pub entered : IsEntryOf inputs.image w.entry entry
  pub begins : IsStartTold inputs.image inputs.machine entry start begin
  pub sound : (e : FlowError) → IsCause inputs.image inputs.facts entry inputs.machine e → ⊥
  pub judged : AreRules inputs.image inputs.facts entry rules
  pub took : Took taken taken' (text_of (reply.Ran (report_in inputs rules entry begin w.steps)))
  pub ends : status ≡ run_status (report_in inputs rules entry begin w.steps).end
