-- The reply of `run` that is due, narrowed stage by stage: what each stage gave leaves the later ones.
use Rattle.std.proofs.Common.{◌≡◌, ℕ, List, sym, ap, ◌∙◌, subst}
use Rattle.wx_base.specs.Run.{Start}
use Rattle.flow_graph.specs.declared.program.Program.{Program}
use Rattle.flow_graph.specs.Laws.{RulesAreOne}
use Rattle.flow_graph.specs.Program.{rules_of}
use Rattle.run_machine.specs.declared.report.Report.{Report}
use Rattle.wcet_front.specs.declared.inputs.InputTexts.{InputTexts}
use Rattle.wcet_front.specs.declared.inputs.Inputs.{Inputs}
use Rattle.wcet_front.specs.declared.reply.Reply.{Reply}
use Rattle.wcet_front.specs.declared.reply.Reply.TheVariants as reply
use Rattle.wcet_front.specs.Inputs.{AreTold, IsInputsRefusal, IsEntryOf, IsEntryRefusal, IsStartTold, IsStartRefusal, IsSoundProgram, IsFlowRefusal}
use Rattle.wcet_front.specs.Stages.{Then}
use Rattle.wcet_front.specs.StageLaws.{after_stage}
use Rattle.wcet_cli.specs.Words.{RunWords}
use Rattle.wcet_cli.specs.RunCommand.{RunReply, report_in}

module _ (w : RunWords) (texts : InputTexts) (start : List ℕ) (said : Reply) where
  -- what is left once the inputs, the entry and the start are known
  abbrev pub AtProgram : Inputs → ℕ → Start → Type 0
  AtProgram inputs entry begin =
      Then (IsSoundProgram inputs entry) (IsFlowRefusal inputs entry)
      (λ program report. report ≡ reply.Ran (report_in inputs (rules_of inputs.facts program) entry begin w.steps)) said

  abbrev pub AtStart : Inputs → ℕ → Type 0
  AtStart inputs entry =
      Then (IsStartTold inputs.image inputs.machine entry start) (IsStartRefusal inputs.image inputs.machine start)
      (λ begin.
      Then (IsSoundProgram inputs entry) (IsFlowRefusal inputs entry)
      (λ program report. report ≡ reply.Ran (report_in inputs (rules_of inputs.facts program) entry begin w.steps))) said

  abbrev pub AtEntry : Inputs → Type 0
  AtEntry inputs =
      Then (IsEntryOf inputs.image w.entry) (IsEntryRefusal inputs.image w.entry)
      (λ entry.
      Then (IsStartTold inputs.image inputs.machine entry start) (IsStartRefusal inputs.image inputs.machine start)
      (λ begin.
      Then (IsSoundProgram inputs entry) (IsFlowRefusal inputs entry)
      (λ program report. report ≡ reply.Ran (report_in inputs (rules_of inputs.facts program) entry begin w.steps)))) said

  pub at_entry : (inputs : Inputs) → ((x : Inputs) → AreTold texts x → inputs ≡ x) → ((s : Reply) → IsInputsRefusal texts s → ⊥) → RunReply w texts start said → AtEntry inputs
  at_entry inputs due none is = after_stage (AtEntry inputs) (λ x told after. subst AtEntry (sym (due x told)) after) none is

  pub at_start : (inputs : Inputs) (entry : ℕ) → ((x : ℕ) → IsEntryOf inputs.image w.entry x → entry ≡ x) → ((s : Reply) → IsEntryRefusal inputs.image w.entry s → ⊥) → AtEntry inputs → AtStart inputs entry
  at_start inputs entry due none is = after_stage (AtStart inputs entry) (λ x told after. subst (AtStart inputs) (sym (due x told)) after) none is

  pub at_program : (inputs : Inputs) (entry : ℕ) (begin : Start) → ((x : Start) → IsStartTold inputs.image inputs.machine entry start x → begin ≡ x)
      → ((s : Reply) → IsStartRefusal inputs.image inputs.machine start s → ⊥) → AtStart inputs entry → AtProgram inputs entry begin
  at_program inputs entry begin due none is = after_stage (AtProgram inputs entry begin) (λ x told after. subst (AtProgram inputs entry) (sym (due x told)) after) none is

  pub reports : (inputs : Inputs) (entry : ℕ) (begin : Start) (program : Program) (report : Report) → RulesAreOne → IsSoundProgram inputs entry program
      → ((s : Reply) → IsFlowRefusal inputs entry s → ⊥) → report ≡ report_in inputs (rules_of inputs.facts program) entry begin w.steps → AtProgram inputs entry begin → reply.Ran report ≡ said
  reports inputs entry begin program report one sound none is at =
      after_stage (reply.Ran report ≡ said)
      (λ other other_sound same.
      let rules = one inputs.image inputs.facts entry (rules_of inputs.facts program) (rules_of inputs.facts other) sound.is.rules other_sound.is.rules in
      ap reply.Ran (is ∙ ap (λ r. report_in inputs r entry begin w.steps) rules) ∙ sym same)
      none at
