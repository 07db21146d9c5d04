-- What `check` replies: the bound of a certificate that is valid for an image, facts on it, a machine and an entry, or why it has none; and
-- what is known of a bound that it prints. This project's own.
use Rattle.std.specs.Prelude.{◌≡◌, ◌≤◌, ℕ, List, [], ◌∷◌, Option}
use Rattle.wx_base.specs.Functions.{AreRules}
use Rattle.wx_base.specs.Monitor.{Rules}
use Rattle.wx_base.specs.Run.{IsStart, Start, run_of, time_of}
use Rattle.wx_host.specs.Outside.{Contents}
use Rattle.flow_graph.specs.declared.program.Program.{Program}
use Rattle.flow_ctx.specs.declared.unfolded.Unfolded.{Unfolded}
use Rattle.flow_ctx.specs.Unfolding.{IsUnfolding}
use Rattle.cert_text.specs.declared.certificate.Certificate.{Certificate}
use Rattle.cert_text.specs.Text.{IsTextOf}
use Rattle.wx_base.specs.declared.machine.Machine.{Machine}
use Rattle.cert_check.specs.Answers.{IsAccepted, IsRejected}
use Rattle.wcet_front.specs.declared.inputs.InputTexts.{InputTexts}
use Rattle.wcet_front.specs.declared.inputs.Inputs.{Inputs}
use Rattle.wcet_front.specs.declared.reply.Reply.{Reply}
use Rattle.wcet_front.specs.declared.reply.Reply.TheVariants as reply
use Rattle.wcet_front.specs.Reply.{text_of}
use Rattle.wcet_front.specs.Files.{AreContents}
use Rattle.wcet_front.specs.Handing.{Took}
use Rattle.wcet_front.specs.Inputs.{AreTold, IsInputsRefusal, IsCertRefusal, IsEntryOf, IsEntryRefusal, IsSoundProgram, IsFlowRefusal, IsSmallUnfolding, IsUnfoldRefusal}
use Rattle.wcet_front.specs.Stages.{Then}
use Rattle.wcet_cli.specs.Words.{CheckWords, IsCheck}

-- the files of `check` in the order in which they are read
abbrev pub check_files : CheckWords → List (List ℕ)
check_files w = w.image ∷ w.facts ∷ w.machine ∷ w.certificate ∷ []

-- The verdict on a certificate for an unfolding on a machine: its bound where it is valid, or the first rule that it breaks, and where.
pub data IsVerdict (u : Unfolded) (machine : Machine) (c : Certificate) (said : Reply) : Type 0 where
  accepts : IsAccepted u machine c → said ≡ reply.Bound c.bound → IsVerdict u machine c said
  rejects : (rule node vector : ℕ) → IsRejected u machine c rule node vector → said ≡ reply.Rejected rule node vector → IsVerdict u machine c said

-- The reply that the contents of the files call for: stage by stage the first refusal, or the verdict on the certificate.
abbrev pub CheckReply : CheckWords → InputTexts → List ℕ → Reply → Type 0
CheckReply w texts certificate said =
    Then (AreTold texts) (IsInputsRefusal texts)
    (λ inputs.
    Then (IsTextOf certificate) (IsCertRefusal certificate)
    (λ c.
    Then (IsEntryOf inputs.image w.entry) (IsEntryRefusal inputs.image w.entry)
    (λ entry.
    Then (IsSoundProgram inputs entry) (IsFlowRefusal inputs entry)
    (λ program.
    Then (IsSmallUnfolding program) (IsUnfoldRefusal program)
    (λ u. IsVerdict u inputs.machine c)))))
    said

-- the same of the contents of the command's files in a list
abbrev pub CheckReplies : CheckWords → List (List ℕ) → Reply → Type 0
CheckReplies w (image ∷ facts ∷ machine ∷ certificate ∷ []) said =
    CheckReply w (record { image = image; facts = facts; machine = machine }) certificate said
CheckReplies w _ said = ⊥

-- What status 0 says of `check`: the words are `check` and what it names; the contents of its files tell an image, facts, a machine and a
-- certificate; the image with the facts has a program from the entry, against which nothing stands, and the program an unfolding; the
-- certificate is valid for it on the machine; and the sink took the line with the certificate's bound.
pub record AcceptsBound (holds : Option Contents) (words : List (List ℕ)) (taken taken' : Option (List ℕ)) : Type 0 where
  pub w : CheckWords
  pub texts : InputTexts
  pub certificate : List ℕ
  pub inputs : Inputs
  pub c : Certificate
  pub entry : ℕ
  pub program : Program
  pub u : Unfolded
  pub form : IsCheck words w
  pub contents : AreContents holds (check_files w) (texts.image ∷ texts.facts ∷ texts.machine ∷ certificate ∷ [])
  pub told : AreTold texts inputs
  pub read : IsTextOf certificate c
  pub entered : IsEntryOf inputs.image w.entry entry
  pub sound : IsSoundProgram inputs entry program
  pub unfolded : IsUnfolding program u
  pub accepted : IsAccepted u inputs.machine c
  pub took : Took taken taken' (text_of (reply.Bound c.bound))

-- A bound on every run, as whoever reads the printed line may rely on it. Nothing is said of the certificate, nor of who wrote it. The files of
-- image, facts and machine are those that were held when the call began, where the store tells it; of a store that tells nothing the record
-- says nothing. The runs are those of the image on the written machine, from
-- the entry, with an empty pipeline: from each start of the image, whatever the registers, the flags, the bytes outside the image's and
-- the cache hold, and of at most n instructions for each n. What a run has executed are its instructions up to the first move that
-- breaks a rule of image, facts and entry; a run that obeys is not cut off.
pub record BoundsEveryRun (holds : Option Contents) (w : CheckWords) (taken taken' : Option (List ℕ)) : Type 0 where
  pub texts : InputTexts
  pub inputs : Inputs
  pub entry : ℕ
  pub rules : Rules
  pub bound : ℕ
  pub contents : AreContents holds (w.image ∷ w.facts ∷ w.machine ∷ []) (texts.image ∷ texts.facts ∷ texts.machine ∷ [])
  pub told : AreTold texts inputs
  pub entered : IsEntryOf inputs.image w.entry entry
  pub judged : AreRules inputs.image inputs.facts entry rules
  pub bounds : (start : Start) (n : ℕ) → IsStart inputs.machine inputs.image entry start
      → time_of (run_of inputs.machine inputs.image rules entry start n) ≤ bound
  pub took : Took taken taken' (text_of (reply.Bound bound))
