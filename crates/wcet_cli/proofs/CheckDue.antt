-- The reply of `check` that is due, narrowed stage by stage: what each stage gave leaves the later ones, and a certificate has one verdict.
use Rattle.std.proofs.Common.{◌≡◌, ℕ, List, sym, ◌∙◌, subst}
use Rattle.wx_base.specs.declared.machine.Machine.{Machine}
use Rattle.flow_graph.specs.declared.program.Program.{Program}
use Rattle.flow_graph.specs.Program.{IsProgram}
use Rattle.flow_ctx.specs.declared.unfolded.Unfolded.{Unfolded}
use Rattle.flow_ctx.specs.Laws.{IsUnfoldedOn}
use Rattle.flow_ctx.specs.Unfolding.{IsUnfolding}
use Rattle.cache_class.specs.declared.class.Classes.{Classes}
use Rattle.cache_class.specs.Laws.{ClassesAreOne}
use Rattle.cert_text.specs.declared.certificate.Certificate.{Certificate}
use Rattle.cert_text.specs.Text.{IsTextOf}
use Rattle.cert_rules.specs.Judged.{IsBroken}
use Rattle.cert_rules.specs.Laws.{FirstBrokenIsOne, ValidBreaksNone}
use Rattle.cert_rules.specs.Rules.{IsValid}
use Rattle.cert_check.specs.Answers.{IsAccepted, IsRejected}
use Rattle.wcet_front.specs.declared.inputs.InputTexts.{InputTexts}
use Rattle.wcet_front.specs.declared.inputs.Inputs.{Inputs}
use Rattle.wcet_front.specs.declared.reply.Reply.{Reply}
use Rattle.wcet_front.specs.declared.reply.Reply.TheVariants as reply
use Rattle.wcet_front.specs.Inputs.{AreTold, IsInputsRefusal, IsCertRefusal, IsEntryOf, IsEntryRefusal, IsSoundProgram, IsFlowRefusal, IsSmallUnfolding, IsUnfoldRefusal}
use Rattle.wcet_front.specs.Stages.{Then}
use Rattle.wcet_front.specs.StageLaws.{after_stage}
use Rattle.wcet_cli.specs.Words.{CheckWords}
use Rattle.wcet_cli.specs.CheckCommand.{CheckReply, IsVerdict, accepts, rejects}

-- what is left once the inputs, the certificate, the entry and the program are known
abbrev pub AtUnfolding : Inputs → Certificate → Program → Reply → Type 0
AtUnfolding inputs c program = Then (IsSmallUnfolding program) (IsUnfoldRefusal program) (λ u. IsVerdict u inputs.machine c)

abbrev pub AtProgram : Inputs → Certificate → ℕ → Reply → Type 0
AtProgram inputs c entry = Then (IsSoundProgram inputs entry) (IsFlowRefusal inputs entry) (AtUnfolding inputs c)

abbrev pub AtEntry : CheckWords → Inputs → Certificate → Reply → Type 0
AtEntry w inputs c = Then (IsEntryOf inputs.image w.entry) (IsEntryRefusal inputs.image w.entry) (AtProgram inputs c)

abbrev pub AtCertificate : CheckWords → List ℕ → Inputs → Reply → Type 0
AtCertificate w certificate inputs = Then (IsTextOf certificate) (IsCertRefusal certificate) (AtEntry w inputs)

module _ (w : CheckWords) (texts : InputTexts) (certificate : List ℕ) (said : Reply) where
  pub at_certificate : (inputs : Inputs) → ((x : Inputs) → AreTold texts x → inputs ≡ x) → ((s : Reply) → IsInputsRefusal texts s → ⊥)
      → CheckReply w texts certificate said → AtCertificate w certificate inputs said
  at_certificate inputs due none is =
      after_stage (AtCertificate w certificate inputs said)
      (λ x told after. subst (λ (i : Inputs). AtCertificate w certificate i said) (sym (due x told)) after) none is

  pub at_entry : (inputs : Inputs) (c : Certificate) → ((x : Certificate) → IsTextOf certificate x → c ≡ x) → ((s : Reply) → IsCertRefusal certificate s → ⊥)
      → AtCertificate w certificate inputs said → AtEntry w inputs c said
  at_entry inputs c due none is =
      after_stage (AtEntry w inputs c said) (λ x told after. subst (λ (k : Certificate). AtEntry w inputs k said) (sym (due x told)) after) none is

  pub at_program : (inputs : Inputs) (c : Certificate) (entry : ℕ) → ((x : ℕ) → IsEntryOf inputs.image w.entry x → entry ≡ x)
      → ((s : Reply) → IsEntryRefusal inputs.image w.entry s → ⊥) → AtEntry w inputs c said → AtProgram inputs c entry said
  at_program inputs c entry due none is =
      after_stage (AtProgram inputs c entry said) (λ x told after. subst (λ (k : ℕ). AtProgram inputs c k said) (sym (due x told)) after) none is

  pub at_unfolding : (inputs : Inputs) (c : Certificate) (entry : ℕ) (program : Program) → ((x : Program) → IsSoundProgram inputs entry x → program ≡ x)
      → ((s : Reply) → IsFlowRefusal inputs entry s → ⊥) → AtProgram inputs c entry said → AtUnfolding inputs c program said
  at_unfolding inputs c entry program due none is =
      after_stage (AtUnfolding inputs c program said) (λ x told after. subst (λ (p : Program). AtUnfolding inputs c p said) (sym (due x told)) after) none is

  pub at_verdict : (inputs : Inputs) (c : Certificate) (program : Program) (u : Unfolded) → ((x : Unfolded) → IsSmallUnfolding program x → u ≡ x)
      → ((s : Reply) → IsUnfoldRefusal program s → ⊥) → AtUnfolding inputs c program said → IsVerdict u inputs.machine c said
  at_verdict inputs c program u due none is =
      after_stage (IsVerdict u inputs.machine c said) (λ x told after. subst (λ (v : Unfolded). IsVerdict v inputs.machine c said) (sym (due x told)) after) none is

module _ (one : ClassesAreOne) (breaks : ValidBreaksNone) (first : FirstBrokenIsOne) (u : Unfolded) (m : Machine) (c : Certificate) where
  -- a certificate is not both accepted and rejected
  not_both : (rule node vector : ℕ) → IsAccepted u m c → IsRejected u m c rule node vector → ⊥
  not_both rule node vector a b =
      breaks u m b.classes c rule node vector (subst (λ (k : Classes). IsValid u m k c) (one u m a.classes b.classes a.are b.are) a.valid) b.broken

  -- and it is rejected in one way
  one_rejection : (rule node vector rule' node' vector' : ℕ) → IsRejected u m c rule node vector → IsRejected u m c rule' node' vector'
      → reply.Rejected rule node vector ≡ reply.Rejected rule' node' vector'
  one_rejection rule node vector rule' node' vector' a b =
      let broken = subst (λ (k : Classes). IsBroken u m k c rule node vector) (one u m a.classes b.classes a.are b.are) a.broken in
      let same = first u m b.classes c rule node vector rule' node' vector' broken b.broken in
      λ i. reply.Rejected (same.0 i) (same.1 i) (same.2 i)

  pub one_verdict : (r s : Reply) → IsVerdict u m c r → IsVerdict u m c s → r ≡ s
  one_verdict r s (accepts a e) (accepts b f) = e ∙ sym f
  one_verdict r s (accepts a e) (rejects rule node vector b f) = absurd (not_both rule node vector a b)
  one_verdict r s (rejects rule node vector a e) (accepts b f) = absurd (not_both rule node vector b a)
  one_verdict r s (rejects rule node vector a e) (rejects rule' node' vector' b f) = e ∙ one_rejection rule node vector rule' node' vector' a b ∙ sym f

-- an unfolding of a program of the inputs is one on their machine
pub unfolded_on : (inputs : Inputs) (entry : ℕ) (program : Program) (u : Unfolded) → IsSoundProgram inputs entry program → IsSmallUnfolding program u
    → IsUnfoldedOn inputs.machine u
unfolded_on inputs entry program u sound small = record {
  built = record {
    image = inputs.image;
    facts = inputs.facts;
    start = entry;
    is = subst (λ (p : Program). IsProgram inputs.image inputs.facts entry inputs.machine p) (sym small.is.kept) sound.is;
  };
  unfolded = subst (λ (p : Program). IsUnfolding p u) (sym small.is.kept) small.is;
}
