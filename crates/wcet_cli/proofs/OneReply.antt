-- The contents of files call for one reply: what each stage gives is one thing, its refusal is one, and it does not do both.
use Rattle.std.proofs.Common.{◌≡◌, ℕ, List, length, Option, Some, None, sym, ap, ◌∙◌, subst}
use Rattle.wx_base.specs.declared.image.Image.{Image}
use Rattle.wx_base.specs.declared.machine.Machine.{Machine}
use Rattle.wx_base.specs.Run as runs
use Rattle.wx_base.specs.Symbols.{symbol_value}
use Rattle.wx_host.specs.MemStore.{HeldFile}
use Rattle.elf_image.specs.Laws as elf
use Rattle.ffx_facts.specs.Causes as ffx_causes
use Rattle.ffx_facts.specs.Laws as ffx
use Rattle.machine_desc.specs.Laws as machine_desc
use Rattle.flow_graph.specs.declared.program.Program.{Program}
use Rattle.flow_graph.specs.Laws.{ProgramIsOne}
use Rattle.flow_ctx.specs.Laws.{UnfoldingIsOne}
use Rattle.cache_class.specs.Laws.{ClassesAreOne}
use Rattle.cert_text.specs.declared.certificate.Certificate.{Certificate}
use Rattle.cert_text.specs.Laws.{CountIsOne}
use Rattle.cert_text.specs.Pool.{HasVectors}
use Rattle.cert_text.specs.Text.{IsTextOf}
use Rattle.cert_rules.specs.Laws.{FirstBrokenIsOne, ValidBreaksNone}
use Rattle.cert_laws.specs.Laws as certificate_laws
use Rattle.start_laws.specs.Laws as start_laws
use Rattle.program_laws.specs.Laws.{OneFirst}
use Rattle.wcet_front.specs.declared.inputs.InputTexts.{InputTexts}
use Rattle.wcet_front.specs.declared.inputs.Inputs.{Inputs}
use Rattle.wcet_front.specs.declared.reply.Reply.{Reply}
use Rattle.wcet_front.specs.declared.reply.Reply.TheVariants as reply
use Rattle.wcet_front.specs.Inputs.{AreTold, IsCertRefusal, IsEntryOf, IsEntryRefusal, IsFactsRefusal, IsFlowRefusal, IsImageOf, IsImageRefusal, IsInputsRefusal, IsMachineRefusal, IsSmallUnfolding, IsSoundProgram, IsStartRefusal, IsStartTold, IsUnfoldRefusal}
use Rattle.wcet_front.specs.Stages.{Then, refused, passed}
use Rattle.wcet_front.proofs.FewNodes.{not_too_many}
use Rattle.wcet_cli.specs.Words.{CheckWords, RunWords}
use Rattle.wcet_cli.specs.CheckCommand.{CheckReply}
use Rattle.wcet_cli.specs.MigrateCommand.{MigrateDeed, migrates, refuses}
use Rattle.wcet_cli.specs.RunCommand.{RunReply}
use Rattle.wcet_cli.proofs.CheckDue.{one_verdict}

-- what the crates below say of all texts
pub record AreAlone : Type 0 where
  pub image_cause : elf.OneFirstCause
  pub image_not_both : elf.NotBoth
  pub facts : ffx.FactsAreOne
  pub facts_cause : ffx.OneCause
  pub facts_not_both : ffx.NotBoth
  pub machine : machine_desc.OneMachine
  pub machine_cause : machine_desc.OneCause
  pub machine_not_both : machine_desc.NotBoth
  pub start : start_laws.OneStart
  pub start_refusal : start_laws.OneRefusal
  pub start_not_both : start_laws.NotBoth
  pub program : ProgramIsOne
  pub first_refusal : OneFirst
  pub certificate : certificate_laws.OneCertificate
  pub certificate_refusal : certificate_laws.OneRefusal
  pub certificate_not_both : certificate_laws.NotBoth
  pub count : CountIsOne
  pub unfolded : UnfoldingIsOne
  pub classes : ClassesAreOne
  pub valid : ValidBreaksNone
  pub first_broken : FirstBrokenIsOne

-- a stage gives one thing, or has one refusal, and not both
pub record IsAlone {A : Type 0} (gives : A → Type 0) (refuses : Reply → Type 0) : Type 0 where
  pub one : (x y : A) → gives x → gives y → x ≡ y
  pub one_refusal : (r s : Reply) → refuses r → refuses s → r ≡ s
  pub not_both : (x : A) (r : Reply) → gives x → refuses r → ⊥

-- so there is one reply, if there is one to each thing that it gives
pub one_then : {A : Type 0} {gives : A → Type 0} {refuses : Reply → Type 0} {next : A → Reply → Type 0} (r s : Reply) → IsAlone gives refuses
    → ((x : A) → gives x → next x r → next x s → r ≡ s) → Then gives refuses next r → Then gives refuses next s → r ≡ s
one_then r s alone after (refused p) (refused q) = alone.one_refusal r s p q
one_then r s alone after (refused p) (passed y q more) = absurd (alone.not_both y r q p)
one_then r s alone after (passed x p more) (refused q) = absurd (alone.not_both x s p q)
one_then {next = next} r s alone after (passed x p more) (passed y q others) =
    after x p more (subst (λ z. next z s) (sym (alone.one x y p q)) others)

module _ (known : AreAlone) where
  -- ---- inputs
  image_alone : (bytes : List ℕ) → IsAlone (IsImageOf bytes) (IsImageRefusal bytes)
  image_alone bytes = record {
    one = λ x y p q. p.read ∙ sym q.read;
    one_refusal = λ r s p q. p.2 ∙ ap reply.BadImage (known.image_cause bytes p.0 q.0 p.1 q.1) ∙ sym q.2;
    not_both = λ x r p q. known.image_not_both bytes q.0 p.faultless q.1;
  }

  facts_alone : (bytes : List ℕ) (image : Image) → IsAlone (ffx_causes.AreFactsOf bytes image.symbols) (IsFactsRefusal bytes image.symbols)
  facts_alone bytes image = record {
    one = λ x y p q. known.facts bytes image.symbols x y p q;
    one_refusal = λ r s p q. p.2 ∙ ap reply.BadFacts (known.facts_cause bytes image.symbols p.0 q.0 p.1 q.1) ∙ sym q.2;
    not_both = λ x r p q. known.facts_not_both bytes image.symbols x q.0 p q.1;
  }

  machine_refusal_one : (bytes : List ℕ) (r s : Reply) → IsMachineRefusal bytes r → IsMachineRefusal bytes s → r ≡ s
  machine_refusal_one bytes r s p q = p.2 ∙ ap reply.BadMachine (known.machine_cause bytes p.0 q.0 p.1 q.1) ∙ sym q.2

  -- what is told of an image is told of the one that the bytes are
  inputs_refused : (texts : InputTexts) (inputs : Inputs) (r : Reply) → AreTold texts inputs → IsInputsRefusal texts r → ⊥
  inputs_refused texts inputs r told (refused p) = (image_alone texts.image).not_both inputs.image r told.image p
  inputs_refused texts inputs r told (passed image is (refused p)) =
      let same = (image_alone texts.image).one image inputs.image is told.image in
      (facts_alone texts.facts inputs.image).not_both inputs.facts r told.facts (subst (λ (i : Image). IsFactsRefusal texts.facts i.symbols r) same p)
  inputs_refused texts inputs r told (passed image is (passed facts are p)) = known.machine_not_both texts.machine inputs.machine p.0 told.machine p.1

  pub inputs_alone : (texts : InputTexts) → IsAlone (AreTold texts) (IsInputsRefusal texts)
  inputs_alone texts = record {
    one = λ x y p q.
        let image = (image_alone texts.image).one x.image y.image p.image q.image in
        let facts = known.facts texts.facts x.image.symbols x.facts y.facts p.facts (subst (λ (i : Image). ffx_causes.AreFactsOf texts.facts i.symbols y.facts) (sym image) q.facts) in
        let machine = known.machine texts.machine x.machine y.machine p.machine q.machine in
        λ i. record { image = image i; facts = facts i; machine = machine i };
    one_refusal = λ r s p q.
        one_then r s (image_alone texts.image)
        (λ image is more others. one_then r s (facts_alone texts.facts image) (λ facts are a b. machine_refusal_one texts.machine r s a b) more others) p q;
    not_both = λ x r p q. inputs_refused texts x r p q;
  }

  -- ---- the entry
  pub entry_alone : (image : Image) (named : Option (List ℕ)) → IsAlone (IsEntryOf image named) (IsEntryRefusal image named)
  entry_alone image None = record {
    one = λ x y p q. p ∙ sym q;
    one_refusal = λ r s p q. absurd (let e : None ≡ Some p.0 = p.1 in cc);
    not_both = λ x r p q. absurd (let e : None ≡ Some q.0 = q.1 in cc);
  }
  entry_alone image (Some name) = record {
    one = λ x y p q. let e : Some x ≡ Some y = sym p ∙ q in cc;
    one_refusal = λ r s p q. p.3 ∙ ap reply.NoEntry (let e : Some p.0 ≡ Some q.0 = sym p.1 ∙ q.1 in cc) ∙ sym q.3;
    not_both = λ x r p q.
        let same : name ≡ q.0 = (let e : Some name ≡ Some q.0 = q.1 in cc) in
        let e : Some x ≡ None = sym p ∙ ap (symbol_value image.symbols) same ∙ q.2 in
        absurd (cc);
  }

  -- ---- the start
  pub start_alone : (image : Image) (machine : Machine) (entry : ℕ) (bytes : List ℕ) → IsAlone (IsStartTold image machine entry bytes) (IsStartRefusal image machine bytes)
  start_alone image machine entry bytes = record {
    one = λ x y p q. p.is ∙ known.start image machine entry bytes p.read q.read (whole x p) (whole y q) ∙ sym q.is;
    one_refusal = λ r s p q. p.3 ∙ ap reply.BadStart (known.start_refusal image machine bytes p.0 q.0 p.1 q.1 p.2 q.2) ∙ sym q.3;
    not_both = λ x r p q. q.2 (known.start_not_both image machine entry bytes p.read q.0 (whole x p) q.1);
  }
    where
      whole : (x : runs.Start) (p : IsStartTold image machine entry bytes x) → start_laws.IsWholeStart image machine entry bytes p.read
      whole x p = record {
        told = p.told;
        registers = p.registers;
        cache = p.cache;
        starts = subst (runs.IsStart machine image entry) p.is p.starts;
      }

  -- ---- the program
  pub program_alone : (inputs : Inputs) (entry : ℕ) → IsAlone (IsSoundProgram inputs entry) (IsFlowRefusal inputs entry)
  program_alone inputs entry = record {
    one = λ x y p q. known.program inputs.image inputs.facts entry inputs.machine x y p.is q.is;
    one_refusal = λ r s p q. p.2 ∙ ap reply.BadFlow (known.first_refusal inputs.image inputs.facts entry inputs.machine p.0 q.0 p.1 q.1) ∙ sym q.2;
    not_both = λ x r p q. p.sound q.0 q.1.cause;
  }

  -- ---- the unfolding
  pub unfolding_alone : (inputs : Inputs) (entry : ℕ) (program : Program) → IsSoundProgram inputs entry program → IsAlone (IsSmallUnfolding program) (IsUnfoldRefusal program)
  unfolding_alone inputs entry program sound = record {
    one = λ x y p q.
        known.unfolded program x y (record { image = inputs.image; facts = inputs.facts; start = entry; machine = inputs.machine; is = sound }) p.is q.is;
    one_refusal = λ r s p q. p.1 ∙ sym q.1;
    not_both = λ x r p q. not_too_many program x p q.0;
  }

  -- ---- the certificate
  pub certificate_alone : (bytes : List ℕ) → IsAlone (IsTextOf bytes) (IsCertRefusal bytes)
  certificate_alone bytes = record {
    one = λ x y p q. known.certificate bytes x y p q;
    one_refusal = λ r s p q. p.3 ∙ ap reply.BadCertificate (known.certificate_refusal bytes p.0 q.0 p.1 q.1 p.2 q.2) ∙ sym q.3;
    not_both = λ x r p q. q.2 (known.certificate_not_both bytes x q.0 p q.1);
  }

  -- ---- commands
  pub one_run_reply : (w : RunWords) (texts : InputTexts) (text : List ℕ) (r s : Reply) → RunReply w texts text r → RunReply w texts text s → r ≡ s
  one_run_reply w texts text r s =
      one_then r s (inputs_alone texts)
      (λ inputs told.
      one_then r s (entry_alone inputs.image w.entry)
      (λ entry entered.
      one_then r s (start_alone inputs.image inputs.machine entry text)
      (λ begin begins. one_then r s (program_alone inputs entry) (λ program sound p q. p ∙ sym q))))

  pub one_check_reply : (w : CheckWords) (texts : InputTexts) (certificate : List ℕ) (r s : Reply) → CheckReply w texts certificate r → CheckReply w texts certificate s → r ≡ s
  one_check_reply w texts certificate r s =
      one_then r s (inputs_alone texts)
      (λ inputs told.
      one_then r s (certificate_alone certificate)
      (λ c read.
      one_then r s (entry_alone inputs.image w.entry)
      (λ entry entered.
      one_then r s (program_alone inputs entry)
      (λ program sound.
      one_then r s (unfolding_alone inputs entry program sound)
      (λ u small. one_verdict known.classes known.valid known.first_broken u inputs.machine c r s)))))

  pub one_migrate_reply : (target bytes : List ℕ) (files others : List HeldFile) (r s : Reply) → MigrateDeed target bytes files r → MigrateDeed target bytes others s → r ≡ s
  one_migrate_reply target bytes files others r s (migrates c a m p e f) (migrates d b n q g h) =
      let same = known.certificate bytes c d p.read q.read in
      let vectors = known.count d m n (subst (λ (k : Certificate). HasVectors k.families m) same p.counted) q.counted in
      f ∙ (λ i. reply.Migrated (length (same i).families) (vectors i)) ∙ sym h
  one_migrate_reply target bytes files others r s (migrates c a m p e f) (refuses q g) = absurd ((certificate_alone bytes).not_both c s p.read q)
  one_migrate_reply target bytes files others r s (refuses p e) (migrates d b n q g h) = absurd ((certificate_alone bytes).not_both d r q.read p)
  one_migrate_reply target bytes files others r s (refuses p e) (refuses q g) = (certificate_alone bytes).one_refusal r s p q
