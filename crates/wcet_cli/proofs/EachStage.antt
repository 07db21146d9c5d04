-- Each stage of a command gives something to go on with, or refuses: it cannot be that it does neither.
use Rattle.std.proofs.Common.{◌≡◌, ⊎_elim, ℕ, ◌<◌, ◌^◌, List, Option, Some, None, refl, sym, ap, ◌∙◌, subst}
use Rattle.std.specs.List.{AllByRecursion}
use Rattle.wx_base.specs.declared.image.Image.{Image}
use Rattle.wx_base.specs.declared.machine.Machine.{Machine}
use Rattle.wx_base.specs.Symbols.{symbol_value}
use Rattle.elf_image.specs.Laws as elf
use Rattle.elf_image.specs.Meaning.{image_of}
use Rattle.ffx_facts.specs.Laws as ffx
use Rattle.machine_desc.specs.Laws as machine_desc
use Rattle.flow_graph.specs.declared.program.Program.{Program}
use Rattle.flow_ctx.specs.declared.unfolded.Unfolded.{Unfolded}
use Rattle.start_file.specs.declared.start_error.StartError.{StartError}
use Rattle.start_file.specs.declared.start_error.StartError.TheVariants as start_error
use Rattle.start_file.specs.StartRefusal as start
use Rattle.start_file.specs.StartState.{start_of}
use Rattle.cert_text.specs.declared.certificate.Certificate.{Certificate}
use Rattle.cert_text.specs.declared.cert_error.CertError.{CertError}
use Rattle.cert_text.specs.declared.cert_error.CertError.TheVariants as cert_error
use Rattle.cert_text.specs.Laws.{ReadIsWritable, WrittenTells}
use Rattle.cert_text.specs.Text as cert
use Rattle.cert_text.specs.Text.{IsTextOf}
use Rattle.cert_laws.specs.Laws as certificate_laws
use Rattle.start_laws.specs.Laws as start_laws
use Rattle.flow_laws.specs.Programs.{EndsInMemory}
use Rattle.program_laws.specs.Laws.{SoundOrRefused}
use Rattle.unfolding_laws.specs.Laws.{UnfoldedOrTooLarge}
use Rattle.verdict_laws.specs.Laws.{HasClasses, ValidOrBroken}
use Rattle.wcet_front.specs.declared.inputs.InputTexts.{InputTexts}
use Rattle.wcet_front.specs.declared.inputs.Inputs.{Inputs}
use Rattle.wcet_front.specs.declared.reply.Reply.{Reply}
use Rattle.wcet_front.specs.declared.reply.Reply.TheVariants as reply
use Rattle.wcet_front.specs.Reply.{IsNoFault}
use Rattle.wcet_front.specs.Inputs.{AreTold, IsCertRefusal, IsEntryOf, IsEntryRefusal, IsFlowRefusal, IsInputsRefusal, IsSmallUnfolding, IsSoundProgram, IsStartRefusal, IsStartTold, IsUnfoldRefusal}
use Rattle.wcet_front.specs.Stages.{Then, refused, passed}
use Rattle.wcet_cli.specs.CheckCommand.{IsVerdict, accepts, rejects}
use Rattle.wcet_cli.proofs.ImageRanges.{entry_small, holds_bytes, value_small}

-- what the crates below say of all texts
pub record AreKnown : Type 0 where
  pub images : elf.PassesOrRefused
  pub loaded : elf.ImagesAreLoaded
  pub facts : ffx.StatedOrRefused
  pub machines : machine_desc.DescribedOrRefused
  pub starts : start_laws.ReadOrRefused
  pub programs : SoundOrRefused
  pub certificates : certificate_laws.ReadOrRefused
  pub texts : certificate_laws.HasText
  pub writable : ReadIsWritable
  pub tells : WrittenTells
  pub unfoldings : UnfoldedOrTooLarge
  pub classes : HasClasses
  pub verdicts : ValidOrBroken

-- a stage gives something, or refuses with a reply that speaks of no fault
pub record IsNeverNone {A : Type 0} (gives : A → Type 0) (refuses : Reply → Type 0) : Type 0 where
  pub some : ((x : A) → gives x → ⊥) → ((said : Reply) → refuses said → IsNoFault said → ⊥) → ⊥

-- so there is a reply, if there is one to each thing that it gives
pub never_then : {A : Type 0} {gives : A → Type 0} {refuses : Reply → Type 0} {next : A → Reply → Type 0}
    → ((said : Reply) → Then gives refuses next said → IsNoFault said → ⊥) → IsNeverNone gives refuses
    → ((x : A) → gives x → ((said : Reply) → next x said → IsNoFault said → ⊥) → ⊥) → ⊥
never_then stop never after =
    never.some (λ x p. after x p (λ said more free. stop said (passed x p more) free)) (λ said p free. stop said (refused p) free)

-- ---- the entry
pub entry_never_none : (image : Image) (named : Option (List ℕ)) → IsNeverNone (IsEntryOf image named) (IsEntryRefusal image named)
entry_never_none image None = record { some = λ go stop. go image.entry refl }
entry_never_none image (Some name) = record { some = λ go stop. by go stop (symbol_value image.symbols name) refl }
  where
    by : ((entry : ℕ) → IsEntryOf image (Some name) entry → ⊥) → ((said : Reply) → IsEntryRefusal image (Some name) said → IsNoFault said → ⊥) → (o : Option ℕ) → symbol_value image.symbols name ≡ o → ⊥
    by go stop (Some entry) is = go entry is
    by go stop None is = stop (reply.NoEntry name) (name, refl, is, refl) tt

-- ---- the unfolding
module _ (known : AreKnown) where
  pub unfolding_never_none : (inputs : Inputs) (entry : ℕ) (program : Program) → IsSoundProgram inputs entry program → IsNeverNone (IsSmallUnfolding program) (IsUnfoldRefusal program)
  unfolding_never_none inputs entry program sound = record {
    some = λ go stop.
        known.unfoldings program (record { image = inputs.image; facts = inputs.facts; start = entry; machine = inputs.machine; is = sound })
        (λ u is few. go u (record { is = is; few = few }))
        (λ many. stop reply.ManyNodes (many, refl) tt);
  }

  -- ---- the certificate
  pub certificate_never_none : (bytes : List ℕ) → IsNeverNone (IsTextOf bytes) (IsCertRefusal bytes)
  certificate_never_none bytes = record { some = λ go stop. known.certificates bytes go (λ e refusal. by stop e refusal) }
    where
      by : ((said : Reply) → IsCertRefusal bytes said → IsNoFault said → ⊥) → (e : CertError) → cert.IsRefusal bytes e → e ≡ cert_error.NoMemory
      by stop cert_error.NoMemory refusal = refl
      by stop (cert_error.Syntax at) refusal = absurd (stop (reply.BadCertificate (cert_error.Syntax at)) (cert_error.Syntax at, refusal, (λ e. cc), refl) tt)
      by stop cert_error.NoEnd refusal = absurd (stop (reply.BadCertificate cert_error.NoEnd) (cert_error.NoEnd, refusal, (λ e. cc), refl) tt)
      by stop (cert_error.Number line) refusal = absurd (stop (reply.BadCertificate (cert_error.Number line)) (cert_error.Number line, refusal, (λ e. cc), refl) tt)
      by stop (cert_error.Order line) refusal = absurd (stop (reply.BadCertificate (cert_error.Order line)) (cert_error.Order line, refusal, (λ e. cc), refl) tt)

  -- ---- the verdict
  pub no_verdict : (u : Unfolded) (machine : Machine) (c : Certificate) → ((said : Reply) → IsVerdict u machine c said → IsNoFault said → ⊥) → ⊥
  no_verdict u machine c stop =
      known.classes u machine
      (λ classes are.
      known.verdicts u machine classes c
      (λ valid. stop (reply.Bound c.bound) (accepts (record { classes = classes; are = are; valid = valid }) refl) tt)
      (λ rule node vector broken. stop (reply.Rejected rule node vector) (rejects rule node vector (record { classes = classes; are = are; broken = broken }) refl) tt))

-- ---- inputs
module _ (known : AreKnown) (texts : InputTexts) where
  pub inputs_never_none : IsNeverNone (AreTold texts) (IsInputsRefusal texts)
  inputs_never_none = record {
    some = λ go stop.
        ⊎_elim
        (λ passes.
        let image = image_of texts.image in
        ⊎_elim
        (λ facts.
        ⊎_elim
        (λ machine.
        go (record { image = image; facts = facts.0; machine = machine.0 })
        (record { image = record { faultless = passes; read = refl }; facts = facts.1; machine = machine.1 }))
        (λ cause. stop (reply.BadMachine cause.0) (passed image (record { faultless = passes; read = refl }) (passed facts.0 facts.1 (cause.0, cause.1, refl))) tt)
        (known.machines texts.machine))
        (λ cause. stop (reply.BadFacts cause.0) (passed image (record { faultless = passes; read = refl }) (refused (cause.0, cause.1, refl))) tt)
        (known.facts texts.facts image.symbols))
        (λ cause. stop (reply.BadImage cause.0) (refused (cause.0, cause.1, refl)) tt)
        (known.images texts.image);
  }

  module _ (inputs : Inputs) (told : AreTold texts inputs) where
    -- ---- the program
    pub program_never_none : (entry : ℕ) → IsNeverNone (IsSoundProgram inputs entry) (IsFlowRefusal inputs entry)
    program_never_none entry = record {
      some = λ go stop.
          known.programs inputs.image inputs.facts entry inputs.machine
          (subst EndsInMemory (sym told.image.read) (record { each = λ k d inside. ((known.loaded texts.image told.image.faultless).within k d inside).in_space }))
          go (λ e first. stop (reply.BadFlow e) (e, first, refl) tt);
    }

    -- ---- the start
    module _ (bytes : AllByRecursion (λ byte. byte < 256) texts.image) where
      -- the entry is a word
      entry_is_word : (named : Option (List ℕ)) (entry : ℕ) → IsEntryOf inputs.image named entry → entry < 2 ^ 32
      entry_is_word None entry e =
          subst (λ n. n < 2 ^ 32) (sym (e ∙ ap (λ (i : Image). i.entry) told.image.read)) (entry_small texts.image bytes)
      entry_is_word (Some name) entry e = value_small texts.image bytes name entry (ap (λ (i : Image). symbol_value i.symbols name) (sym told.image.read) ∙ e)

      pub start_never_none : (named : Option (List ℕ)) (entry : ℕ) → IsEntryOf inputs.image named entry → (text : List ℕ)
          → IsNeverNone (IsStartTold inputs.image inputs.machine entry text) (IsStartRefusal inputs.image inputs.machine text)
      start_never_none named entry entered text = record {
        some = λ go stop.
            known.starts inputs.image inputs.machine entry text
            (subst start_laws.HoldsBytes (sym told.image.read) (holds_bytes texts.image bytes)) (entry_is_word named entry entered)
            (λ start is.
            go (start_of inputs.image start)
            (record { read = start; told = is.told; registers = is.registers; cache = is.cache; is = refl; starts = is.starts }))
            (λ e refusal. by stop e refusal);
      }
        where
          by : ((said : Reply) → IsStartRefusal inputs.image inputs.machine text said → IsNoFault said → ⊥) → (e : StartError) → start.IsRefusal inputs.image inputs.machine.shape text e → e ≡ start_error.NoMemory
          by stop start_error.NoMemory refusal = refl
          by stop (start_error.Line line) refusal = absurd (stop (reply.BadStart (start_error.Line line)) (start_error.Line line, refusal, (λ e. cc), refl) tt)
          by stop (start_error.NotACache set) refusal = absurd (stop (reply.BadStart (start_error.NotACache set)) (start_error.NotACache set, refusal, (λ e. cc), refl) tt)
