-- From a certificate that is accepted to what its bound says of all runs.
use Rattle.std.proofs.Common.{ℕ, ◌⊎◌, inl, inr, List, [], ◌∷◌, Option, sym, subst, arith}
use Rattle.wx_base.specs.declared.image.Image.{Image}
use Rattle.wx_host.specs.Outside.{Contents}
use Rattle.elf_image.specs.Laws.{ImagesAreLoaded}
use Rattle.machine_desc.specs.Laws.{DescriptionsAreInRange}
use Rattle.flow_graph.specs.Program.{rules_of}
use Rattle.flow_laws.specs.Programs.{EndsInMemory}
use Rattle.bound_laws.specs.Laws.{ValidBoundsHold}
use Rattle.wcet_front.specs.Files.{AreContents}
use Rattle.wcet_front.specs.Inputs.{IsImageOf}
use Rattle.wcet_cli.specs.Words.{CheckWords, IsCheck}
use Rattle.wcet_cli.specs.Commands.{Flat, Run, Migrate, Check}
use Rattle.wcet_cli.specs.FlatCommand.{AnswersBound}
use Rattle.wcet_cli.specs.RunCommand.{ReportsRun}
use Rattle.wcet_cli.specs.MigrateCommand.{Migrates}
use Rattle.wcet_cli.specs.CheckCommand.{AcceptsBound, BoundsEveryRun}
use Rattle.wcet_cli.proofs.OneForm.{one_check, one_form}

-- the laws of the crates below that join a valid certificate with the runs of what was read
pub record AreKnown : Type 0 where
  pub bounds : ValidBoundsHold
  pub loaded : ImagesAreLoaded
  pub ranges : DescriptionsAreInRange

-- the segments of an image that was read end within the 2 ^ 32 addresses
ends_in_memory : ImagesAreLoaded → (bytes : List ℕ) (image : Image) → IsImageOf bytes image → EndsInMemory image
ends_in_memory loaded bytes image is =
    let within = (loaded bytes is.faultless).within in
    subst EndsInMemory (sym is.read) (record { each = λ k d h. omega (arith, (within k d h).in_space) })

-- the first three of four files have their contents
first_three : (holds : Option Contents) (a b c d p q r s : List ℕ) → AreContents holds (a ∷ b ∷ c ∷ d ∷ []) (p ∷ q ∷ r ∷ s ∷ [])
    → AreContents holds (a ∷ b ∷ c ∷ []) (p ∷ q ∷ r ∷ [])
first_three holds a b c d p q r s h = (h.0, (h.1.0, (h.1.1.0, tt)))

-- the bound of a certificate that is accepted holds for every run
pub bounds_every_run : AreKnown → (holds : Option Contents) (words : List (List ℕ)) (w : CheckWords) (taken taken' : Option (List ℕ)) → IsCheck words w
    → AcceptsBound holds words taken taken' → BoundsEveryRun holds w taken taken'
bounds_every_run known holds words w taken taken' form a =
    let image = a.inputs.image in
    let memory = ends_in_memory known.loaded a.texts.image image a.told.image in
    let ranges = known.ranges a.texts.machine a.inputs.machine a.told.machine in
    let valid = a.accepted in
    subst (λ v. BoundsEveryRun holds v taken taken') (one_check words a.w w a.form form)
    (record {
      texts = a.texts;
      inputs = a.inputs;
      entry = a.entry;
      rules = rules_of a.inputs.facts a.program;
      bound = a.c.bound;
      contents = first_three holds _ _ _ _ _ _ _ _ a.contents;
      told = a.told;
      entered = a.entered;
      judged = a.sound.is.rules;
      bounds = λ start n starts.
          known.bounds image a.inputs.facts a.entry a.inputs.machine a.program a.u valid.classes a.c start n memory ranges a.sound a.unfolded valid.are valid.valid starts;
      took = a.took;
    })

-- Words of `check` are those of no other command, so status 0 says this of them.
pub headline : AreKnown → (holds holds' : Option Contents) (words : List (List ℕ)) (w : CheckWords) (taken taken' : Option (List ℕ)) → IsCheck words w
    → AnswersBound holds words taken taken' ⊎ ReportsRun holds words taken taken' 0 ⊎ Migrates holds holds' words taken taken'
    ⊎ AcceptsBound holds words taken taken'
    → BoundsEveryRun holds w taken taken'
headline known holds holds' words w taken taken' form (inl a) = let e = one_form words (Flat a.name) (Check w) a.form form in absurd cc
headline known holds holds' words w taken taken' form (inr (inl a)) = let e = one_form words (Run a.w) (Check w) a.form form in absurd cc
headline known holds holds' words w taken taken' form (inr (inr (inl a))) = let e = one_form words (Migrate a.w) (Check w) a.form form in absurd cc
headline known holds holds' words w taken taken' form (inr (inr (inr a))) = bounds_every_run known holds words w taken taken' form a
