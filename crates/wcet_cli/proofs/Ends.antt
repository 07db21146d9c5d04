-- What each status of a call says.
use Rattle.std.proofs.Common.{◌≡◌, ◌⊎◌, ℕ, zero, suc, inl, inr, List, [], ◌∷◌, Option, refl, sym, ap, ◌∙◌, subst, ⊎_elim, arith}
use Rattle.std.specs.Prelude.{⊤}
use Rattle.wx_base.specs.Machine.{m1, IsMachine}
use Rattle.wx_host.specs.Outside.{Contents, Rose}
use Rattle.wx_host.specs.MemStore.{HeldFile}
use Rattle.pipe_time.specs.Order.{WorseCompletesNoEarlier}
use Rattle.flow_graph.specs.Program.{rules_of}
use Rattle.run_machine.specs.declared.report.End.{End}
use Rattle.run_machine.specs.declared.report.End.TheVariants as end
use Rattle.wcet_front.specs.declared.inputs.InputTexts.{InputTexts}
use Rattle.wcet_front.specs.declared.reply.Reply.{Reply}
use Rattle.wcet_front.specs.Reply.{run_status, status_of, text_of, IsSaid, InFull, Wanting}
use Rattle.wcet_front.specs.StoreUse.{StoreUse}
use Rattle.wcet_front.specs.Files.{reads_in, AreContents, AreRead, IsUnread, failed, missing, long, IsFirstUnread}
use Rattle.wcet_front.specs.Writing.{RepliesOf, writes_in, AreWritten, IsFirstUnwritten, at_front, at_fault, in_reading, in_writing, unread, unwritten, worked}
use Rattle.wcet_front.specs.WritingLaws.{part_of, writes_nothing}
use Rattle.wcet_front.specs.Handing.{Took, HandsOver, Whole, Unwritten, Starved}
use Rattle.wcet_front.specs.Inputs.{IsInputsRefusal}
use Rattle.wcet_front.specs.Stages.{refused, passed}
use Rattle.wcet_cli.specs.Words.{IsFlat, RunWords, IsRun, MigrateWords, IsMigrate, CheckWords, IsCheck}
use Rattle.wcet_cli.specs.FlatCommand.{FlatReply, bound, leaves_code, unsupported, AnswersBound}
use Rattle.wcet_cli.specs.RunCommand.{run_files, report_in, RunReply, ReportsRun}
use Rattle.wcet_cli.specs.MigrateCommand.{MigrateDeed, migrates, refuses, Migrates}
use Rattle.wcet_cli.specs.CheckCommand.{check_files, CheckReply, accepts, rejects, AcceptsBound}
use Rattle.wcet_cli.specs.Commands.{Form, Flat, Run, Migrate, Check, IsForm, FitsForm, files_of, Does, by_form}
use Rattle.wcet_cli.specs.Call.{HasCause, NoForm, OfForm, IsStarved, OfNone, OfSome, IsAnswer, Says, Starves, Refuses, ReadsNothing, IsTooLarge, WritesNot, HoldsInPart}
use Rattle.wcet_cli.proofs.Running.{every_run_ends_within}

-- the files that a reply asked for and what it wrote are a part of what the words say
asked_front : (used : StoreUse) (words : List (List ℕ)) (said : Reply) → HasCause used words said → IsStarved used words
asked_front used words said (NoForm unfit asked untouched e) = OfNone unfit asked untouched
asked_front used words said (OfForm form is cause) = OfSome form is (part_of used (files_of form) (Does form) said cause)

-- a reply with its cause is said in full, or memory is wanting
pub answer_of : (used : StoreUse) (words : List (List ℕ)) (said : Reply) (status : ℕ) (text : List ℕ) → HasCause used words said → IsSaid said status text → IsAnswer used words status text
answer_of used words said status text cause (InFull s t) = Says said cause s t
answer_of used words said status text cause (Wanting s t) = Starves (asked_front used words said cause) s t

-- a deed that writes something is answered with status 0
writes_answered : (form : Form) (contents : List (List ℕ)) (files : List HeldFile) (said : Reply) → Does form contents files said → (files ≡ []) ⊎ (status_of said ≡ 0)
writes_answered (Flat code) contents files said h = inl h.none
writes_answered (Run w) contents files said h = inl h.none
writes_answered (Check w) contents files said h = inl h.none
writes_answered (Migrate w) [] files said h = absurd h
writes_answered (Migrate w) (bytes ∷ []) files said (migrates c text vectors is f e) = inr (ap status_of e)
writes_answered (Migrate w) (bytes ∷ []) files said (refuses h f) = inl f
writes_answered (Migrate w) (bytes ∷ other ∷ contents) files said h = absurd h

-- what is held stays, unless all is written or the store failed in a write
kept : (used : StoreUse) (words : List (List ℕ)) (said : Reply) → HasCause used words said → (status_of said ≡ 0 → ⊥) → (status_of said ≡ 3 → ⊥) → used.after.holds ≡ used.before.holds
kept used words said (NoForm unfit asked untouched e) none three = untouched.holds
kept used words said (OfForm form is (unread untouched f)) none three = untouched.holds
kept used words said (OfForm form is (unwritten contents files meant are h f)) none three = absurd (three (ap status_of f.is))
kept used words said (OfForm form is (worked contents files are h wrote)) none three =
    ⊎_elim
    (λ (no : files ≡ []). wrote.holds ∙ ap (λ (x : List HeldFile). writes_in x used.before.holds) no ∙ writes_nothing used.before.holds)
    (λ (answered : status_of said ≡ 0). absurd (none answered))
    (writes_answered form contents files said h)

part_held : (used : StoreUse) (words : List (List ℕ)) → IsStarved used words → (Rose used.before.writes.faults used.after.writes.faults → ⊥) → (used.after.holds ≡ used.before.holds) ⊎ HoldsInPart used words
part_held used words (OfNone unfit asked untouched) none = inl untouched.holds
part_held used words (OfSome form is (in_reading untouched cut)) none = inl untouched.holds
part_held used words (OfSome form is (in_writing contents files meant are h (at_front part))) none = inr (record {
  files = files;
  front = part.front;
  rest = part.rest;
  meant = record { form = form; contents = contents; said = meant; is = is; are = are; does = h };
  files_are = part.files_are;
  holds = part.holds;
})
part_held used words (OfSome form is (in_writing contents files meant are h (at_fault name stop))) none = absurd (none stop.rose)

module _ (law : WorseCompletesNoEarlier) (ok : IsMachine m1) (used : StoreUse) (words : List (List ℕ)) (taken taken' : Option (List ℕ)) (ends : ℕ) where
  abbrev holds : Option Contents
  holds = used.before.holds

  -- what each status says of a reply with its cause
  abbrev MeansAt : ℕ → Type 0
  MeansAt zero =
      AnswersBound used.before.holds words taken taken' ⊎ ReportsRun used.before.holds words taken taken' 0
      ⊎ Migrates used.before.holds used.after.holds words taken taken' ⊎ AcceptsBound used.before.holds words taken taken'
  MeansAt (suc zero) = ¬ FitsForm words
  MeansAt (suc (suc zero)) = ReadsNothing (reads_in used) words
  MeansAt (suc (suc (suc zero))) = WritesNot used words taken taken'
  MeansAt (suc (suc (suc (suc zero)))) = Refuses used.before.holds words 4
  MeansAt (suc (suc (suc (suc (suc zero))))) = Refuses used.before.holds words 5
  MeansAt (suc (suc (suc (suc (suc (suc zero)))))) = Refuses used.before.holds words 6
  MeansAt (suc (suc (suc (suc (suc (suc (suc zero))))))) = Refuses used.before.holds words 7
  MeansAt (suc (suc (suc (suc (suc (suc (suc (suc zero)))))))) = Refuses used.before.holds words 8
  MeansAt (suc (suc (suc (suc (suc (suc (suc (suc (suc zero))))))))) = ⊤
  MeansAt (suc (suc (suc (suc (suc (suc (suc (suc (suc (suc zero)))))))))) = IsTooLarge (reads_in used) words ⊎ Refuses used.before.holds words 10
  MeansAt (suc (suc (suc (suc (suc (suc (suc (suc (suc (suc (suc zero))))))))))) = ReportsRun used.before.holds words taken taken' 11
  MeansAt (suc (suc (suc (suc (suc (suc (suc (suc (suc (suc (suc (suc zero)))))))))))) = Refuses used.before.holds words 12
  MeansAt (suc (suc (suc (suc (suc (suc (suc (suc (suc (suc (suc (suc (suc more))))))))))))) = ⊤

  means : (n : ℕ) → ends ≡ n → MeansAt n → MeansAt ends
  means n e is = subst MeansAt (sym e) is

  -- a file is not read
  file_means : (form : Form) (said : Reply) → IsForm words form → IsFirstUnread (reads_in used) (files_of form) said → ends ≡ status_of said → MeansAt ends
  file_means form said is f e = by_cause f.unread
    where
      by_cause : IsUnread (reads_in used) f.name said → MeansAt ends
      by_cause (failed rose g) = means 2 (e ∙ ap status_of g) (record { names = files_of form; name = f.name; named = by_form form is refl; come = f.come; fault = inl rose })
      by_cause (missing none g) = means 2 (e ∙ ap status_of g) (record { names = files_of form; name = f.name; named = by_form form is refl; come = f.come; fault = inr none })
      by_cause (long bytes cut g) = means 10 (e ∙ ap status_of g) (inl (record { names = files_of form; name = f.name; bytes = bytes; named = by_form form is refl; come = f.come; cut = cut }))

  -- a file is not written
  unwritten_means : (form : Form) (contents : List (List ℕ)) (files : List HeldFile) (meant said : Reply) → IsForm words form → AreRead (reads_in used) (files_of form) contents → Does form contents files meant → IsFirstUnwritten used files said → ends ≡ status_of said → Took taken taken' (text_of said) → MeansAt ends
  unwritten_means form contents files meant said is are h f e took = means 3 (e ∙ ap status_of f.is) (record {
    files = files;
    name = f.name;
    meant = record { form = form; contents = contents; said = meant; is = is; are = are; does = h };
    unwritten = f.unwritten;
    took = subst (λ r. Took taken taken' (text_of r)) f.is took;
  })

  refusal : (form : Form) (contents : List (List ℕ)) (said : Reply) → IsForm words form → AreContents holds (files_of form) contents → RepliesOf (Does form) contents said → (n : ℕ) → ends ≡ status_of said → n ≡ status_of said → Refuses holds words n
  refusal form contents said is are cause n e r =
      record { form = form; contents = contents; said = said; is = is; are = are; cause = cause; ends = r }

  flat_means : (code bytes : List ℕ) (said : Reply) → IsFlat words code → AreContents holds (code ∷ []) (bytes ∷ []) → FlatReply bytes said → ends ≡ status_of said → Took taken taken' (text_of said) → MeansAt ends
  flat_means code bytes said is are (bound program p g) e took =
      means 0 (e ∙ ap status_of g) (inl (record {
        name = code;
        bytes = bytes;
        program = program;
        form = is;
        content = are.0;
        program_is = p;
        safe = every_run_ends_within m1 bytes program are.0.0 p ok law;
        took = subst (λ r. Took taken taken' (text_of r)) g took;
      }))
  flat_means code bytes said is are (leaves_code address cut g) e took =
      means 4 (e ∙ ap status_of g) (refusal (Flat code) (bytes ∷ []) said is are (record { files = []; deed = record { none = refl; says = leaves_code address cut g } }) 4 e (sym (ap status_of g)))
  flat_means code bytes said is are (unsupported address word f g) e took =
      means 4 (e ∙ ap status_of g) (refusal (Flat code) (bytes ∷ []) said is are (record { files = []; deed = record { none = refl; says = unsupported address word f g } }) 4 e (sym (ap status_of g)))

  -- a run, or a stage that refuses it
  module _ (w : RunWords) (texts : InputTexts) (start : List ℕ) (said : Reply) (is : IsRun words w) (are : AreContents holds (run_files w) (texts.image ∷ texts.facts ∷ texts.machine ∷ start ∷ []))
      (e : ends ≡ status_of said) (took : Took taken taken' (text_of said)) where
    refused_run : (n : ℕ) → RunReply w texts start said → n ≡ status_of said → Refuses holds words n
    refused_run n cause r = refusal (Run w) (texts.image ∷ texts.facts ∷ texts.machine ∷ start ∷ []) said is are (record { files = []; deed = record { none = refl; says = cause } }) n e r

    inputs_means : RunReply w texts start said → IsInputsRefusal texts said → MeansAt ends
    inputs_means cause (refused h) = means 4 (e ∙ ap status_of h.2) (refused_run 4 cause (sym (ap status_of h.2)))
    inputs_means cause (passed image is_image (refused h)) = means 5 (e ∙ ap status_of h.2) (refused_run 5 cause (sym (ap status_of h.2)))
    inputs_means cause (passed image is_image (passed facts are_facts h)) = means 6 (e ∙ ap status_of h.2) (refused_run 6 cause (sym (ap status_of h.2)))

    end_means : (reached : End) → ends ≡ run_status reached → ReportsRun holds words taken taken' ends → MeansAt ends
    end_means end.Ended s r = means 0 s (inr (inl (subst (ReportsRun holds words taken taken') s r)))
    end_means end.Limit s r = means 0 s (inr (inl (subst (ReportsRun holds words taken taken') s r)))
    end_means (end.Stopped why address) s r = means 0 s (inr (inl (subst (ReportsRun holds words taken taken') s r)))
    end_means (end.Breaks fact address) s r = means 11 s (subst (ReportsRun holds words taken taken') s r)

    run_means : RunReply w texts start said → MeansAt ends
    run_means (refused h) = inputs_means (refused h) h
    run_means (passed inputs told (refused h)) = means 4 (e ∙ ap status_of h.3) (refused_run 4 (passed inputs told (refused h)) (sym (ap status_of h.3)))
    run_means (passed inputs told (passed entry at (refused h))) = means 12 (e ∙ ap status_of h.3) (refused_run 12 (passed inputs told (passed entry at (refused h))) (sym (ap status_of h.3)))
    run_means (passed inputs told (passed entry at (passed begin begins (refused h)))) =
        means 4 (e ∙ ap status_of h.2) (refused_run 4 (passed inputs told (passed entry at (passed begin begins (refused h)))) (sym (ap status_of h.2)))
    run_means (passed inputs told (passed entry at (passed begin begins (passed program sound g)))) =
        let rules = rules_of inputs.facts program in
        let status : ends ≡ run_status (report_in inputs rules entry begin w.steps).end = e ∙ ap status_of g in
        end_means (report_in inputs rules entry begin w.steps).end status (record {
          w = w;
          texts = texts;
          start = start;
          inputs = inputs;
          entry = entry;
          begin = begin;
          rules = rules;
          form = is;
          contents = are;
          told = told;
          entered = at;
          begins = begins;
          sound = sound.sound;
          judged = sound.is.rules;
          took = subst (λ r. Took taken taken' (text_of r)) g took;
          ends = status;
        })

  migrate_means : (w : MigrateWords) (bytes : List ℕ) (files : List HeldFile) (said : Reply) → IsMigrate words w → AreContents holds (w.source ∷ []) (bytes ∷ []) → MigrateDeed w.target bytes files said → AreWritten used files → ends ≡ status_of said → Took taken taken' (text_of said) → MeansAt ends
  migrate_means w bytes files said is are (migrates c text vectors migration f g) wrote e took =
      means 0 (e ∙ ap status_of g) (inr (inr (inl (record {
        w = w;
        bytes = bytes;
        c = c;
        text = text;
        vectors = vectors;
        form = is;
        content = are.0;
        is = migration;
        held = wrote.holds ∙ ap (λ (x : List HeldFile). writes_in x holds) f;
        took = subst (λ r. Took taken taken' (text_of r)) g took;
      }))))
  migrate_means w bytes files said is are (refuses h f) wrote e took =
      means 7 (e ∙ ap status_of h.3) (refusal (Migrate w) (bytes ∷ []) said is are (record { files = files; deed = refuses h f }) 7 e (sym (ap status_of h.3)))

  -- the verdict on a certificate, or a stage that refuses what it needs
  module _ (w : CheckWords) (texts : InputTexts) (certificate : List ℕ) (said : Reply) (is : IsCheck words w)
      (are : AreContents holds (check_files w) (texts.image ∷ texts.facts ∷ texts.machine ∷ certificate ∷ []))
      (e : ends ≡ status_of said) (took : Took taken taken' (text_of said)) where
    refused_check : (n : ℕ) → CheckReply w texts certificate said → n ≡ status_of said → Refuses holds words n
    refused_check n cause r =
        refusal (Check w) (texts.image ∷ texts.facts ∷ texts.machine ∷ certificate ∷ []) said is are
        (record { files = []; deed = record { none = refl; says = cause } }) n e r

    told_means : CheckReply w texts certificate said → IsInputsRefusal texts said → MeansAt ends
    told_means cause (refused h) = means 4 (e ∙ ap status_of h.2) (refused_check 4 cause (sym (ap status_of h.2)))
    told_means cause (passed image is_image (refused h)) = means 5 (e ∙ ap status_of h.2) (refused_check 5 cause (sym (ap status_of h.2)))
    told_means cause (passed image is_image (passed facts are_facts h)) = means 6 (e ∙ ap status_of h.2) (refused_check 6 cause (sym (ap status_of h.2)))

    check_means : CheckReply w texts certificate said → MeansAt ends
    check_means (refused h) = told_means (refused h) h
    check_means (passed inputs told (refused h)) =
        means 7 (e ∙ ap status_of h.3) (refused_check 7 (passed inputs told (refused h)) (sym (ap status_of h.3)))
    check_means (passed inputs told (passed c read (refused h))) =
        means 4 (e ∙ ap status_of h.3) (refused_check 4 (passed inputs told (passed c read (refused h))) (sym (ap status_of h.3)))
    check_means (passed inputs told (passed c read (passed entry at (refused h)))) =
        means 4 (e ∙ ap status_of h.2) (refused_check 4 (passed inputs told (passed c read (passed entry at (refused h)))) (sym (ap status_of h.2)))
    check_means (passed inputs told (passed c read (passed entry at (passed program sound (refused h))))) =
        means 10 (e ∙ ap status_of h.1)
        (inr (refused_check 10 (passed inputs told (passed c read (passed entry at (passed program sound (refused h))))) (sym (ap status_of h.1))))
    check_means (passed inputs told (passed c read (passed entry at (passed program sound (passed u small (rejects rule node vector broken g)))))) =
        means 8 (e ∙ ap status_of g)
        (refused_check 8 (passed inputs told (passed c read (passed entry at (passed program sound (passed u small (rejects rule node vector broken g))))))
        (sym (ap status_of g)))
    check_means (passed inputs told (passed c read (passed entry at (passed program sound (passed u small (accepts accepted g)))))) =
        means 0 (e ∙ ap status_of g) (inr (inr (inr (record {
          w = w;
          texts = texts;
          certificate = certificate;
          inputs = inputs;
          c = c;
          entry = entry;
          program = program;
          u = u;
          form = is;
          contents = are;
          told = told;
          read = read;
          entered = at;
          sound = sound;
          unfolded = small.is;
          accepted = accepted;
          took = subst (λ r. Took taken taken' (text_of r)) g took;
        }))))

  form_means : (form : Form) (contents : List (List ℕ)) (files : List HeldFile) (said : Reply) → IsForm words form → AreContents holds (files_of form) contents → Does form contents files said → AreWritten used files → ends ≡ status_of said → Took taken taken' (text_of said) → MeansAt ends
  form_means (Flat code) [] files said is are h wrote e took = absurd h.says
  form_means (Flat code) (bytes ∷ []) files said is are h wrote e took = flat_means code bytes said is are h.says e took
  form_means (Flat code) (bytes ∷ other ∷ contents) files said is are h wrote e took = absurd h.says
  form_means (Run w) [] files said is are h wrote e took = absurd h.says
  form_means (Run w) (image ∷ []) files said is are h wrote e took = absurd h.says
  form_means (Run w) (image ∷ facts ∷ []) files said is are h wrote e took = absurd h.says
  form_means (Run w) (image ∷ facts ∷ machine ∷ []) files said is are h wrote e took = absurd h.says
  form_means (Run w) (image ∷ facts ∷ machine ∷ start ∷ []) files said is are h wrote e took =
      run_means w (record { image = image; facts = facts; machine = machine }) start said is are e took h.says
  form_means (Run w) (image ∷ facts ∷ machine ∷ start ∷ other ∷ contents) files said is are h wrote e took = absurd h.says
  form_means (Check w) [] files said is are h wrote e took = absurd h.says
  form_means (Check w) (image ∷ []) files said is are h wrote e took = absurd h.says
  form_means (Check w) (image ∷ facts ∷ []) files said is are h wrote e took = absurd h.says
  form_means (Check w) (image ∷ facts ∷ machine ∷ []) files said is are h wrote e took = absurd h.says
  form_means (Check w) (image ∷ facts ∷ machine ∷ certificate ∷ []) files said is are h wrote e took =
      check_means w (record { image = image; facts = facts; machine = machine }) certificate said is are e took h.says
  form_means (Check w) (image ∷ facts ∷ machine ∷ certificate ∷ other ∷ contents) files said is are h wrote e took = absurd h.says
  form_means (Migrate w) [] files said is are h wrote e took = absurd h
  form_means (Migrate w) (bytes ∷ []) files said is are h wrote e took = migrate_means w bytes files said is are h wrote e took
  form_means (Migrate w) (bytes ∷ other ∷ contents) files said is are h wrote e took = absurd h

  cause_means : (said : Reply) → HasCause used words said → ends ≡ status_of said → Took taken taken' (text_of said) → MeansAt ends
  cause_means said (NoForm unfit asked untouched g) e took = means 1 (e ∙ ap status_of g) unfit
  cause_means said (OfForm form is (unread untouched f)) e took = file_means form said is f e
  cause_means said (OfForm form is (unwritten contents files meant are h f)) e took = unwritten_means form contents files meant said is are h f e took
  cause_means said (OfForm form is (worked contents files are h wrote)) e took = form_means form contents files said is are.whole h wrote e took

  -- how a call ended, as the answer and its handing over say
  abbrev pub Ended : ℕ → ℕ → Type 0
  Ended faults faults' = (status : ℕ) × (text : List ℕ) × IsAnswer used words status text × HandsOver taken taken' faults faults' status text ends

  meaning_in : (faults faults' status : ℕ) (text : List ℕ) → IsAnswer used words status text → HandsOver taken taken' faults faults' status text ends → (ends ≡ 3 → Rose faults faults' → ⊥) → (ends ≡ 9 → ⊥) → MeansAt ends
  meaning_in faults faults' status text (Says said cause s t) (Whole e took same) three nine = cause_means said cause (e ∙ s) (subst (Took taken taken') t took)
  meaning_in faults faults' status text (Starves is s t) (Whole e took same) three nine = absurd (nine (e ∙ s))
  meaning_in faults faults' status text answer (Unwritten e took rose) three nine = absurd (three e rose)
  meaning_in faults faults' status text answer (Starved e took same) three nine = absurd (nine e)

  other : (m n : ℕ) → ends ≡ m → ends ≡ n → (m ≡ n → ⊥) → ⊥
  other m n e k differ = differ (sym e ∙ k)

  module _ (faults faults' : ℕ) (ended : Ended faults faults') where
    -- a status other than 3 and 9 says what it means
    meaning : (n : ℕ) → ends ≡ n → (3 ≡ n → ⊥) → (9 ≡ n → ⊥) → MeansAt n
    meaning n k three nine =
        subst MeansAt k (meaning_in faults faults' ended.0 ended.1 ended.2 ended.3 (λ h rose. other 3 n h k three) (λ h. other 9 n h k nine))

    pub at_zero : ends ≡ 0 → AnswersBound used.before.holds words taken taken' ⊎ ReportsRun used.before.holds words taken taken' 0
        ⊎ Migrates used.before.holds used.after.holds words taken taken' ⊎ AcceptsBound used.before.holds words taken taken'
    at_zero k = meaning 0 k (λ g. omega (arith, g)) (λ g. omega (arith, g))

    pub at_one : ends ≡ 1 → ¬ FitsForm words
    at_one k = meaning 1 k (λ g. omega (arith, g)) (λ g. omega (arith, g))

    pub at_two : ends ≡ 2 → ReadsNothing (reads_in used) words
    at_two k = meaning 2 k (λ g. omega (arith, g)) (λ g. omega (arith, g))

    pub at_four : ends ≡ 4 → Refuses used.before.holds words 4
    at_four k = meaning 4 k (λ g. omega (arith, g)) (λ g. omega (arith, g))

    pub at_five : ends ≡ 5 → Refuses used.before.holds words 5
    at_five k = meaning 5 k (λ g. omega (arith, g)) (λ g. omega (arith, g))

    pub at_six : ends ≡ 6 → Refuses used.before.holds words 6
    at_six k = meaning 6 k (λ g. omega (arith, g)) (λ g. omega (arith, g))

    pub at_seven : ends ≡ 7 → Refuses used.before.holds words 7
    at_seven k = meaning 7 k (λ g. omega (arith, g)) (λ g. omega (arith, g))

    pub at_eight : ends ≡ 8 → Refuses used.before.holds words 8
    at_eight k = meaning 8 k (λ g. omega (arith, g)) (λ g. omega (arith, g))

    pub at_ten : ends ≡ 10 → IsTooLarge (reads_in used) words ⊎ Refuses used.before.holds words 10
    at_ten k = meaning 10 k (λ g. omega (arith, g)) (λ g. omega (arith, g))

    pub at_eleven : ends ≡ 11 → ReportsRun used.before.holds words taken taken' 11
    at_eleven k = meaning 11 k (λ g. omega (arith, g)) (λ g. omega (arith, g))

    pub at_twelve : ends ≡ 12 → Refuses used.before.holds words 12
    at_twelve k = meaning 12 k (λ g. omega (arith, g)) (λ g. omega (arith, g))

    -- 3 says that the output failed, or what a write that fails means
    pub at_three : ends ≡ 3 → Rose faults faults' ⊎ WritesNot used words taken taken'
    at_three k = by_hands ended.2 ended.3
      where
        by_hands : {status : ℕ} {text : List ℕ} → IsAnswer used words status text → HandsOver taken taken' faults faults' status text ends → Rose faults faults' ⊎ WritesNot used words taken taken'
        by_hands (Says said cause s t) (Whole e took same) = inr (subst MeansAt k (cause_means said cause (e ∙ s) (subst (Took taken taken') t took)))
        by_hands (Starves is s t) (Whole e took same) = absurd (omega (arith, e, s, k))
        by_hands answer (Unwritten e took rose) = inl rose
        by_hands answer (Starved e took same) = absurd (omega (arith, e, k))

    -- with any status but 0, 3 and 9 what is held is as it was
    pub stays : (ends ≡ 0 → ⊥) → (ends ≡ 3 → ⊥) → (ends ≡ 9 → ⊥) → used.after.holds ≡ used.before.holds
    stays none three nine = by_hands ended.2 ended.3
      where
        by_hands : {status : ℕ} {text : List ℕ} → IsAnswer used words status text → HandsOver taken taken' faults faults' status text ends → used.after.holds ≡ used.before.holds
        by_hands (Says said cause s t) (Whole e took same) = kept used words said cause (λ h. none (e ∙ s ∙ h)) (λ h. three (e ∙ s ∙ h))
        by_hands (Starves is s t) (Whole e took same) = absurd (nine (e ∙ s))
        by_hands answer (Unwritten e took rose) = absurd (three e)
        by_hands answer (Starved e took same) = absurd (nine e)

    -- where the store failed in no write, a front of the files is written
    pub holds_part : (Rose used.before.writes.faults used.after.writes.faults → ⊥) → (used.after.holds ≡ used.before.holds) ⊎ HoldsInPart used words
    holds_part none = by_answer ended.2
      where
        by_answer : {status : ℕ} {text : List ℕ} → IsAnswer used words status text → (used.after.holds ≡ used.before.holds) ⊎ HoldsInPart used words
        by_answer (Says said cause s t) = part_held used words (asked_front used words said cause) none
        by_answer (Starves is s t) = part_held used words is none
