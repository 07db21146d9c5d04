-- Some reply is due, whatever the words and whatever a store holds. What is shown is that it cannot be otherwise, so each step may go on as
-- if every statement held or did not.
use Rattle.std.proofs.Common.{◌≡◌, ⊎_elim, ℕ, ◌<◌, ◌≤◌, ◌^◌, List, [], ◌∷◌, length, take, drop, Option, Some, None, refl, sym, ap, ◌∙◌, arith, length-drop}
use Rattle.std.specs.List.{AllByRecursion}
use Rattle.std.proofs.lemmas.Bool.{cases_lt}
use Rattle.std.proofs.lemmas.List.{take-append-drop, length-take-le}
use Rattle.wx_host.specs.Outside.{Contents, longest_file}
use Rattle.wx_host.specs.MemStore.{HeldFile}
use Rattle.flow_graph.specs.Program.{rules_of}
use Rattle.cert_text.specs.declared.certificate.Certificate.{Certificate}
use Rattle.cert_text.specs.Text.{IsTextOf}
use Rattle.wcet_front.specs.declared.inputs.InputTexts.{InputTexts}
use Rattle.wcet_front.specs.declared.reply.Reply.{Reply}
use Rattle.wcet_front.specs.declared.reply.Reply.TheVariants as reply
use Rattle.wcet_front.specs.Reply.{IsNoFault}
use Rattle.wcet_front.specs.Files.{reads_of, missing, long, AreRead, IsFirstUnread, unread, replied}
use Rattle.wcet_front.specs.Writing.{RepliesOf, OnlyReplies, file_of}
use Rattle.wcet_cli.specs.Words.{RunWords, IsRun, MigrateWords, IsMigrate, CheckWords, IsCheck}
use Rattle.wcet_cli.specs.CheckCommand.{CheckReply, CheckReplies, check_files}
use Rattle.wcet_cli.specs.MigrateCommand.{MigrateDoes, migrates, refuses}
use Rattle.wcet_cli.specs.RunCommand.{RunReply, RunReplies, report_in, run_files}
use Rattle.wcet_cli.specs.Commands.{Form, Flat, Run, Migrate, Check, IsForm, FitsForm, files_of, Does}
use Rattle.wcet_cli.specs.Call.{AreBytes, by_none, by_form, IsDue}
use Rattle.wcet_cli.proofs.EachStage.{AreKnown, certificate_never_none, entry_never_none, inputs_never_none, never_then, no_verdict, program_never_none, start_never_none, unfolding_never_none}
use Rattle.wcet_cli.proofs.SomeDue.{some_flat}

-- ---- files
-- all files are read, or the first that is not calls for a reply
data Reading (contents : Contents) (names : List (List ℕ)) : Type 0 where
  AllRead : (have : List (List ℕ)) → AreRead (reads_of contents) names have → Reading contents names
  Stopped : (said : Reply) → IsFirstUnread (reads_of contents) names said → IsNoFault said → Reading contents names

module _ (contents : Contents) where
  -- the first file is not read
  absent : (name : List ℕ) (names : List (List ℕ)) → contents name ≡ None → Reading contents (name ∷ names)
  absent name names e =
      Stopped (reply.Missing name)
      (record {
        name = name;
        come = record { front = []; contents = []; rest = names; names_are = refl; whole = tt; asked = refl };
        unread = missing e refl;
      })
      tt

  too_long : (name : List ℕ) (names : List (List ℕ)) (bytes : List ℕ) → contents name ≡ Some bytes → longest_file < length bytes → Reading contents (name ∷ names)
  too_long name names bytes e l =
      Stopped (reply.LongFile name)
      (record {
        name = name;
        come = record { front = []; contents = []; rest = names; names_are = refl; whole = tt; asked = refl };
        unread = long (take longest_file bytes) (front bytes longest_file (at_most l), (drop longest_file bytes, rest bytes longest_file l, e ∙ ap Some (sym (take-append-drop longest_file bytes)))) refl;
      })
      tt
    where
      at_most : {m n : ℕ} → m < n → m ≤ n
      at_most h = omega (arith, h)

      front : (bytes : List ℕ) (n : ℕ) → n ≤ length bytes → length (take n bytes) ≡ n
      front bytes n p = length-take-le n bytes p

      rest : (bytes : List ℕ) (n : ℕ) → n < length bytes → 0 < length (drop n bytes)
      rest bytes n p = omega (arith, length-drop n bytes)

  -- the first file is read
  one_more : (name : List ℕ) (names : List (List ℕ)) (bytes : List ℕ) → contents name ≡ Some bytes → length bytes ≤ longest_file → Reading contents names → Reading contents (name ∷ names)
  one_more name names bytes e l (AllRead have are) = AllRead (bytes ∷ have) (record { whole = ((l, e), are.whole); asked = refl })
  one_more name names bytes e l (Stopped said first free) =
      Stopped said
      (record {
        name = first.name;
        come = record {
          front = name ∷ first.come.front;
          contents = bytes ∷ first.come.contents;
          rest = first.come.rest;
          names_are = ap (λ ns. name ∷ ns) first.come.names_are;
          whole = ((l, e), first.come.whole);
          asked = refl;
        };
        unread = first.unread;
      })
      free

  reading : (names : List (List ℕ)) → Reading contents names
  reading [] = AllRead [] (record { whole = tt; asked = refl })
  reading (name ∷ names) = by (contents name) refl (reading names)
    where
      by : (o : Option (List ℕ)) → contents name ≡ o → Reading contents names → Reading contents (name ∷ names)
      by None e rest = absent name names e
      by (Some bytes) e rest =
          ⊎_elim (λ more. too_long name names bytes e more) (λ few. one_more name names bytes e few rest) (cases_lt longest_file (length bytes))

-- ---- run
module _ (known : AreKnown) (w : RunWords) (texts : InputTexts) (text : List ℕ) (bytes : AllByRecursion (λ byte. byte < 256) texts.image) (stop : (said : Reply) → RunReply w texts text said → IsNoFault said → ⊥) where
  pub no_report : ⊥
  no_report =
      never_then stop (inputs_never_none known texts)
      (λ inputs told none.
      never_then none (entry_never_none inputs.image w.entry)
      (λ entry entered none.
      never_then none (start_never_none known texts inputs told bytes w.entry entry entered text)
      (λ begin begins none.
      never_then none (program_never_none known texts inputs told entry)
      (λ program sound none. none (reply.Ran (report_in inputs (rules_of inputs.facts program) entry begin w.steps)) refl tt))))

-- ---- check
module _ (known : AreKnown) (w : CheckWords) (texts : InputTexts) (certificate : List ℕ) (stop : (said : Reply) → CheckReply w texts certificate said → IsNoFault said → ⊥) where
  pub no_judgement : ⊥
  no_judgement =
      never_then stop (inputs_never_none known texts)
      (λ inputs told none.
      never_then none (certificate_never_none known certificate)
      (λ c read none.
      never_then none (entry_never_none inputs.image w.entry)
      (λ entry entered none.
      never_then none (program_never_none known texts inputs told entry)
      (λ program sound none.
      never_then none (unfolding_never_none known inputs entry program sound)
      (λ u small none. no_verdict known u inputs.machine c none)))))

-- ---- migrate
module _ (known : AreKnown) (w : MigrateWords) (bytes : List ℕ) (short : length bytes ≤ longest_file) (stop : (files : List HeldFile) (said : Reply) → MigrateDoes w (bytes ∷ []) files said → IsNoFault said → ⊥) where
  no_certificate : (c : Certificate) → IsTextOf bytes c → ⊥
  no_certificate c is =
      let has = known.texts c in
      let text = has.0.0 in
      let writable = known.writable c bytes (few short) is in
      stop (file_of w.target text ∷ []) (reply.Migrated (length c.families) has.1.0)
      (migrates c text has.1.0 (record { read = is; written = has.0.1; again = known.tells c text writable has.0.1; counted = has.1.1 }) refl refl) tt
    where
      few : {n : ℕ} → n ≤ longest_file → n < 2 ^ 32
      few h = omega (arith, h)

  pub no_deed : ⊥
  no_deed = (certificate_never_none known bytes).some no_certificate (λ said refusal free. stop [] said (refuses refusal refl) free)

-- ---- all words
module _ (known : AreKnown) (contents : Contents) (words : List (List ℕ)) (small : AreBytes contents) (none : (due : Reply) → IsDue contents words due → ⊥) where
  -- the reply to what the files of a command hold, or to the first of them that is not read
  answered : (form : Form) → IsForm words form → ((have : List (List ℕ)) → AreRead (reads_of contents) (files_of form) have → ((said : Reply) → RepliesOf (Does form) have said → IsNoFault said → ⊥) → ⊥) → ⊥
  answered form is go = by (reading contents (files_of form))
    where
      by : Reading contents (files_of form) → ⊥
      by (AllRead have are) = go have are (λ said says free. none said (record { cause = by_form form is (replied have are says); free = free }))
      by (Stopped said first free) = none said (record { cause = by_form form is (unread first); free = free })

  no_run : (w : RunWords) → IsRun words w → ⊥
  no_run w is = answered (Run w) is by
    where
      by : (have : List (List ℕ)) → AreRead (reads_of contents) (run_files w) have → ((said : Reply) → RepliesOf (OnlyReplies (RunReplies w)) have said → IsNoFault said → ⊥) → ⊥
      by (image ∷ facts ∷ machine ∷ start ∷ []) are stop =
          no_report known w (record { image = image; facts = facts; machine = machine }) start (small w.image image are.whole.0.1)
          (λ said says free. stop said (record { files = []; deed = record { none = refl; says = says } }) free)
      by [] are stop = absurd are.whole
      by (a ∷ []) are stop = absurd are.whole.1
      by (a ∷ b ∷ []) are stop = absurd are.whole.1.1
      by (a ∷ b ∷ c ∷ []) are stop = absurd are.whole.1.1.1
      by (a ∷ b ∷ c ∷ d ∷ e ∷ have) are stop = absurd are.whole.1.1.1.1

  no_migrate : (w : MigrateWords) → IsMigrate words w → ⊥
  no_migrate w is = answered (Migrate w) is by
    where
      by : (have : List (List ℕ)) → AreRead (reads_of contents) (w.source ∷ []) have → ((said : Reply) → RepliesOf (MigrateDoes w) have said → IsNoFault said → ⊥) → ⊥
      by (bytes ∷ []) are stop = no_deed known w bytes are.whole.0.0 (λ files said deed free. stop said (record { files = files; deed = deed }) free)
      by [] are stop = absurd are.whole
      by (a ∷ b ∷ have) are stop = absurd are.whole.1

  no_check : (w : CheckWords) → IsCheck words w → ⊥
  no_check w is = answered (Check w) is by
    where
      by : (have : List (List ℕ)) → AreRead (reads_of contents) (check_files w) have → ((said : Reply) → RepliesOf (OnlyReplies (CheckReplies w)) have said → IsNoFault said → ⊥) → ⊥
      by (image ∷ facts ∷ machine ∷ certificate ∷ []) are stop =
          no_judgement known w (record { image = image; facts = facts; machine = machine }) certificate
          (λ said says free. stop said (record { files = []; deed = record { none = refl; says = says } }) free)
      by [] are stop = absurd are.whole
      by (a ∷ []) are stop = absurd are.whole.1
      by (a ∷ b ∷ []) are stop = absurd are.whole.1.1
      by (a ∷ b ∷ c ∷ []) are stop = absurd are.whole.1.1.1
      by (a ∷ b ∷ c ∷ d ∷ e ∷ have) are stop = absurd are.whole.1.1.1.1

  no_form : FitsForm words → ⊥
  no_form fits = by fits.form fits.is
    where
      by : (form : Form) → IsForm words form → ⊥
      by (Flat name) is = let d = some_flat contents words name is small in none d.0 d.1
      by (Run w) is = no_run w is
      by (Migrate w) is = no_migrate w is
      by (Check w) is = no_check w is

  pub never_none : ⊥
  never_none = none reply.Usage (record { cause = by_none no_form refl; free = tt })
