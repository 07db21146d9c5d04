-- No other reply than one that is due is due.
use Rattle.std.proofs.Common.{◌≡◌, ℕ, List, [], ◌∷◌, refl, sym, ◌∙◌}
use Rattle.wx_host.specs.Outside.{Contents}
use Rattle.wcet_front.specs.declared.reply.Reply.{Reply}
use Rattle.wcet_front.specs.Reply.{IsNoFault}
use Rattle.wcet_front.specs.Files.{reads_of, ReadsAndReplies, unread, replied}
use Rattle.wcet_front.specs.FileLaws.{unread_is_due, reply_is_due}
use Rattle.wcet_front.specs.Writing.{RepliesOf}
use Rattle.wcet_cli.specs.Words.{CheckWords, RunWords}
use Rattle.wcet_cli.specs.CheckCommand.{CheckReplies}
use Rattle.wcet_cli.specs.FlatCommand.{FlatReplies}
use Rattle.wcet_cli.specs.RunCommand.{RunReplies}
use Rattle.wcet_cli.specs.Commands.{Form, Flat, Run, Migrate, Check, IsForm, files_of, Does}
use Rattle.wcet_cli.specs.Call.{IsCalledFor, by_none, by_form, IsDue}
use Rattle.wcet_cli.proofs.OneForm.{called_of}
use Rattle.wcet_cli.proofs.OneReply.{AreAlone, one_check_reply, one_migrate_reply, one_run_reply}
use Rattle.wcet_cli.proofs.Reading.{one_flat_reply}

-- files call for one reply, if their contents do
one_of_files : (contents : Contents) (names : List (List ℕ)) (replies : List (List ℕ) → Reply → Type 0) (r s : Reply) → ((have : List (List ℕ)) → replies have r → replies have s → r ≡ s)
    → IsNoFault r → IsNoFault s → ReadsAndReplies (reads_of contents) names replies r → ReadsAndReplies (reads_of contents) names replies s → r ≡ s
one_of_files contents names replies r s one p q (unread f) other = unread_is_due contents _ _ _ names replies r s refl f other p q
one_of_files contents names replies r s one p q (replied have are cause) other =
    one have cause (reply_is_due contents _ _ _ names have replies s refl are other q)

module _ (known : AreAlone) where
  -- contents call for one reply of a command
  flat_one : (r s : Reply) (have : List (List ℕ)) → FlatReplies have r → FlatReplies have s → r ≡ s
  flat_one r s [] p q = absurd p
  flat_one r s (bytes ∷ []) p q = one_flat_reply bytes r s p q
  flat_one r s (bytes ∷ more ∷ have) p q = absurd p

  run_one : (w : RunWords) (r s : Reply) (have : List (List ℕ)) → RunReplies w have r → RunReplies w have s → r ≡ s
  run_one w r s (image ∷ facts ∷ machine ∷ start ∷ []) p q =
      one_run_reply known w (record { image = image; facts = facts; machine = machine }) start r s p q
  run_one w r s [] p q = absurd p
  run_one w r s (a ∷ []) p q = absurd p
  run_one w r s (a ∷ b ∷ []) p q = absurd p
  run_one w r s (a ∷ b ∷ c ∷ []) p q = absurd p
  run_one w r s (a ∷ b ∷ c ∷ d ∷ e ∷ have) p q = absurd p

  check_one : (w : CheckWords) (r s : Reply) (have : List (List ℕ)) → CheckReplies w have r → CheckReplies w have s → r ≡ s
  check_one w r s (image ∷ facts ∷ machine ∷ certificate ∷ []) p q =
      one_check_reply known w (record { image = image; facts = facts; machine = machine }) certificate r s p q
  check_one w r s [] p q = absurd p
  check_one w r s (a ∷ []) p q = absurd p
  check_one w r s (a ∷ b ∷ []) p q = absurd p
  check_one w r s (a ∷ b ∷ c ∷ []) p q = absurd p
  check_one w r s (a ∷ b ∷ c ∷ d ∷ e ∷ have) p q = absurd p

  of_command : (words : List (List ℕ)) → (form : Form) → IsForm words form → (r s : Reply) (have : List (List ℕ)) → RepliesOf (Does form) have r → RepliesOf (Does form) have s → r ≡ s
  of_command words (Flat name) is r s have p q = flat_one r s have p.deed.says q.deed.says
  of_command words (Run w) is r s have p q = run_one w r s have p.deed.says q.deed.says
  of_command words (Migrate w) is r s [] p q = absurd p.deed
  of_command words (Migrate w) is r s (bytes ∷ []) p q = one_migrate_reply known w.target bytes p.files q.files r s p.deed q.deed
  of_command words (Migrate w) is r s (bytes ∷ more ∷ have) p q = absurd p.deed
  of_command words (Check w) is r s have p q = check_one w r s have p.deed.says q.deed.says

  -- no other is due
  pub one_is_due : (contents : Contents) (words : List (List ℕ)) (r s : Reply) → IsDue contents words r → IsDue contents words s → r ≡ s
  one_is_due contents words r s p q = by_cause p.cause q.cause
    where
      by_cause : IsCalledFor contents words r → IsCalledFor contents words s → r ≡ s
      by_cause (by_none unfit e) (by_none unfit' f) = e ∙ sym f
      by_cause (by_none unfit e) (by_form form is cause) = absurd (unfit (record { form = form; is = is }))
      by_cause (by_form form is cause) also =
          one_of_files contents (files_of form) (RepliesOf (Does form)) r s (of_command words form is r s) p.free q.free cause (called_of contents words form s is also)
