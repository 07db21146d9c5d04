-- What a certificate is written as, and the reply to it that is due.
use Rattle.std.proofs.Common.{◌≡◌, ℕ, List, [], ◌++◌, length, Option, Some, None, refl, sym, ap, ◌∙◌, subst}
use Rattle.wx_host.specs.Outside.{Contents, ChangesOnly}
use Rattle.wx_host.specs.MemStore.{HeldFile}
use Rattle.cert_text.specs.declared.certificate.Certificate.{Certificate}
use Rattle.cert_text.specs.Laws.{CountIsOne, WrittenTells}
use Rattle.cert_text.specs.Pool.{HasVectors}
use Rattle.cert_text.specs.Text.{IsTextOf}
use Rattle.cert_text.specs.Writable.{IsWritable}
use Rattle.cert_text.specs.Written.{IsWritten, IsWith}
use Rattle.wcet_front.specs.declared.reply.Reply.{Reply}
use Rattle.wcet_front.specs.declared.reply.Reply.TheVariants as reply
use Rattle.wcet_front.specs.declared.stop.Stop.{Stop}
use Rattle.wcet_front.specs.Inputs.{IsCertRefusal}
use Rattle.wcet_front.specs.Stages.{StopsWith}
use Rattle.wcet_front.specs.StageLaws.{stops_for}
use Rattle.wcet_cli.specs.MigrateCommand.{IsMigration, MigrateDeed, migrates, refuses}

-- what is held as it was differs under no name
pub same_but : (old new : Option Contents) (name : List ℕ) → new ≡ old → ChangesOnly old new name
same_but None new name e = subst (λ h. ChangesOnly None h name) (sym e) tt
same_but (Some old) new name e = subst (λ h. ChangesOnly (Some old) h name) (sym e) (λ other no. refl)

-- nor does it before a name changes
pub but_then : (old mid new : Option Contents) (name : List ℕ) → mid ≡ old → ChangesOnly mid new name → ChangesOnly old new name
but_then old mid new name e c = subst (λ h. ChangesOnly h new name) e c

-- the text that is written of a certificate that was read
pub migration_is : (bytes old new : List ℕ) (c : Certificate) (vectors : ℕ) → WrittenTells → old ≡ [] → IsTextOf bytes c → IsWritable c → IsWith new old c → HasVectors c.families vectors → IsMigration bytes c new vectors
migration_is bytes old new c vectors tells empty read writable text counted = record {
  read = read;
  written = written;
  again = tells c new writable written;
  counted = counted;
}
  where
    new_is : new ≡ text.more
    new_is = text.behind ∙ ap (λ (x : List ℕ). x ++ text.more) empty

    written : IsWritten new c
    written = subst (λ b. IsWritten b c) (sym new_is) text.written

module _ (target bytes : List ℕ) (files : List HeldFile) (said : Reply) where
  -- where the bytes are refused, that is the reply that is due
  pub refusal_is_due : (e : Stop) → ((c : Certificate) → IsTextOf bytes c → StopsWith (λ r. ⊥) e) → ((s : Reply) → IsCertRefusal bytes s → StopsWith (λ r. r ≡ s) e)
      → MigrateDeed target bytes files said → StopsWith (λ r. r ≡ said) e
  refusal_is_due e none due (migrates c text vectors is f g) = stops_for (λ r. ⊥) (λ r. r ≡ said) e (λ r no. absurd no) (none c is.read)
  refusal_is_due e none due (refuses h f) = due said h

  -- where they are not, it tells the numbers of nodes and of vectors
  pub numbers_are_due : (c : Certificate) (nodes vectors : ℕ) → CountIsOne → nodes ≡ length c.families → HasVectors c.families vectors → ((x : Certificate) → IsTextOf bytes x → c ≡ x)
      → ((s : Reply) → IsCertRefusal bytes s → ⊥) → MigrateDeed target bytes files said → reply.Migrated nodes vectors ≡ said
  numbers_are_due c nodes vectors one count counted due none (migrates x text many is f g) =
      let same : c ≡ x = due x is.read in
      let e1 : nodes ≡ length x.families = count ∙ ap (λ (k : Certificate). length k.families) same in
      let e2 : vectors ≡ many = one x vectors many (subst (λ (k : Certificate). HasVectors k.families vectors) same counted) is.counted in
      ap (λ k. reply.Migrated k vectors) e1 ∙ ap (λ k. reply.Migrated (length x.families) k) e2 ∙ sym g
  numbers_are_due c nodes vectors one count counted due none (refuses h f) = absurd (none said h)
