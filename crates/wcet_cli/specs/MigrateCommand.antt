-- What `migrate` does: the certificate of a file, of either version, is written as a text of version 2. This project's own.
use Rattle.std.specs.Prelude.{◌≡◌, ℕ, List, [], ◌∷◌, length, Option}
use Rattle.wx_host.specs.Outside.{Contents}
use Rattle.wx_host.specs.MemStore.{HeldFile}
use Rattle.cert_text.specs.declared.certificate.Certificate.{Certificate}
use Rattle.cert_text.specs.Pool.{HasVectors}
use Rattle.cert_text.specs.Text.{IsTextOf}
use Rattle.cert_text.specs.Written.{IsWritten}
use Rattle.wcet_front.specs.declared.reply.Reply.{Reply}
use Rattle.wcet_front.specs.declared.reply.Reply.TheVariants as reply
use Rattle.wcet_front.specs.Reply.{text_of}
use Rattle.wcet_front.specs.Files.{IsContent}
use Rattle.wcet_front.specs.Inputs.{IsCertRefusal}
use Rattle.wcet_front.specs.Writing.{Deed, file_of, writes_in}
use Rattle.wcet_front.specs.Handing.{Took}
use Rattle.wcet_cli.specs.Words.{MigrateWords, IsMigrate}

-- the bytes are the text of a certificate, and this is the text of version 2 that is written of it; it has so many different vectors
pub record IsMigration (bytes : List ℕ) (c : Certificate) (text : List ℕ) (vectors : ℕ) : Type 0 where
  pub read : IsTextOf bytes c
  pub written : IsWritten text c
  pub again : IsTextOf text c
  pub counted : HasVectors c.families vectors

-- What `migrate` does to the bytes of a file: the text of version 2 is written under the name, and the reply tells the numbers of nodes
-- and of different vectors; bytes that are no certificate are refused, and nothing is written.
pub data MigrateDeed (target bytes : List ℕ) (files : List HeldFile) (said : Reply) : Type 0 where
  migrates : (c : Certificate) (text : List ℕ) (vectors : ℕ) → IsMigration bytes c text vectors → files ≡ file_of target text ∷ []
      → said ≡ reply.Migrated (length c.families) vectors → MigrateDeed target bytes files said
  refuses : IsCertRefusal bytes said → files ≡ [] → MigrateDeed target bytes files said

-- the same of the contents of the command's files, of which there is one
abbrev pub MigrateDoes : MigrateWords → Deed
MigrateDoes w (bytes ∷ []) files said = MigrateDeed w.target bytes files said
MigrateDoes w [] files said = ⊥
MigrateDoes w (bytes ∷ other ∷ contents) files said = ⊥

-- What status 0 says of `migrate`: the words are `migrate` and two names; the content of the first is the text of a certificate; the
-- store then holds what it held, with the text of version 2 of that certificate under the second name, which reads as the same
-- certificate; and the sink took the line with the numbers of its nodes and of its different vectors.
pub record Migrates (holds holds' : Option Contents) (words : List (List ℕ)) (taken taken' : Option (List ℕ)) : Type 0 where
  pub w : MigrateWords
  pub bytes : List ℕ
  pub c : Certificate
  pub text : List ℕ
  pub vectors : ℕ
  pub form : IsMigrate words w
  pub content : IsContent holds w.source bytes
  pub is : IsMigration bytes c text vectors
  pub held : holds' ≡ writes_in (file_of w.target text ∷ []) holds
  pub took : Took taken taken' (text_of (reply.Migrated (length c.families) vectors))
