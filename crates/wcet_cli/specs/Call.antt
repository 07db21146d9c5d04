-- What a call of the program means: which reply has its cause, and what each status says. This project's own.
use Rattle.std.specs.Prelude.{◌≡◌, ◌⊎◌, ◌<◌, ℕ, List, [], ◌++◌, Option, Some}
use Rattle.std.specs.List.{AllByRecursion}
use Rattle.wx_host.specs.Outside.{Contents, IsCut, IsMissing}
use Rattle.wx_host.specs.MemStore.{HeldFile}
use Rattle.wcet_front.specs.declared.reply.Reply.{Reply}
use Rattle.wcet_front.specs.declared.reply.Reply.TheVariants as reply
use Rattle.wcet_front.specs.Reply.{IsNoFault, status_of, text_of, memory_line, starved}
use Rattle.wcet_front.specs.StoreUse.{StoreUse, IsUntouched}
use Rattle.wcet_front.specs.Files.{Reads, reads_in, reads_of, ReadsFail, AsksFor, AreContents, AreRead, IsComeTo, ReadsAndReplies}
use Rattle.wcet_front.specs.Writing.{RepliesOf, writes_in, IsUnwritten, Works, WorksInPart}
use Rattle.wcet_front.specs.Handing.{Took}
use Rattle.wcet_cli.specs.Commands.{Form, IsForm, FitsForm, files_of, Does, AreNamed}
use Rattle.wcet_cli.specs.Words.{RunWords, IsRun, MigrateWords, IsMigrate, CheckWords, IsCheck}

-- The cause of each reply to some words. Words that fit no form read and write nothing.
pub data HasCause (used : StoreUse) (words : List (List ℕ)) (said : Reply) : Type 0 where
  NoForm : ¬ FitsForm words → AsksFor (reads_in used) [] → IsUntouched used → said ≡ reply.Usage → HasCause used words said
  OfForm : (form : Form) → IsForm words form → Works used (files_of form) (Does form) said → HasCause used words said

-- memory was wanting, after a part of what the words say was done
pub data IsStarved (used : StoreUse) (words : List (List ℕ)) : Type 0 where
  OfNone : ¬ FitsForm words → AsksFor (reads_in used) [] → IsUntouched used → IsStarved used words
  OfSome : (form : Form) → IsForm words form → WorksInPart used (files_of form) (Does form) → IsStarved used words

-- the status and the text with which a call is to end: those of a reply that has its cause, or want of memory
pub data IsAnswer (used : StoreUse) (words : List (List ℕ)) (status : ℕ) (text : List ℕ) : Type 0 where
  Says : (said : Reply) → HasCause used words said → status ≡ status_of said → text ≡ text_of said → IsAnswer used words status text
  Starves : IsStarved used words → status ≡ starved → text ≡ memory_line → IsAnswer used words status text

-- what a status of refusal says: the words are those of a command, its files were read, and to their contents a reply of that status
-- has its cause
pub record Refuses (holds : Option Contents) (words : List (List ℕ)) (status : ℕ) : Type 0 where
  pub form : Form
  pub contents : List (List ℕ)
  pub said : Reply
  pub is : IsForm words form
  pub are : AreContents holds (files_of form) contents
  pub cause : RepliesOf (Does form) contents said
  pub ends : status ≡ status_of said

-- what the status of an unread file says: among the files of the words it is come to, and the store failed or does not hold it
pub record ReadsNothing (reads : Reads) (words : List (List ℕ)) : Type 0 where
  pub names : List (List ℕ)
  pub name : List ℕ
  pub named : AreNamed words names
  pub come : IsComeTo reads names name
  pub fault : ReadsFail reads ⊎ IsMissing reads.holds name

-- what the status of something too large says: the file that is come to is too long
pub record IsTooLarge (reads : Reads) (words : List (List ℕ)) : Type 0 where
  pub names : List (List ℕ)
  pub name : List ℕ
  pub bytes : List ℕ
  pub named : AreNamed words names
  pub come : IsComeTo reads names name
  pub cut : IsCut reads.holds name bytes

-- what the words write: their files were read, and these are the files that are to be written to their contents
pub record AreToWrite (used : StoreUse) (words : List (List ℕ)) (files : List HeldFile) : Type 0 where
  pub form : Form
  pub contents : List (List ℕ)
  pub said : Reply
  pub is : IsForm words form
  pub are : AreRead (reads_in used) (files_of form) contents
  pub does : Does form contents files said

-- what the status of an unwritten file says, unless the output failed: the store failed to write one of the words' files, those before
-- it are written and those behind it are as they were, and the sink took its name
pub record WritesNot (used : StoreUse) (words : List (List ℕ)) (taken taken' : Option (List ℕ)) : Type 0 where
  pub files : List HeldFile
  pub name : List ℕ
  pub meant : AreToWrite used words files
  pub unwritten : IsUnwritten used files name
  pub took : Took taken taken' (text_of (reply.Unwritten name))

-- what is held in the end: what was held, with the first few of the files over it that the words write
pub record HoldsInPart (used : StoreUse) (words : List (List ℕ)) : Type 0 where
  pub files : List HeldFile
  pub front : List HeldFile
  pub rest : List HeldFile
  pub meant : AreToWrite used words files
  pub files_are : files ≡ front ++ rest
  pub holds : used.after.holds ≡ writes_in front used.before.holds

-- the reply that the contents of a store call for, where nothing fails
pub data IsCalledFor (contents : Contents) (words : List (List ℕ)) (said : Reply) : Type 0 where
  by_none : ¬ FitsForm words → said ≡ reply.Usage → IsCalledFor contents words said
  by_form : (form : Form) → IsForm words form → ReadsAndReplies (reads_of contents) (files_of form) (RepliesOf (Does form)) said
      → IsCalledFor contents words said

-- the reply that is due to some words, of a store with these contents that does not fail
pub record IsDue (contents : Contents) (words : List (List ℕ)) (said : Reply) : Type 0 where
  pub cause : IsCalledFor contents words said
  pub free : IsNoFault said

-- the call ends with this reply, or for want of memory
abbrev pub EndsWith : Option (List ℕ) → Option (List ℕ) → Reply → ℕ → Type 0
EndsWith taken taken' said ends = (ends ≡ starved) ⊎ ((ends ≡ status_of said) × Took taken taken' (text_of said))

-- the contents are bytes
abbrev pub AreBytes : Contents → Type 0
AreBytes contents = (name bytes : List ℕ) → contents name ≡ Some bytes → AllByRecursion (λ byte. byte < 256) bytes

-- the words are not of the form of `run`, nor of that of `migrate`, nor of that of `check`
pub record IsOther (words : List (List ℕ)) : Type 0 where
  pub no_run : (w : RunWords) → IsRun words w → ⊥
  pub no_migrate : (w : MigrateWords) → IsMigrate words w → ⊥
  pub no_check : (w : CheckWords) → IsCheck words w → ⊥

-- Whatever the words, and whatever a store holds, some reply is due: it cannot be that none is.
abbrev pub NeverNone : Type 0
NeverNone = (contents : Contents) (words : List (List ℕ)) → AreBytes contents → ((due : Reply) → IsDue contents words due → ⊥) → ⊥

-- Whatever the words, unless they are of the form of `run`, `migrate` or `check`, and whatever a store holds, some reply is due.
abbrev pub SomeReplyIsDue : Type 0
SomeReplyIsDue =
    (contents : Contents) (words : List (List ℕ)) → IsOther words → AreBytes contents → (due : Reply) × IsDue contents words due

-- Whatever the words, and whatever a store holds, no other than one that is due is.
abbrev pub NoOtherIsDue : Type 0
NoOtherIsDue =
    (contents : Contents) (words : List (List ℕ)) (due other : Reply) → IsDue contents words due → IsDue contents words other → due ≡ other
