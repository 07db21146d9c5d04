-- Files that a command writes, one after the other, and what it does as a whole. This project's own.
use Rattle.std.specs.Prelude.{◌≡◌, ⊤, ℕ, List, [], ◌∷◌, ◌++◌, map, Option, Some, None, option_map}
use Rattle.std.specs.Option.{option_or}
use Rattle.std.specs.List.{Contains}
use Rattle.wx_host.specs.Outside.{Contents, Rose, ChangesOnly}
use Rattle.wx_host.specs.MemStore.{HeldFile, held}
use Rattle.wcet_front.specs.declared.reply.Reply.{Reply}
use Rattle.wcet_front.specs.declared.reply.Reply.TheVariants as reply
use Rattle.wcet_front.specs.Growth.{Appends}
use Rattle.wcet_front.specs.StoreUse.{StoreUse, IsUntouched}
use Rattle.wcet_front.specs.Files.{reads_in, AreRead, IsCutShort, IsFirstUnread}

-- a file of a name and its content
abbrev pub file_of : List ℕ → List ℕ → HeldFile
file_of name bytes = record { name = name; bytes = bytes }

abbrev pub names_of : List HeldFile → List (List ℕ)
names_of files = map (λ (file : HeldFile). file.name) files

-- contents with some files over them; of two files of one name the later counts
abbrev pub with_files : List HeldFile → Contents → Contents
with_files files contents name = option_or (held files name) (contents name)

-- the same of a store that may tell none
abbrev pub writes_in : List HeldFile → Option Contents → Option Contents
writes_in files holds = option_map (with_files files) holds

-- no name but these has another content than before, and a store that tells its contents goes on telling them
abbrev pub Leaves : Option Contents → Option Contents → List (List ℕ) → Type 0
Leaves None None names = ⊤
Leaves (Some old) (Some new) names = (other : List ℕ) → ¬ Contains names other → new other ≡ old other
Leaves _ _ names = ⊥

-- these files were written in this order, and nothing else was
pub record AreWritten (used : StoreUse) (files : List HeldFile) : Type 0 where
  pub holds : used.after.holds ≡ writes_in files used.before.holds
  pub names : Appends used.before.writes.names used.after.writes.names (names_of files)

-- The store failed to write a file of this name, and those before it were written. The name may then have any content.
pub record IsUnwritten (used : StoreUse) (files : List HeldFile) (name : List ℕ) : Type 0 where
  pub front : List HeldFile
  pub bytes : List ℕ
  pub rest : List HeldFile
  pub files_are : files ≡ front ++ file_of name bytes ∷ rest
  pub rose : Rose used.before.writes.faults used.after.writes.faults
  pub holds : ChangesOnly (writes_in front used.before.holds) used.after.holds name
  pub names : Appends used.before.writes.names used.after.writes.names (names_of front ++ name ∷ [])

-- the reply to the first of some files that is not written
pub record IsFirstUnwritten (used : StoreUse) (files : List HeldFile) (said : Reply) : Type 0 where
  pub name : List ℕ
  pub unwritten : IsUnwritten used files name
  pub is : said ≡ reply.Unwritten name

-- the first few of some files were written, and some first names were asked for
pub record IsFrontWritten (used : StoreUse) (files : List HeldFile) : Type 0 where
  pub front : List HeldFile
  pub rest : List HeldFile
  pub names_asked : List (List ℕ)
  pub names_left : List (List ℕ)
  pub files_are : files ≡ front ++ rest
  pub names_are : names_of files ≡ names_asked ++ names_left
  pub holds : used.after.holds ≡ writes_in front used.before.holds
  pub names : Appends used.before.writes.names used.after.writes.names names_asked

-- what want of memory leaves of some files that are to be written: a front of them, or the store failed to write one
pub data IsCutInWriting (used : StoreUse) (files : List HeldFile) : Type 0 where
  at_front : IsFrontWritten used files → IsCutInWriting used files
  at_fault : (name : List ℕ) → IsUnwritten used files name → IsCutInWriting used files

-- What a command does to the contents of the files that it reads: the files that it writes, and what it replies once they are written.
abbrev pub Deed : Type 1
Deed = List (List ℕ) → List HeldFile → Reply → Type 0

-- it replies, and writes nothing
pub record OnlyReplies (replies : List (List ℕ) → Reply → Type 0) (contents : List (List ℕ)) (files : List HeldFile) (said : Reply) : Type 0 where
  pub none : files ≡ []
  pub says : replies contents said

-- what it replies, whatever it writes
pub record RepliesOf (does : Deed) (contents : List (List ℕ)) (said : Reply) : Type 0 where
  pub files : List HeldFile
  pub deed : does contents files said

-- The cause of each reply of a command that reads files of these names: some file is not read, and nothing is written; or all are, and one
-- of those that it writes to their contents is not written; or all of these are.
pub data Works (used : StoreUse) (names : List (List ℕ)) (does : Deed) (said : Reply) : Type 0 where
  unread : IsUntouched used → IsFirstUnread (reads_in used) names said → Works used names does said
  unwritten : (contents : List (List ℕ)) (files : List HeldFile) (meant : Reply) → AreRead (reads_in used) names contents → does contents files meant
      → IsFirstUnwritten used files said → Works used names does said
  worked : (contents : List (List ℕ)) (files : List HeldFile) → AreRead (reads_in used) names contents → does contents files said → AreWritten used files
      → Works used names does said

-- How far a command came for want of memory: some first files were read, and nothing is written; or all were, and a front of what it writes
-- to their contents is.
pub data WorksInPart (used : StoreUse) (names : List (List ℕ)) (does : Deed) : Type 0 where
  in_reading : IsUntouched used → IsCutShort (reads_in used) names → WorksInPart used names does
  in_writing : (contents : List (List ℕ)) (files : List HeldFile) (meant : Reply) → AreRead (reads_in used) names contents → does contents files meant
      → IsCutInWriting used files → WorksInPart used names does
