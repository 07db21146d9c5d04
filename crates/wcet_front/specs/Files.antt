-- Files that a command reads, one after the other, and what stands against one of them. This project's own.
use Rattle.std.specs.Prelude.{◌≡◌, ◌≤◌, ⊤, ℕ, List, [], ◌∷◌, ◌++◌, length, Option, Some, None}
use Rattle.wx_host.specs.Outside.{Contents, Rose, IsWhole, IsCut, IsMissing, longest_file}
use Rattle.wx_host.specs.declared.store.StoreFault.{StoreFault}
use Rattle.wx_host.specs.declared.store.StoreFault.TheVariants as store_fault
use Rattle.wcet_front.specs.declared.reply.Reply.{Reply}
use Rattle.wcet_front.specs.declared.reply.Reply.TheVariants as reply
use Rattle.wcet_front.specs.Growth.{Appends}
use Rattle.wcet_front.specs.StoreUse.{Log, log_of, StoreUse}

-- what a call may know of its store: what it holds, and its reads before and after the call
pub record Reads : Type 0 where
  pub holds : Option Contents
  pub before : Log
  pub after : Log

abbrev pub reads_between : Option Contents → Log → Log → Reads
reads_between holds before after = record { holds = holds; before = before; after = after }

-- the reads of a call
abbrev pub reads_in : StoreUse → Reads
reads_in used = reads_between used.before.holds used.before.reads used.after.reads

-- of a store with these contents that tells no names, and none of whose reads fails
abbrev pub reads_of : Contents → Reads
reads_of contents = reads_between (Some contents) (log_of 0 None) (log_of 0 None)

-- the store failed in a read
abbrev pub ReadsFail : Reads → Type 0
ReadsFail reads = Rose reads.before.faults reads.after.faults

-- exactly these names were asked for, in this order, where the store tells it
abbrev pub AsksFor : Reads → List (List ℕ) → Type 0
AsksFor reads names = Appends reads.before.names reads.after.names names

-- the name has this content, which is not too long; of a store that tells nothing, some such content
abbrev pub IsContent : Option Contents → List ℕ → List ℕ → Type 0
IsContent holds name bytes = (length bytes ≤ longest_file) × IsWhole holds name bytes

-- each name has its content
abbrev pub AreContents : Option Contents → List (List ℕ) → List (List ℕ) → Type 0
AreContents holds [] [] = ⊤
AreContents holds (name ∷ names) (bytes ∷ contents) = IsContent holds name bytes × AreContents holds names contents
AreContents holds [] (bytes ∷ contents) = ⊥
AreContents holds (name ∷ names) [] = ⊥

-- why a file is not read: the store failed, it does not hold the name, or the content is too long
pub data IsUnread (reads : Reads) (name : List ℕ) (said : Reply) : Type 0 where
  failed : ReadsFail reads → said ≡ reply.Unreadable name → IsUnread reads name said
  missing : IsMissing reads.holds name → said ≡ reply.Missing name → IsUnread reads name said
  long : (bytes : List ℕ) → IsCut reads.holds name bytes → said ≡ reply.LongFile name → IsUnread reads name said

-- among the names of files this one is come to: those before it have contents, and it is the last that was asked for
pub record IsComeTo (reads : Reads) (names : List (List ℕ)) (name : List ℕ) : Type 0 where
  pub front : List (List ℕ)
  pub contents : List (List ℕ)
  pub rest : List (List ℕ)
  pub names_are : names ≡ front ++ name ∷ rest
  pub whole : AreContents reads.holds front contents
  pub asked : AsksFor reads (front ++ name ∷ [])

-- the first of some files that is not read
pub record IsFirstUnread (reads : Reads) (names : List (List ℕ)) (said : Reply) : Type 0 where
  pub name : List ℕ
  pub come : IsComeTo reads names name
  pub unread : IsUnread reads name said

-- all of some files are read, each once
pub record AreRead (reads : Reads) (names contents : List (List ℕ)) : Type 0 where
  pub whole : AreContents reads.holds names contents
  pub asked : AsksFor reads names

-- want of memory: some first names were asked for, and no other
pub record IsCutShort (reads : Reads) (names : List (List ℕ)) : Type 0 where
  pub front : List (List ℕ)
  pub rest : List (List ℕ)
  pub names_are : names ≡ front ++ rest
  pub asked : AsksFor reads front

-- The cause of each reply of a command that reads files of these names, from the replies to their contents: some file is not read, or all
-- are and this is the reply to what they hold.
pub data ReadsAndReplies (reads : Reads) (names : List (List ℕ)) (replies : List (List ℕ) → Reply → Type 0) (said : Reply) : Type 0 where
  unread : IsFirstUnread reads names said → ReadsAndReplies reads names replies said
  replied : (contents : List (List ℕ)) → AreRead reads names contents → replies contents said → ReadsAndReplies reads names replies said

-- the reply that a fault of the store calls for
abbrev pub IsFaultReply : List ℕ → StoreFault → Reply → Type 0
IsFaultReply name store_fault.Failed said = said ≡ reply.Unreadable name
IsFaultReply name store_fault.Missing said = said ≡ reply.Missing name
IsFaultReply name store_fault.Long said = said ≡ reply.LongFile name
IsFaultReply name store_fault.NoMemory said = ⊥
