-- What `flat` replies, and what its answer promises. This project's own.
use Rattle.std.specs.Prelude.{◌≡◌, ℕ, List, [], ◌∷◌, Option}
use Rattle.wx_base.specs.Machine.{m1}
use Rattle.wx_host.specs.Outside.{Contents}
use Rattle.wcet_front.specs.declared.reply.Reply.{Reply}
use Rattle.wcet_front.specs.declared.reply.Reply.TheVariants as reply
use Rattle.wcet_front.specs.Reply.{text_of}
use Rattle.wcet_front.specs.Files.{IsContent}
use Rattle.wcet_front.specs.Handing.{Took}
use Rattle.wcet_cli.specs.Words.{IsFlat}
use Rattle.wcet_cli.specs.Straight.{IsProgram, IsCutOff, IsForeign, EachRunTakesAtMost, image_of, origin, bound_of}

-- the reply that the bytes of a file call for
pub data FlatReply (bytes : List ℕ) (said : Reply) : Type 0 where
  bound : (program : List ℕ) → IsProgram bytes program → said ≡ reply.Bound (bound_of m1 program) → FlatReply bytes said
  leaves_code : (address : ℕ) → IsCutOff bytes address → said ≡ reply.LeavesCode address → FlatReply bytes said
  unsupported : (address word : ℕ) → IsForeign bytes address word → said ≡ reply.Unsupported address word → FlatReply bytes said

-- the same of the contents of the command's files, of which there is one
abbrev pub FlatReplies : List (List ℕ) → Reply → Type 0
FlatReplies (bytes ∷ []) said = FlatReply bytes said
FlatReplies [] said = ⊥
FlatReplies (bytes ∷ other ∷ contents) said = ⊥

-- What status 0 says of `flat`: the words are `flat` and a name; the name's content begins with a straight program; every run of
-- the program's image on the machine takes at most the program's bound; and the sink took the line with that bound.
pub record AnswersBound (holds : Option Contents) (words : List (List ℕ)) (taken taken' : Option (List ℕ)) : Type 0 where
  pub name : List ℕ
  pub bytes : List ℕ
  pub program : List ℕ
  pub form : IsFlat words name
  pub content : IsContent holds name bytes
  pub program_is : IsProgram bytes program
  pub safe : EachRunTakesAtMost m1 (image_of program) origin (bound_of m1 program)
  pub took : Took taken taken' (text_of (reply.Bound (bound_of m1 program)))
