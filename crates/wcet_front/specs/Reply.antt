-- What the program answers: a status, and a text of one line. This project's own.
use Rattle.std.specs.Prelude.{◌≡◌, ⊤, ℕ, List, [], ◌∷◌, ◌++◌, codes}
use Rattle.wx_text.specs.Decimal.{decimal}
use Rattle.wx_text.specs.Hexadecimal.{hex_word}
use Rattle.run_machine.specs.declared.report.End.{End}
use Rattle.run_machine.specs.declared.report.End.TheVariants as end
use Rattle.wcet_front.specs.declared.reply.Reply.{Reply}
use Rattle.wcet_front.specs.declared.reply.Reply.TheVariants as reply
use Rattle.wcet_front.specs.RefusalText.{further, image_refusal, facts_refusal, machine_refusal, start_refusal, flow_refusal, certificate_refusal}
use Rattle.wcet_front.specs.ReportText.{report_text}

-- the statuses: the defined answer; words that fit no form; a file that cannot be read; a file that cannot be written, or a text that
-- cannot be handed over; a refused image, facts, description of a machine, certificate; a certificate that is not valid; want of memory;
-- something too large; a run that breaks a fact; a refused start
abbrev pub answered : ℕ
answered = 0

abbrev pub misused : ℕ
misused = 1

abbrev pub unread : ℕ
unread = 2

abbrev pub unwritten : ℕ
unwritten = 3

abbrev pub refused_image : ℕ
refused_image = 4

abbrev pub refused_facts : ℕ
refused_facts = 5

abbrev pub refused_machine : ℕ
refused_machine = 6

abbrev pub refused_certificate : ℕ
refused_certificate = 7

abbrev pub rejected : ℕ
rejected = 8

abbrev pub starved : ℕ
starved = 9

abbrev pub too_large : ℕ
too_large = 10

abbrev pub breaks_fact : ℕ
breaks_fact = 11

abbrev pub refused_start : ℕ
refused_start = 12

-- a run that breaks a fact has a status of its own
abbrev pub run_status : End → ℕ
run_status end.Ended = answered
run_status end.Limit = answered
run_status (end.Stopped why address) = answered
run_status (end.Breaks fact address) = breaks_fact

abbrev pub status_of : Reply → ℕ
status_of (reply.Bound cycles) = answered
status_of reply.Usage = misused
status_of (reply.Unreadable name) = unread
status_of (reply.Missing name) = unread
status_of (reply.LeavesCode addr) = refused_image
status_of (reply.Unsupported addr word) = refused_image
status_of (reply.LongFile name) = too_large
status_of (reply.BadImage refusal) = refused_image
status_of (reply.BadFacts refusal) = refused_facts
status_of (reply.BadMachine refusal) = refused_machine
status_of (reply.NoEntry name) = refused_image
status_of (reply.BadStart refusal) = refused_start
status_of (reply.BadFlow refusal) = refused_image
status_of (reply.Ran report) = run_status report.end
status_of (reply.BadCertificate refusal) = refused_certificate
status_of (reply.Migrated nodes vectors) = answered
status_of (reply.Unwritten name) = unwritten
status_of reply.ManyNodes = too_large
status_of (reply.Rejected rule node vector) = rejected

-- a line ends with LF
abbrev pub line : List ℕ → List ℕ
line text = text ++ 10 ∷ []

-- the line of each reply
abbrev pub text_of : Reply → List ℕ
text_of (reply.Bound cycles) = line (codes "bound " ++ decimal cycles)
text_of reply.Usage = line (codes "usage")
text_of (reply.Unreadable name) = line (codes "read " ++ name)
text_of (reply.Missing name) = line (codes "missing " ++ name)
text_of (reply.LeavesCode addr) = line (codes "image LeavesCode " ++ hex_word addr)
text_of (reply.Unsupported addr word) = line (codes "image Unsupported " ++ hex_word addr ++ 32 ∷ hex_word word)
text_of (reply.LongFile name) = line (codes "large file " ++ name)
text_of (reply.BadImage refusal) = line (codes "image " ++ image_refusal refusal)
text_of (reply.BadFacts refusal) = line (codes "facts " ++ facts_refusal refusal)
text_of (reply.BadMachine refusal) = line (codes "machine " ++ machine_refusal refusal)
text_of (reply.NoEntry name) = line (codes "image NoEntry " ++ name)
text_of (reply.BadStart refusal) = line (codes "start " ++ start_refusal refusal)
text_of (reply.BadFlow refusal) = line (codes "image " ++ flow_refusal refusal)
text_of (reply.Ran report) = line (report_text report)
text_of (reply.BadCertificate refusal) = line (codes "certificate " ++ certificate_refusal refusal)
text_of (reply.Migrated nodes vectors) = line (codes "migrated" ++ further (decimal nodes) ++ further (decimal vectors))
text_of (reply.Unwritten name) = line (codes "write " ++ name)
text_of reply.ManyNodes = line (codes "large nodes")
text_of (reply.Rejected rule node vector) =
    line (codes "rejected" ++ further (decimal rule) ++ further (decimal node) ++ further (decimal vector))

-- what is said where memory is wanting
abbrev pub memory_line : List ℕ
memory_line = line (codes "memory")

-- the status and the text of a reply, or of want of memory
pub data IsSaid (said : Reply) (status : ℕ) (text : List ℕ) : Type 0 where
  InFull : status ≡ status_of said → text ≡ text_of said → IsSaid said status text
  Wanting : status ≡ starved → text ≡ memory_line → IsSaid said status text

-- the reply does not say that the store failed
abbrev pub IsNoFault : Reply → Type 0
IsNoFault (reply.Unreadable name) = ⊥
IsNoFault (reply.Unwritten name) = ⊥
IsNoFault _ = ⊤
