-- Replies that do not say that the store failed.
use Rattle.std.proofs.Common.{◌≡◌, ◌⊎◌, ℕ, inl, inr, List, [], ◌∷◌, ◌++◌, sym, ◌∙◌, subst}
use Rattle.wcet_front.specs.declared.inputs.InputTexts.{InputTexts}
use Rattle.wcet_front.specs.declared.reply.Reply.{Reply}
use Rattle.wcet_front.specs.Reply.{IsNoFault}
use Rattle.wcet_front.specs.Inputs.{IsInputsRefusal}
use Rattle.wcet_front.specs.Stages.{refused, passed}
use Rattle.wx_host.specs.Outside.{Rose}
use Rattle.wx_host.specs.MemStore.{HeldFile}
use Rattle.wcet_front.specs.StoreUse.{StoreUse}
use Rattle.wcet_front.specs.Files.{Reads, reads_in, ReadsFail, IsUnread, failed, missing, long}
use Rattle.wcet_front.specs.Writing.{file_of, IsUnwritten, unread, unwritten, worked}
use Rattle.wcet_cli.specs.Words.{RunWords, CheckWords}
use Rattle.wcet_cli.specs.FlatCommand.{FlatReply, bound, leaves_code, unsupported}
use Rattle.wcet_cli.specs.RunCommand.{RunReply}
use Rattle.wcet_cli.specs.MigrateCommand.{MigrateDeed, migrates, refuses}
use Rattle.wcet_cli.specs.CheckCommand.{CheckReply, accepts, rejects}
use Rattle.wcet_cli.specs.Commands.{Form, Flat, Run, Migrate, Check, IsForm, written_by, Does, WriteNothing}
use Rattle.wcet_cli.specs.Call.{HasCause, NoForm, OfForm}

-- a reply that is none of a fault is none
free : (said is : Reply) → said ≡ is → IsNoFault is → IsNoFault said
free said is e f = subst IsNoFault (sym e) f

pub flat_free : (bytes : List ℕ) (said : Reply) → FlatReply bytes said → IsNoFault said
flat_free bytes said (bound program p e) = free said _ e tt
flat_free bytes said (leaves_code address c e) = free said _ e tt
flat_free bytes said (unsupported address word f e) = free said _ e tt

inputs_free : (texts : InputTexts) (said : Reply) → IsInputsRefusal texts said → IsNoFault said
inputs_free texts said (refused h) = free said _ h.2 tt
inputs_free texts said (passed image is (refused h)) = free said _ h.2 tt
inputs_free texts said (passed image is (passed facts are h)) = free said _ h.2 tt

pub run_free : (w : RunWords) (texts : InputTexts) (start : List ℕ) (said : Reply) → RunReply w texts start said → IsNoFault said
run_free w texts start said (refused h) = inputs_free texts said h
run_free w texts start said (passed inputs told (refused h)) = free said _ h.3 tt
run_free w texts start said (passed inputs told (passed entry is (refused h))) = free said _ h.3 tt
run_free w texts start said (passed inputs told (passed entry is (passed begin begins (refused h)))) = free said _ h.2 tt
run_free w texts start said (passed inputs told (passed entry is (passed begin begins (passed program sound e)))) = free said _ e tt

migrate_free : (target bytes : List ℕ) (files : List HeldFile) (said : Reply) → MigrateDeed target bytes files said → IsNoFault said
migrate_free target bytes files said (migrates c text vectors is f e) = free said _ e tt
migrate_free target bytes files said (refuses r f) = free said _ r.3 tt

pub check_free : (w : CheckWords) (texts : InputTexts) (certificate : List ℕ) (said : Reply) → CheckReply w texts certificate said → IsNoFault said
check_free w texts certificate said (refused h) = inputs_free texts said h
check_free w texts certificate said (passed inputs told (refused h)) = free said _ h.3 tt
check_free w texts certificate said (passed inputs told (passed c read (refused h))) = free said _ h.3 tt
check_free w texts certificate said (passed inputs told (passed c read (passed entry is (refused h)))) = free said _ h.2 tt
check_free w texts certificate said (passed inputs told (passed c read (passed entry is (passed program sound (refused h))))) = free said _ h.1 tt
check_free w texts certificate said (passed inputs told (passed c read (passed entry is (passed program sound (passed u small (accepts ok e)))))) = free said _ e tt
check_free w texts certificate said (passed inputs told (passed c read (passed entry is (passed program sound (passed u small (rejects rule node vector broken e)))))) =
    free said _ e tt

does_free : (form : Form) (contents : List (List ℕ)) (files : List HeldFile) (said : Reply) → Does form contents files said → IsNoFault said
does_free (Flat code) [] files said h = absurd h.says
does_free (Flat code) (bytes ∷ []) files said h = flat_free bytes said h.says
does_free (Flat code) (bytes ∷ other ∷ contents) files said h = absurd h.says
does_free (Run w) [] files said h = absurd h.says
does_free (Run w) (image ∷ []) files said h = absurd h.says
does_free (Run w) (image ∷ facts ∷ []) files said h = absurd h.says
does_free (Run w) (image ∷ facts ∷ machine ∷ []) files said h = absurd h.says
does_free (Run w) (image ∷ facts ∷ machine ∷ start ∷ []) files said h = run_free w (record { image = image; facts = facts; machine = machine }) start said h.says
does_free (Run w) (image ∷ facts ∷ machine ∷ start ∷ other ∷ contents) files said h = absurd h.says
does_free (Check w) [] files said h = absurd h.says
does_free (Check w) (image ∷ []) files said h = absurd h.says
does_free (Check w) (image ∷ facts ∷ []) files said h = absurd h.says
does_free (Check w) (image ∷ facts ∷ machine ∷ []) files said h = absurd h.says
does_free (Check w) (image ∷ facts ∷ machine ∷ certificate ∷ []) files said h =
    check_free w (record { image = image; facts = facts; machine = machine }) certificate said h.says
does_free (Check w) (image ∷ facts ∷ machine ∷ certificate ∷ other ∷ contents) files said h = absurd h.says
does_free (Migrate w) [] files said h = absurd h
does_free (Migrate w) (bytes ∷ []) files said h = migrate_free w.target bytes files said h
does_free (Migrate w) (bytes ∷ other ∷ contents) files said h = absurd h

-- a command that writes nothing has no files to write
none_to_write : (form : Form) (contents : List (List ℕ)) (files : List HeldFile) (said : Reply) → Does form contents files said → written_by form ≡ [] → files ≡ []
none_to_write (Flat code) contents files said h none = h.none
none_to_write (Run w) contents files said h none = h.none
none_to_write (Check w) contents files said h none = h.none
none_to_write (Migrate w) contents files said h none = absurd (some none)
  where
    some : {x : List ℕ} {xs : List (List ℕ)} → x ∷ xs ≡ [] → ⊥
    some e = cc

no_file : (front rest : List HeldFile) (file : HeldFile) → [] ≡ front ++ file ∷ rest → ⊥
no_file [] rest file e = cc
no_file (x ∷ front) rest file e = cc

unread_free : (reads : Reads) (name : List ℕ) (said : Reply) → IsUnread reads name said → (ReadsFail reads → ⊥) → IsNoFault said
unread_free reads name said (failed rose e) none = absurd (none rose)
unread_free reads name said (missing gone e) none = free said _ e tt
unread_free reads name said (long bytes cut e) none = free said _ e tt

-- the store failed in no write, or there is none
abbrev pub NoWriteFails : StoreUse → List (List ℕ) → Type 0
NoWriteFails used words = WriteNothing words ⊎ (Rose used.before.writes.faults used.after.writes.faults → ⊥)

unwritten_free : (used : StoreUse) (words : List (List ℕ)) (form : Form) (contents : List (List ℕ)) (files : List HeldFile) (meant : Reply) (name : List ℕ) → IsForm words form → Does form contents files meant → IsUnwritten used files name → NoWriteFails used words → ⊥
unwritten_free used words form contents files meant name is h stop (inl nothing) =
    no_file stop.front stop.rest (file_of name stop.bytes) (sym (none_to_write form contents files meant h (nothing form is)) ∙ stop.files_are)
unwritten_free used words form contents files meant name is h stop (inr none) = none stop.rose

fault_free : (used : StoreUse) (words : List (List ℕ)) (said : Reply) → HasCause used words said → (ReadsFail (reads_in used) → ⊥) → NoWriteFails used words → IsNoFault said
fault_free used words said (NoForm unfit asked untouched e) none fine = free said _ e tt
fault_free used words said (OfForm form is (unread untouched f)) none fine = unread_free (reads_in used) f.name said f.unread none
fault_free used words said (OfForm form is (unwritten contents files meant are h f)) none fine = absurd (unwritten_free used words form contents files meant f.name is h f.unwritten fine)
fault_free used words said (OfForm form is (worked contents files are h wrote)) none fine = does_free form contents files said h

-- no fault of the store rose, or none can
pub no_fault : (used : StoreUse) (words : List (List ℕ)) (said : Reply) (reliable : Type 0) → HasCause used words said → (reliable → IsNoFault said) → reliable ⊎ (ReadsFail (reads_in used) → ⊥) → reliable ⊎ NoWriteFails used words → IsNoFault said
no_fault used words said reliable cause sound (inl r) fine = sound r
no_fault used words said reliable cause sound (inr none) (inl r) = sound r
no_fault used words said reliable cause sound (inr none) (inr fine) = fault_free used words said cause none fine
