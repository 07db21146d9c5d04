-- Words are those of a command in one way.
use Rattle.std.proofs.Common.{◌≡◌, ℕ, ◌≤◌, List, [], ◌∷◌, Option, Some, None, refl, sym, ap, ◌∙◌, subst, arith}
use Rattle.std.specs.Prelude.{codes}
use Rattle.std.specs.Str.Parse.{digits_value}
use Rattle.std.specs.Fmt.{decimal}
use Rattle.std.proofs.lemmas.Fmt.{decimal_is_IsNumeral}
use Rattle.wcet_front.specs.declared.reply.Reply.{Reply}
use Rattle.wcet_front.specs.declared.reply.Reply.TheVariants as reply
use Rattle.wx_host.specs.Outside.{Contents}
use Rattle.wcet_front.specs.Files.{reads_of, ReadsAndReplies}
use Rattle.wcet_front.specs.Writing.{RepliesOf}
use Rattle.wcet_cli.specs.Words.{RunWords, IsRun, entry_words, most_steps, MigrateWords, IsMigrate, CheckWords, IsCheck}
use Rattle.wcet_cli.specs.Commands.{Form, Flat, Run, Migrate, Check, IsForm, FitsForm, files_of, written_by, Does, AreNamed, by_form, by_none, AreWrittenBy, to_form, to_none}
use Rattle.wcet_cli.specs.Call as call
use Rattle.wcet_cli.specs.Call.{IsCalledFor}

one_number : (m n : ℕ) → m ≤ most_steps → n ≤ most_steps → decimal m ≡ decimal n → m ≡ n
one_number m n p q e =
    let a = decimal_is_IsNumeral m (omega arith) in
    let b = decimal_is_IsNumeral n (omega arith) in
    sym a.1 ∙ ap (digits_value 10) e ∙ b.1

one_entry : (a b : Option (List ℕ)) → entry_words a ≡ entry_words b → a ≡ b
one_entry None None e = refl
one_entry None (Some y) e = cc
one_entry (Some x) None e = cc
one_entry (Some x) (Some y) e = cc

record SameWords (v w : RunWords) : Type 0 where
  image : v.image ≡ w.image
  facts : v.facts ≡ w.facts
  machine : v.machine ≡ w.machine
  start : v.start ≡ w.start
  number : decimal v.steps ≡ decimal w.steps
  entry : entry_words v.entry ≡ entry_words w.entry

first : {x y : List ℕ} {xs ys : List (List ℕ)} → x ∷ xs ≡ y ∷ ys → x ≡ y
first e = cc

later : {x y : List ℕ} {xs ys : List (List ℕ)} → x ∷ xs ≡ y ∷ ys → xs ≡ ys
later e = cc

same_words : (words : List (List ℕ)) (v w : RunWords) → IsRun words v → IsRun words w → SameWords v w
same_words words v w p q =
    let e0 = later (sym p.are ∙ q.are) in
    let e1 = later e0 in
    let e2 = later e1 in
    let e3 = later e2 in
    let e4 = later e3 in
    record { image = first e0; facts = first e1; machine = first e2; start = first e3; number = first e4; entry = later e4 }

one_run : (words : List (List ℕ)) (v w : RunWords) → IsRun words v → IsRun words w → v ≡ w
one_run words v w p q =
    let s = same_words words v w p q in
    let steps = one_number v.steps w.steps p.few q.few s.number in
    let entry = one_entry v.entry w.entry s.entry in
    λ i. record { image = s.image i; facts = s.facts i; machine = s.machine i; start = s.start i; steps = steps i; entry = entry i }

one_migrate : (words : List (List ℕ)) (v w : MigrateWords) → IsMigrate words v → IsMigrate words w → v ≡ w
one_migrate words v w p q =
    let e = later (sym p ∙ q) in
    let source = first e in
    let target = first (later e) in
    λ i. record { source = source i; target = target i }

pub one_check : (words : List (List ℕ)) (v w : CheckWords) → IsCheck words v → IsCheck words w → v ≡ w
one_check words v w p q =
    let e0 = later (sym p ∙ q) in
    let e1 = later e0 in
    let e2 = later e1 in
    let e3 = later e2 in
    let image = first e0 in
    let facts = first e1 in
    let machine = first e2 in
    let certificate = first e3 in
    let entry = one_entry v.entry w.entry (later e3) in
    λ i. record { image = image i; facts = facts i; machine = machine i; certificate = certificate i; entry = entry i }

-- the first word of a command
abbrev verb_of : Form → List ℕ
verb_of (Flat code) = codes "flat"
verb_of (Run w) = codes "run"
verb_of (Migrate w) = codes "migrate"
verb_of (Check w) = codes "check"

abbrev first_word : List (List ℕ) → List ℕ
first_word [] = []
first_word (word ∷ words) = word

says_verb : (words : List (List ℕ)) (form : Form) → IsForm words form → first_word words ≡ verb_of form
says_verb words (Flat code) is = ap first_word is
says_verb words (Run w) is = ap first_word is.are
says_verb words (Migrate w) is = ap first_word is
says_verb words (Check w) is = ap first_word is

same_verb : (words : List (List ℕ)) (f g : Form) → IsForm words f → IsForm words g → verb_of f ≡ verb_of g
same_verb words f g p q = sym (says_verb words f p) ∙ says_verb words g q

flat_run : codes "flat" ≡ codes "run" → ⊥
flat_run e = cc

flat_migrate : codes "flat" ≡ codes "migrate" → ⊥
flat_migrate e = cc

run_migrate : codes "run" ≡ codes "migrate" → ⊥
run_migrate e = cc

flat_check : codes "flat" ≡ codes "check" → ⊥
flat_check e = cc

run_check : codes "run" ≡ codes "check" → ⊥
run_check e = cc

migrate_check : codes "migrate" ≡ codes "check" → ⊥
migrate_check e = cc

pub one_form : (words : List (List ℕ)) (f g : Form) → IsForm words f → IsForm words g → f ≡ g
one_form words (Flat a) (Flat b) p q = ap Flat (first (later (sym p ∙ q)))
one_form words (Flat a) (Run w) p q = absurd (flat_run (same_verb words (Flat a) (Run w) p q))
one_form words (Flat a) (Migrate w) p q = absurd (flat_migrate (same_verb words (Flat a) (Migrate w) p q))
one_form words (Run v) (Flat b) p q = absurd (flat_run (same_verb words (Flat b) (Run v) q p))
one_form words (Run v) (Run w) p q = ap Run (one_run words v w p q)
one_form words (Run v) (Migrate w) p q = absurd (run_migrate (same_verb words (Run v) (Migrate w) p q))
one_form words (Migrate v) (Flat b) p q = absurd (flat_migrate (same_verb words (Flat b) (Migrate v) q p))
one_form words (Migrate v) (Run w) p q = absurd (run_migrate (same_verb words (Run w) (Migrate v) q p))
one_form words (Migrate v) (Migrate w) p q = ap Migrate (one_migrate words v w p q)
one_form words (Flat a) (Check w) p q = absurd (flat_check (same_verb words (Flat a) (Check w) p q))
one_form words (Run v) (Check w) p q = absurd (run_check (same_verb words (Run v) (Check w) p q))
one_form words (Migrate v) (Check w) p q = absurd (migrate_check (same_verb words (Migrate v) (Check w) p q))
one_form words (Check v) (Flat b) p q = absurd (flat_check (same_verb words (Flat b) (Check v) q p))
one_form words (Check v) (Run w) p q = absurd (run_check (same_verb words (Run w) (Check v) q p))
one_form words (Check v) (Migrate w) p q = absurd (migrate_check (same_verb words (Migrate w) (Check v) q p))
one_form words (Check v) (Check w) p q = ap Check (one_check words v w p q)

-- the files that words name are those of their command
pub named_by : (words names : List (List ℕ)) (form : Form) → IsForm words form → AreNamed words names → names ≡ files_of form
named_by words names form is (by_form other is_other e) = e ∙ ap files_of (one_form words other form is_other is)
named_by words names form is (by_none unfit e) = absurd (unfit (record { form = form; is = is }))

-- the files that words write are those that their command writes
pub written_is : (words names : List (List ℕ)) (form : Form) → IsForm words form → AreWrittenBy words names → names ≡ written_by form
written_is words names form is (to_form other is_other e) = e ∙ ap written_by (one_form words other form is_other is)
written_is words names form is (to_none unfit e) = absurd (unfit (record { form = form; is = is }))

-- words of no form name none
pub none_named : (words names : List (List ℕ)) → ¬ FitsForm words → AreNamed words names → names ≡ []
none_named words names unfit (by_form form is e) = absurd (unfit (record { form = form; is = is }))
none_named words names unfit (by_none other e) = e

-- the reply that the words of a command call for is one of that command
pub called_of : (contents : Contents) (words : List (List ℕ)) (form : Form) (said : Reply) → IsForm words form → IsCalledFor contents words said
    → ReadsAndReplies (reads_of contents) (files_of form) (RepliesOf (Does form)) said
called_of contents words form said is (call.by_none unfit e) = absurd (unfit (record { form = form; is = is }))
called_of contents words form said is (call.by_form other is_other cause) =
    subst (λ f. ReadsAndReplies (reads_of contents) (files_of f) (RepliesOf (Does f)) said) (one_form words other form is_other is) cause

-- words of no form call for one reply
pub none_called : (contents : Contents) (words : List (List ℕ)) (said : Reply) → ¬ FitsForm words → IsCalledFor contents words said → said ≡ reply.Usage
none_called contents words said unfit (call.by_none other e) = e
none_called contents words said unfit (call.by_form form is cause) = absurd (unfit (record { form = form; is = is }))
