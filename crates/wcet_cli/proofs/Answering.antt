-- From the answer of a command to that of the words that say it.
use Rattle.std.proofs.Common.{◌≡◌, ◌⊎◌, inl, inr, ℕ, ◌≤◌, ◌+◌, List, [], ◌∷◌, length, Option, Some, None, Result, Ok, Err, refl, sym, ap, subst, arith}
use Rattle.std.specs.List.{Contains}
use Rattle.std.proofs.lemmas.List.Elements.{Contains-push}
use Rattle.wx_host.specs.Outside.{Contents, ChangesOnly}
use Rattle.wcet_front.specs.declared.reply.Reply.{Reply}
use Rattle.wcet_front.specs.declared.stop.Stop.{Stop}
use Rattle.wcet_front.specs.declared.stop.Stop.TheVariants as stop
use Rattle.wcet_front.specs.Reply.{IsNoFault}
use Rattle.wcet_front.specs.StoreUse.{StoreUse, IsUntouched}
use Rattle.wcet_front.specs.Files.{reads_in, reads_of, IsCutShort, ReadsAndReplies}
use Rattle.wcet_front.specs.Writing.{Leaves, OnlyReplies, RepliesOf, Works, WorksInPart, in_reading}
use Rattle.wcet_front.specs.WritingLaws.{works_only}
use Rattle.wcet_front.specs.Stages.{Answers, OnStarved}
use Rattle.wcet_cli.specs.Commands.{Form, IsForm, files_of, written_by, Does, AreNamed, AreWrittenBy, WriteNothing}
use Rattle.wcet_cli.specs.Call.{HasCause, OfForm, IsStarved, OfSome, IsDue}
use Rattle.wcet_cli.proofs.OneForm.{called_of, named_by, written_is}

-- what holds of each reply, and what follows from it
pub answers_for : (P Q : Reply → Type 0) (r : Result Reply Stop) → ((said : Reply) → P said → Q said) → Answers P r → Answers Q r
answers_for P Q (Ok said) then h = then said h
answers_for P Q (Err (stop.Replied said)) then h = then said h
answers_for P Q (Err stop.NoMemory) then h = tt

starved_for : (P Q : Type 0) (r : Result Reply Stop) → (P → Q) → OnStarved r P → OnStarved r Q
starved_for P Q (Ok said) then h = tt
starved_for P Q (Err (stop.Replied said)) then h = tt
starved_for P Q (Err stop.NoMemory) then h = then h

-- what holds anyway holds where memory is wanting
pub starves_always : (P : Type 0) (r : Result Reply Stop) → P → OnStarved r P
starves_always P (Ok said) h = tt
starves_always P (Err (stop.Replied said)) h = tt
starves_always P (Err stop.NoMemory) h = h

-- a command that writes nothing
module _ (used : StoreUse) (untouched : IsUntouched used) (names : List (List ℕ)) (replies : List (List ℕ) → Reply → Type 0) (r : Result Reply Stop) where
  pub answers_only : Answers (ReadsAndReplies (reads_in used) names replies) r → Answers (Works used names (OnlyReplies replies)) r
  answers_only h = answers_for _ _ r (λ said cause. works_only used untouched names replies said cause) h

  pub starves_only : OnStarved r (IsCutShort (reads_in used) names) → OnStarved r (WorksInPart used names (OnlyReplies replies))
  starves_only h = starved_for _ _ r (λ cut. in_reading untouched cut) h

module _ (words : List (List ℕ)) (form : Form) (is : IsForm words form) (r : Result Reply Stop) where
  pub answers_form : (used : StoreUse) → Answers (Works used (files_of form) (Does form)) r → Answers (HasCause used words) r
  answers_form used h = answers_for _ _ r (λ said cause. OfForm form is cause) h

  pub starves_form : (used : StoreUse) → OnStarved r (WorksInPart used (files_of form) (Does form)) → OnStarved r (IsStarved used words)
  starves_form used h = starved_for _ _ r (λ cut. OfSome form is cut) h

  pub due_form : (contents : Contents) (due : Reply) → (ReadsAndReplies (reads_of contents) (files_of form) (RepliesOf (Does form)) due → IsNoFault due → Answers (λ said. IsNoFault said → said ≡ due) r)
      → IsDue contents words due → Answers (λ said. IsNoFault said → said ≡ due) r
  due_form contents due then d = then (called_of contents words form due is d.cause) d.free

-- what holds of the reply that a command comes to
pub settled_on : (Q : Reply → Type 0) (reply : Reply) (r : Result Reply Stop) → (r ≡ Ok reply) ⊎ (r ≡ Err (stop.Replied reply)) → Answers Q r → Q reply
settled_on Q reply r (inl e) h = subst (Answers Q) e h
settled_on Q reply r (inr e) h = subst (Answers Q) e h

-- what holds where memory is wanting
pub starves_on : (P : Type 0) (r : Result Reply Stop) → r ≡ Err stop.NoMemory → OnStarved r P → P
starves_on P r e h = subst (λ (x : Result Reply Stop). OnStarved x P) e h

-- a command that asks for as many files as it has asks for as many as the words name
pub asked_form : (words names : List (List ℕ)) (form : Form) (before after : ℕ) → IsForm words form → AreNamed words names → after ≤ before + length (files_of form) → after ≤ before + length names
asked_form words names form before after is named few = let e : length names ≡ length (files_of form) = ap length (named_by words names form is named) in omega arith

-- a store that holds what it held leaves every name
pub leaves_all : (old new : Option Contents) (names : List (List ℕ)) → new ≡ old → Leaves old new names
leaves_all None new names e = subst (λ h. Leaves None h names) (sym e) tt
leaves_all (Some old) new names e = subst (λ h. Leaves (Some old) h names) (sym e) (λ other no. refl)

-- and one that changes one name leaves all others
leaves_others : (old new : Option Contents) (name : List ℕ) → ChangesOnly old new name → Leaves old new (name ∷ [])
leaves_others None None name c = tt
leaves_others None (Some new) name c = absurd c
leaves_others (Some old) None name c = absurd c
leaves_others (Some old) (Some new) name c = λ other no. c other (λ e. no (subst (Contains (name ∷ [])) (sym e) (Contains-push [] name)))

pub leaves_but : (words names : List (List ℕ)) (form : Form) (old new : Option Contents) (name : List ℕ) → IsForm words form → written_by form ≡ name ∷ [] → AreWrittenBy words names → ChangesOnly old new name → Leaves old new names
leaves_but words names form old new name is one named c =
    subst (Leaves old new) (sym (written_is words names form is named)) (subst (Leaves old new) (sym one) (leaves_others old new name c))

-- words of a command that writes some file write something
pub not_nothing : (words : List (List ℕ)) (form : Form) (name : List ℕ) → IsForm words form → written_by form ≡ name ∷ [] → WriteNothing words → ⊥
not_nothing words form name is one nothing = differ (nothing form is)
  where
    differ : written_by form ≡ [] → ⊥
    differ e = cc
