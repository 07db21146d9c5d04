-- Laws of stages, for the commands that are made of them.
use Rattle.std.specs.Prelude.{◌≡◌, Result, Ok, Err, IsErr, IsErrAnd}
use Rattle.std.proofs.Common.{sym, subst}
use Rattle.wcet_front.specs.declared.reply.Reply.{Reply}
use Rattle.wcet_front.specs.declared.stop.Stop.{Stop}
use Rattle.wcet_front.specs.declared.stop.Stop.TheVariants as stop
use Rattle.wcet_front.specs.Stages.{Then, refused, passed, StopsWith, StarvesWith, Gives, OnStarved}

-- a stop with a reply of which something holds is one with a reply of which what follows holds
pub stops_for : (P Q : Reply → Type 0) (e : Stop) → ((said : Reply) → P said → Q said) → StopsWith P e → StopsWith Q e
stops_for P Q (stop.Replied said) then h = then said h
stops_for P Q stop.NoMemory then h = tt

-- so is one that is handed on
pub handed_on : {A : Type 0} (P : A → Type 0) (P' Q : Reply → Type 0) (r : Result A Stop) (e : Stop)
    → IsErr r × IsErrAnd r (λ x. x ≡ e) → ((said : Reply) → P' said → Q said) → StopsWith P' e → Gives P Q r
handed_on P P' Q (Ok x) e is then h = absurd is.1
handed_on P P' Q (Err x) e is then h = subst (StopsWith Q) (sym is.1) (stops_for P' Q e then h)

-- want of memory that is handed on
pub starved : {A : Type 0} (P : A → Type 0) (Q : Reply → Type 0) (r : Result A Stop)
    → IsErr r × IsErrAnd r (λ x. x ≡ stop.NoMemory) → Gives P Q r
starved P Q (Ok x) is = absurd is.1
starved P Q (Err x) is = subst (StopsWith Q) (sym is.1) tt

starves_for : (P Q : Type 0) (e : Stop) → (P → Q) → StarvesWith P e → StarvesWith Q e
starves_for P Q (stop.Replied said) then h = tt
starves_for P Q stop.NoMemory then h = then h

-- and what holds with it
pub starved_on : {A : Type 0} (P Q : Type 0) (r : Result A Stop) (e : Stop)
    → IsErr r × IsErrAnd r (λ x. x ≡ e) → (P → Q) → StarvesWith P e → OnStarved r Q
starved_on P Q (Ok x) e is then h = tt
starved_on P Q (Err x) e is then h = subst (StarvesWith Q) (sym is.1) (starves_for P Q e then h)

-- what holds anyway holds where memory is wanting
pub starves_anyway : (P : Type 0) (e : Stop) → P → StarvesWith P e
starves_anyway P (stop.Replied said) p = tt
starves_anyway P stop.NoMemory p = p

-- and so where that is handed on
pub starved_then : {A : Type 0} (P : Type 0) (r : Result A Stop) → IsErr r × IsErrAnd r (λ x. x ≡ stop.NoMemory) → P → OnStarved r P
starved_then P (Ok x) is p = tt
starved_then P (Err x) is p = subst (StarvesWith P) (sym is.1) p

-- where a stage stops, that is the reply that is due
pub stop_is_due : {A : Type 0} {gives : A → Type 0} {refuses : Reply → Type 0} {next : A → Reply → Type 0} {said : Reply} (e : Stop)
    → ((x : A) → gives x → StopsWith (λ r. ⊥) e) → ((s : Reply) → refuses s → StopsWith (λ r. r ≡ s) e)
    → Then gives refuses next said → StopsWith (λ r. r ≡ said) e
stop_is_due {said = said} e none due (refused h) = due said h
stop_is_due {said = said} e none due (passed x is after) = stops_for (λ r. ⊥) (λ r. r ≡ said) e (λ r no. absurd no) (none x is)

-- where it gives something, the reply that is due is one that follows
pub after_stage : {A : Type 0} {gives : A → Type 0} {refuses : Reply → Type 0} {next : A → Reply → Type 0} {said : Reply} (P : Type 0)
    → ((x : A) → gives x → next x said → P) → ((s : Reply) → refuses s → ⊥) → Then gives refuses next said → P
after_stage {said = said} P goes none (refused h) = absurd (none said h)
after_stage {said = said} P goes none (passed x is after) = goes x is after
