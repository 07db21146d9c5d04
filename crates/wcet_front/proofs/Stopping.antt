-- Stops that are handed on.
use Rattle.std.proofs.Common.{◌≡◌, Result, Ok, Err, IsErr, IsErrAnd, sym, subst}
use Rattle.wcet_front.specs.declared.reply.Reply.{Reply}
use Rattle.wcet_front.specs.declared.stop.Stop.{Stop}
use Rattle.wcet_front.specs.declared.stop.Stop.TheVariants as stop
use Rattle.wcet_front.specs.Stages.{Gives, StopsWith}

-- what holds of a stop's reply, and what follows from it
pub stops_for : (P Q : Reply → Type 0) (e : Stop) → ((said : Reply) → P said → Q said) → StopsWith P e → StopsWith Q e
stops_for P Q (stop.Replied said) then h = then said h
stops_for P Q stop.NoMemory then h = tt

-- a stop that is handed on
pub handed_on : {A : Type 0} (P : A → Type 0) (P' Q : Reply → Type 0) (r : Result A Stop) (e : Stop)
    → IsErr r × IsErrAnd r (λ x. x ≡ e) → ((said : Reply) → P' said → Q said) → StopsWith P' e → Gives P Q r
handed_on P P' Q (Ok x) e is then h = absurd is.1
handed_on P P' Q (Err x) e is then h = subst (StopsWith Q) (sym is.1) (stops_for P' Q e then h)

-- want of memory that is handed on
pub starved : {A : Type 0} (P : A → Type 0) (Q : Reply → Type 0) (r : Result A Stop) → IsErr r × IsErrAnd r (λ x. x ≡ stop.NoMemory) → Gives P Q r
starved P Q (Ok x) is = absurd is.1
starved P Q (Err x) is = subst (StopsWith Q) (sym is.1) tt
