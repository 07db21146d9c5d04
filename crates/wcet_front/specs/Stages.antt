-- The stages of a command: each gives something to go on with, or refuses with a reply. This project's own.
use Rattle.std.specs.Prelude.{◌≡◌, ⊤, Result, Ok, Err}
use Rattle.wcet_front.specs.declared.reply.Reply.{Reply}
use Rattle.wcet_front.specs.declared.stop.Stop.{Stop}
use Rattle.wcet_front.specs.declared.stop.Stop.TheVariants as stop
use Rattle.wcet_front.specs.Reply.{IsNoFault}

-- The replies of a stage with what follows it: its own refusals, and the replies that follow something that it gives.
pub data Then {A : Type 0} (gives : A → Type 0) (refuses : Reply → Type 0) (next : A → Reply → Type 0) (said : Reply) : Type 0 where
  refused : refuses said → Then gives refuses next said
  passed : (x : A) → gives x → next x said → Then gives refuses next said

-- a stop is for a reply of which something holds, or for want of memory
abbrev pub StopsWith : (Reply → Type 0) → Stop → Type 0
StopsWith Q (stop.Replied said) = Q said
StopsWith Q stop.NoMemory = ⊤

-- a stage gives something of which one thing holds, or a reply of which another does, or nothing for want of memory
abbrev pub Gives : {A : Type 0} → (A → Type 0) → (Reply → Type 0) → Result A Stop → Type 0
Gives P Q (Ok x) = P x
Gives P Q (Err e) = StopsWith Q e

-- a reply of which something holds is given, or nothing for want of memory
abbrev pub Answers : (Reply → Type 0) → Result Reply Stop → Type 0
Answers Q result = Gives Q Q result

-- what holds where a stop is for want of memory
abbrev pub StarvesWith : Type 0 → Stop → Type 0
StarvesWith P (stop.Replied said) = ⊤
StarvesWith P stop.NoMemory = P

-- what holds where nothing is given for want of memory
abbrev pub OnStarved : {A : Type 0} → Result A Stop → Type 0 → Type 0
OnStarved (Ok x) P = ⊤
OnStarved (Err e) P = StarvesWith P e

-- a stage gives this, or nothing for want of memory
abbrev pub GivesOnly : {A : Type 0} → A → Result A Stop → Type 0
GivesOnly x result = Gives (λ y. y ≡ x) (λ said. ⊥) result

-- a stage refuses with this reply, or gives nothing for want of memory
abbrev pub RefusesWith : {A : Type 0} → Reply → Result A Stop → Type 0
RefusesWith said result = Gives (λ x. ⊥) (λ r. r ≡ said) result

-- a stage refuses nothing
abbrev pub RefusesNothing : {A : Type 0} → Result A Stop → Type 0
RefusesNothing result = Gives (λ x. ⊤) (λ said. ⊥) result

-- no reply says that the store failed
abbrev pub StopsWithoutFault : {A : Type 0} → Result A Stop → Type 0
StopsWithoutFault result = Gives (λ x. ⊤) IsNoFault result
