-- What is said of facts files as such. This project's own.
use Rattle.std.specs.Prelude.{◌≡◌, ◌⊎◌, ℕ, List}
use Rattle.wx_base.specs.declared.facts.Facts.{Facts}
use Rattle.wx_base.specs.declared.symbol.Symbol.{Symbol}
use Rattle.ffx_facts.specs.declared.error.FactsError.{FactsError}
use Rattle.ffx_facts.specs.Causes.{AreFactsOf, IsCause}

-- with the symbols of an image, bytes state one set of facts
abbrev pub FactsAreOne : Type 0
FactsAreOne = (bytes : List ℕ) (symbols : List Symbol) (f g : Facts) → AreFactsOf bytes symbols f → AreFactsOf bytes symbols g → f ≡ g

-- whatever the bytes and the symbols, they state facts, or the cause of a refusal stands
abbrev pub StatedOrRefused : Type 0
StatedOrRefused = (bytes : List ℕ) (symbols : List Symbol)
    → ((facts : Facts) × AreFactsOf bytes symbols facts) ⊎ ((cause : FactsError) × IsCause bytes symbols cause)

-- they have at most one cause
abbrev pub OneCause : Type 0
OneCause = (bytes : List ℕ) (symbols : List Symbol) (a b : FactsError) → IsCause bytes symbols a → IsCause bytes symbols b → a ≡ b

-- bytes that state facts have none
abbrev pub NotBoth : Type 0
NotBoth = (bytes : List ℕ) (symbols : List Symbol) (facts : Facts) (cause : FactsError) → AreFactsOf bytes symbols facts → IsCause bytes symbols cause → ⊥
