-- What a facts file says, and why bytes are none. This project's reading of FFX.
use Rattle.std.specs.Prelude.{ℕ, List}
use Rattle.wx_base.specs.declared.facts.Facts.{Facts}
use Rattle.wx_base.specs.declared.symbol.Symbol.{Symbol}
use Rattle.ffx_facts.specs.declared.error.FactsError.{FactsError}
use Rattle.ffx_facts.specs.declared.error.FactsError.TheVariants.{NoMemory, Syntax, Number, NoAddress, NoSymbol, Twice}
use Rattle.ffx_facts.specs.declared.says.Says.{Says}
use Rattle.ffx_facts.specs.Machine.{Element}
use Rattle.ffx_facts.specs.File.{IsFile, IsNoFile}
use Rattle.ffx_facts.specs.Faults.{AreFine, IsFirstFault}
use Rattle.ffx_facts.specs.Order.{AreFacts}

-- the bytes are a facts file, and nothing is wrong with what its elements say
pub record IsFine (bytes : List ℕ) (symbols : List Symbol) (all : List Says) : Type 0 where
  pub elements : List Element
  pub file : IsFile bytes elements
  pub fine : AreFine symbols elements all

-- the facts are those that the file states
pub record AreFactsOf (bytes : List ℕ) (symbols : List Symbol) (facts : Facts) : Type 0 where
  pub all : List Says
  pub fine : IsFine bytes symbols all
  pub stated : AreFacts all facts

-- the bytes are a facts file, and this is what is wrong with the first element that has a fault
pub record HasFault (bytes : List ℕ) (symbols : List Symbol) (fault : FactsError) : Type 0 where
  pub elements : List Element
  pub file : IsFile bytes elements
  pub first : IsFirstFault symbols elements fault

-- this is why the bytes are no facts
abbrev pub IsCause : List ℕ → List Symbol → FactsError → Type 0
IsCause bytes symbols NoMemory = ⊥
IsCause bytes symbols (Syntax at) = IsNoFile bytes at
IsCause bytes symbols (Number at) = HasFault bytes symbols (Number at)
IsCause bytes symbols (NoAddress at) = HasFault bytes symbols (NoAddress at)
IsCause bytes symbols (NoSymbol at) = HasFault bytes symbols (NoSymbol at)
IsCause bytes symbols (Twice address) = HasFault bytes symbols (Twice address)
