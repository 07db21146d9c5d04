-- Why bytes are no facts.
use Rattle.std.specs.Prelude.{ℕ, List}
use Rattle.ffx_facts.specs.declared.error.FactsError.{FactsError}
use Rattle.ffx_facts.specs.declared.error.FactsError.TheVariants.{NoMemory, Syntax, Number, NoAddress, NoSymbol, Twice}
use Rattle.wx_base.specs.declared.symbol.Symbol.{Symbol}
use Rattle.ffx_facts.specs.Machine.{Element}
use Rattle.ffx_facts.specs.Faults.{IsFirstFault}
use Rattle.ffx_facts.specs.File.{IsNoFile}

-- the refusal is want of memory, or that the bytes are no file
abbrev pub IsSyntax : List ℕ → FactsError → Type 0
IsSyntax bytes NoMemory = Unit {0}
IsSyntax bytes (Syntax at) = IsNoFile bytes at
IsSyntax bytes (Number at) = ⊥
IsSyntax bytes (NoAddress at) = ⊥
IsSyntax bytes (NoSymbol at) = ⊥
IsSyntax bytes (Twice address) = ⊥

-- the refusal is want of memory, or what is wrong with the first element that has a fault
abbrev pub IsValueRefusal : List Symbol → List Element → FactsError → Type 0
IsValueRefusal symbols elements NoMemory = Unit {0}
IsValueRefusal symbols elements (Syntax at) = ⊥
IsValueRefusal symbols elements (Number at) = IsFirstFault symbols elements (Number at)
IsValueRefusal symbols elements (NoAddress at) = IsFirstFault symbols elements (NoAddress at)
IsValueRefusal symbols elements (NoSymbol at) = IsFirstFault symbols elements (NoSymbol at)
IsValueRefusal symbols elements (Twice address) = IsFirstFault symbols elements (Twice address)
