-- The numbers of a facts file, and what its elements say. This project's reading of FFX.
use Rattle.std.specs.Prelude.{ℕ, ◌+◌, ◌^◌, Bool, ◌&&◌, List, drop, length, Option, Some, None, unwrap_or, Result, Ok, Err, if◌then◌else◌, nat_eq, nat_lt, codes}
use Rattle.std.specs.List.{list_all, starts_with}
use Rattle.std.specs.Char.{is_digit}
use Rattle.std.specs.Str.{bytes_eq}
use Rattle.std.specs.Str.Parse.{digits_value}
use Rattle.wx_base.specs.declared.symbol.Symbol.{Symbol}
use Rattle.wx_base.specs.Symbols.{symbol_value}
use Rattle.ffx_facts.specs.declared.kind.Kind.{Kind}
use Rattle.ffx_facts.specs.declared.kind.Kind.TheVariants.{FlowFacts, Function, Loop, MultiBranch, MultiCall, Target}
use Rattle.ffx_facts.specs.declared.error.FactsError.{FactsError}
use Rattle.ffx_facts.specs.declared.error.FactsError.TheVariants.{NoMemory, Syntax, Number, NoAddress, NoSymbol, Twice}
use Rattle.ffx_facts.specs.declared.says.Bounds.{Bounds}
use Rattle.ffx_facts.specs.declared.says.Says.{Says}
use Rattle.ffx_facts.specs.Machine.{Element}

-- the number that digits write in a radix, where there is a digit, no other byte, and the number fits 32 bits
abbrev pub numeral : ℕ → List ℕ → Option ℕ
numeral radix digits =
    if nat_lt 0 (length digits) && list_all (λ c. is_digit c radix) digits && nat_lt (digits_value radix digits) (2 ^ 32)
    then Some (digits_value radix digits) else None

-- the number that a text is: hexadecimal behind `0x`, with digits of either case, else decimal
abbrev pub number : List ℕ → Option ℕ
number text = if starts_with nat_eq text (codes "0x") then numeral 16 (drop 2 text) else numeral 10 text

-- what can be wrong with an element alone
abbrev pub IsElementFault : FactsError → Type 0
IsElementFault NoMemory = ⊥
IsElementFault (Syntax at) = ⊥
IsElementFault (Number at) = Unit {0}
IsElementFault (NoAddress at) = Unit {0}
IsElementFault (NoSymbol at) = Unit {0}
IsElementFault (Twice address) = ⊥

-- an answer, and what is done with it where nothing is wrong
infixl 10 ◌>>=◌
abbrev pub ◌>>=◌ : {A B : Type 0} → Result A FactsError → (A → Result B FactsError) → Result B FactsError
(Ok x) >>= f = f x
(Err fault) >>= f = Err fault

-- a number that should be there
abbrev pub wanted : Element → Option ℕ → Result (Option ℕ) FactsError
wanted e None = Err (Number e.at)
wanted e (Some n) = Ok (Some n)

-- the number of an attribute, where there is one
abbrev pub number_in : Element → Option (List ℕ) → Result (Option ℕ) FactsError
number_in e None = Ok None
number_in e (Some text) = wanted e (number text)

-- the text of a count that was not computed
abbrev pub is_not_computed : List ℕ → Bool
is_not_computed text = bytes_eq text (codes "NOCOMP")

-- a count of a loop: none where there is none, or where it was not computed
abbrev pub count_in : Element → Option (List ℕ) → Result (Option ℕ) FactsError
count_in e None = Ok None
count_in e (Some text) = if is_not_computed text then Ok None else wanted e (number text)

-- the address that a label stands for, moved by an offset
abbrev pub moved_by : Element → ℕ → Option ℕ → Result ℕ FactsError
moved_by e offset None = Err (NoSymbol e.at)
moved_by e offset (Some value) = if nat_lt (value + offset) (2 ^ 32) then Ok (value + offset) else Err (Number e.at)

-- the address of an element without `address`
abbrev pub address_of_label : List Symbol → Element → ℕ → Option (List ℕ) → Result ℕ FactsError
address_of_label symbols e offset None = Err (NoAddress e.at)
address_of_label symbols e offset (Some name) = moved_by e offset (symbol_value symbols name)

-- the address of an element: the number of `address`, else what its label stands for
abbrev pub address_by : List Symbol → Element → Option ℕ → Option ℕ → Result ℕ FactsError
address_by symbols e (Some address) offset = Ok address
address_by symbols e None offset = address_of_label symbols e (unwrap_or offset 0) e.label

-- the address that an element speaks of, or what is wrong; a wrong number comes first
unfoldable pub address : List Symbol → Element → Result ℕ FactsError
address symbols e = do
  address ← number_in e e.address
  offset ← number_in e e.offset
  address_by symbols e address offset

-- The bounds of a loop by its two counts: a total alone bounds each stay too, and without a count there are no bounds.
abbrev pub bounds_of : Option ℕ → Option ℕ → Option Bounds
bounds_of (Some maxcount) totalcount = Some (record { maxcount = maxcount; totalcount = totalcount })
bounds_of None (Some total) = Some (record { maxcount = total; totalcount = Some total })
bounds_of None None = None

-- what a loop says
abbrev pub loop_says : List Symbol → Element → Result Says FactsError
loop_says symbols e = do
  maxcount ← count_in e e.maxcount
  totalcount ← count_in e e.totalcount
  address ← address symbols e
  Ok (record { kind = Loop; address = address; bounds = bounds_of maxcount totalcount })

-- what another element with an address says
abbrev pub place_says : Kind → List Symbol → Element → Result Says FactsError
place_says kind symbols e = do
  address ← address symbols e
  Ok (record { kind = kind; address = address; bounds = None })

-- what an element says, or what is wrong with it alone: a file or a function says nothing
abbrev pub says_as : Kind → List Symbol → Element → Result Says FactsError
says_as FlowFacts symbols e = Ok (record { kind = FlowFacts; address = 0; bounds = None })
says_as Function symbols e = Ok (record { kind = Function; address = 0; bounds = None })
says_as Loop symbols e = loop_says symbols e
says_as MultiBranch symbols e = place_says MultiBranch symbols e
says_as MultiCall symbols e = place_says MultiCall symbols e
says_as Target symbols e = place_says Target symbols e

unfoldable pub says : List Symbol → Element → Result Says FactsError
says symbols e = says_as e.kind symbols e
