-- What is wrong with the elements of a facts file. This project's reading of FFX.
use Rattle.std.specs.Prelude.{◌≡◌, ℕ, Bool, true, false, ◌&&◌, ◌==◌, is_some, List, map, take, slice_get, Option, Some, None, Result, Ok, Err, if◌then◌else◌}
use Rattle.std.specs.List.{list_any, IsDistinct}
use Rattle.wx_base.specs.declared.symbol.Symbol.{Symbol}
use Rattle.ffx_facts.specs.declared.kind.Kind.{Kind}
use Rattle.ffx_facts.specs.declared.kind.Kind.TheVariants.{Loop, MultiBranch, MultiCall}
use Rattle.ffx_facts.specs.declared.error.FactsError.{FactsError}
use Rattle.ffx_facts.specs.declared.error.FactsError.TheVariants.{Twice}
use Rattle.ffx_facts.specs.declared.says.Bounds.{Bounds}
use Rattle.ffx_facts.specs.declared.says.Says.{Says}
use Rattle.ffx_facts.specs.Machine.{Element}
use Rattle.ffx_facts.specs.Pieces.{is_same_kind}
use Rattle.ffx_facts.specs.Values.{says}

-- whether an element of a kind states a fact; a loop does where it has bounds
abbrev pub states : Kind → Option Bounds → Bool
states Loop bounds = is_some bounds
states MultiBranch bounds = true
states MultiCall bounds = true
states _ bounds = false

-- whether this is a fact of a kind at an address
abbrev pub is_fact_at : Kind → ℕ → Says → Bool
is_fact_at kind address s = states s.kind s.bounds && is_same_kind s.kind kind && (s.address == address)

-- whether two are facts of one kind at one address
abbrev pub is_same_fact : Says → Says → Bool
is_same_fact s t = states s.kind s.bounds && is_fact_at s.kind s.address t

-- what is wrong with an element behind others that said this: what is wrong with it alone, else that it repeats a fact
abbrev pub fault_behind : List Says → Result Says FactsError → Option FactsError
fault_behind before (Err fault) = Some fault
fault_behind before (Ok s) = if list_any (is_same_fact s) before then Some (Twice s.address) else None

-- nothing is wrong with the elements, which say this
pub record AreFine (symbols : List Symbol) (elements : List Element) (all : List Says) : Type 0 where
  pub say : map (says symbols) elements ≡ map (λ s. Ok s) all
  pub once : IsDistinct is_same_fact all

-- this is wrong with an element, and nothing with those before it
pub record IsFirstFault (symbols : List Symbol) (elements : List Element) (fault : FactsError) : Type 0 where
  pub at : ℕ
  pub before : List Says
  pub fine : AreFine symbols (take at elements) before
  pub element : Element
  pub is : slice_get elements at ≡ Some element
  pub wrong : fault_behind before (says symbols element) ≡ Some fault
