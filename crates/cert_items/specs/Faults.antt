-- The first line of a certificate's text that is not as it must be. This project's own.
use Rattle.std.specs.Prelude.{◌≡◌, ◌⊎◌, ℕ, ◌+◌, true, false, List, [], ◌∷◌, ◌++◌, length, slice_get, Some, Result, Ok, Err}
use Rattle.cert_lines.specs.Grammar.{Line}
use Rattle.cert_items.specs.declared.item.Item.{Item}
use Rattle.cert_items.specs.declared.items_error.ItemsError.{ItemsError}
use Rattle.cert_items.specs.declared.items_error.ItemsError.TheVariants.{Number, Order, NoMemory}
use Rattle.cert_items.specs.Said.{IsSaid}
use Rattle.cert_items.specs.Order.{is_in_order}

-- what the first lines tell, each as it must be
pub data AreItems (lines : List Line) : List Item → Type 0 where
  none : AreItems lines []
  more : {items : List Item} (line : Line) (x : Item) → AreItems lines items → slice_get lines (length items) ≡ Some line → IsSaid line x → is_in_order lines items x ≡ true → AreItems lines (items ++ x ∷ [])

-- what all lines tell, each as it must be
pub record AreAllItems (lines : List Line) (items : List Item) : Type 0 where
  pub so : AreItems lines items
  pub all : length items ≡ length lines

-- the lines before are as they must be, and a number of this one has a leading zero or is out of its range; lines count from 1
pub record HasNumberFault (lines : List Line) (at : ℕ) : Type 0 where
  pub before : List Item
  pub so : AreItems lines before
  pub counted : at ≡ length before + 1
  pub line : Line
  pub here : slice_get lines (length before) ≡ Some line
  pub fault : (x : Item) → IsSaid line x → ⊥

-- the lines before are as they must be, and this one tells what does not stand in order
pub record HasOrderFault (lines : List Line) (at : ℕ) : Type 0 where
  pub before : List Item
  pub so : AreItems lines before
  pub counted : at ≡ length before + 1
  pub line : Line
  pub here : slice_get lines (length before) ≡ Some line
  pub tells : Item
  pub said : IsSaid line tells
  pub fault : is_in_order lines before tells ≡ false

-- where the lines are refused
abbrev pub IsRefusal : List Line → ItemsError → Type 0
IsRefusal lines (Number at) = HasNumberFault lines at
IsRefusal lines (Order at) = HasOrderFault lines at
IsRefusal lines NoMemory = Unit {0}

-- judging answers with the refusal, unless memory runs out
abbrev pub IsRefusedFor : {A : Type 0} → Result A ItemsError → ItemsError → Type 0
IsRefusedFor (Ok items) e = ⊥
IsRefusedFor (Err r) e = (r ≡ e) ⊎ (r ≡ NoMemory)
