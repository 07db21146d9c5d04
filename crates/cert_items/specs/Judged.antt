-- Lines that were judged one after another.
use Rattle.std.specs.Prelude.{◌≡◌, ℕ, List, All, slice_get, Some}
use Rattle.cert_lines.specs.Grammar.{Line}
use Rattle.cert_items.specs.declared.item.Item.{Item}
use Rattle.cert_items.specs.Said.{Fits, IsSaid}
use Rattle.cert_items.specs.Faults.{AreItems}

-- the first lines tell these items, each as it must be, and nothing else
pub record IsJudged (lines : List Line) (items : List Item) : Type 0 where
  pub so : AreItems lines items
  pub fits : All Fits items
  pub alone : (k : ℕ) (line : Line) (x y : Item) → slice_get lines k ≡ Some line → slice_get items k ≡ Some x → IsSaid line y → x ≡ y
