-- What is kept of the lines while they are judged one after another.
use Rattle.std.specs.Prelude.{◌≡◌, ℕ, ◌<◌, false, Bool, List, length, count_by, slice_index_or}
use Rattle.cert_lines.specs.Grammar.{Line}
use Rattle.cert_items.specs.declared.item.Item.{Item}
use Rattle.cert_items.specs.declared.counts.Counts.{Counts}
use Rattle.cert_items.specs.Order.{is_node, is_listed, is_multiplier, is_named}

-- the counts are those of the lines so far
pub record AreCounts (counts : Counts) (items : List Item) : Type 0 where
  pub nodes : counts.nodes ≡ count_by is_node items
  pub listed : counts.listed ≡ count_by is_listed items
  pub multipliers : counts.multipliers ≡ count_by is_multiplier items

-- each mark says whether the lines name the place, of which none is above the number of lines
pub record AreMarks (lines : List Line) (marks : List Bool) : Type 0 where
  pub size : length marks ≡ length lines
  pub each : (place : ℕ) → place < length lines → slice_index_or marks place false ≡ is_named lines place
