use Rattle.std.proofs.Common.{◌≡◌, ◌<◌, ℕ, take, get_or, length, []}
use Rattle.std.specs.Option.{unwrap_or}
use Rattle.cache_lru.specs.Lru.{lines_of}
use Rattle.start_file.specs.StartSaid.{said, of_set}
use Rattle.start_file.proofs.start_made.fill_lists.Given as goal

abbrev pub invariant-loop-item : goal.invariant-loop-item
invariant-loop-item l = (s : ℕ) → s < length l.lists → get_or (lines_of l.lists) s [] ≡ unwrap_or (said (of_set s) (take l.item-index l.items)) []
