use Rattle.std.proofs.Common.{◌≡◌, ℕ, ◌<◌, ◌/◌, ◌||◌, false, length, map, take}
use Rattle.std.specs.Prelude.{slice_index_or}
use Rattle.std.specs.List.{list_any}
use Rattle.cert_items.specs.Order.{seconds, writes}
use Rattle.cert_items.proofs.named.mark_pairs.Given as goal

abbrev pub invariant-loop-at : goal.invariant-loop-at
invariant-loop-at l = record {
  end : l.at-end ≡ length l.words / 2;
  size : length l.marks ≡ length l.initial.marks;
  marks : (j : ℕ) → j < length l.initial.marks → slice_index_or l.marks j false ≡ (slice_index_or l.initial.marks j false || list_any (writes j) (take l.at (seconds (map (λ w. w.now) l.words))));
}
