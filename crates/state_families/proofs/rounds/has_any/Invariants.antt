use Rattle.std.proofs.Common.{◌≡◌, ℕ, ◌<◌, List, [], slice_get, Some}
use Rattle.state_families.proofs.rounds.has_any.Given as goal

abbrev pub invariant-loop-list : goal.invariant-loop-list
invariant-loop-list l = (place : ℕ) (list : List (List ℕ)) → place < l.list-index → slice_get l.lists place ≡ Some list → list ≡ []
