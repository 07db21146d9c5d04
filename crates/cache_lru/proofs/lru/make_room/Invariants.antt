use Rattle.std.proofs.Common.{◌≡◌, ◌≤◌, take, map}
use Rattle.std.specs.List.{All}
use Rattle.std.specs.Vec.{vec_capacity}
use Rattle.cache_lru.proofs.lru.make_room.Given as goal

abbrev pub invariant-loop-list : goal.invariant-loop-list
invariant-loop-list l = record {
  lines : map (λ list. list.items) l.lists ≡ map (λ list. list.items) l.initial.lists;
  room : All (λ list. l.ways ≤ vec_capacity list) (take l.list-index l.lists);
}
