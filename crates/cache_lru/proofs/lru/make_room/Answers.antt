use Rattle.std.proofs.Common.{ℕ, ◌+◌, ◌<◌, ◌≤◌, List, length, take, set, ap, ◌∙◌, arith}
use Rattle.std.proofs.Math.Seq.{map-set_same}
use Rattle.std.proofs.lemmas.List.{take_all, take_more_set}
use Rattle.std.proofs.lemmas.List.Elements.{All-push}
use Rattle.std.specs.List.{All}
use Rattle.std.specs.Vec.{vec_len, vec_capacity}
use Rattle.cache_lru.proofs.lru.make_room.Goals as goal

-- one more element has room
more_room : {X : Type 0} (P : X → Type 0) (lists : List X) (i : ℕ) (y : X) → i < length lists → P y → All P (take i lists) → All P (take (i + 1) (set lists i y))
more_room P lists i y h p before = rw take_more_set (All-push P (take i lists) y before p)

pub loop-list-preserved : goal.loop-list-preserved
loop-list-preserved c = record {
  lines = map-set_same (λ list. list.items) c.loop-list.lists c.loop-list.list-index c.reserve.new.self c.list-item.result c.in_ok-reserve.ensures.items ∙ c.loop-list.invariant.lines;
  room = more_room (λ list. c.args.ways ≤ vec_capacity list) c.loop-list.lists c.loop-list.list-index c.reserve.new.self (omega arith) (omega (arith, c.in_ok-reserve.ensures.ok, c.saturating_sub.ensures, c.len.ensures, ap vec_len c.list-item.is)) c.loop-list.invariant.room;
}

pub returns-clause-room : goal.returns-clause-room
returns-clause-room c = rw (take_all c.loop-list.list-index c.loop-list.lists (omega arith)) at c.loop-list.invariant.room
