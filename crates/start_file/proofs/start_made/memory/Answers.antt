use Rattle.std.proofs.Common.{◌≡◌, ◌∙◌, ap, sym, is_some, subst, take, ◌+◌}
use Rattle.std.specs.FinMap as map
use Rattle.std.specs.FinMap.{get-empty}
use Rattle.std.specs.Ordering.{nat_cmp}
use Rattle.std.specs.Option.{unwrap_or}
use Rattle.wx_mem.specs.Memory.{byte_at, is_written}
use Rattle.start_file.specs.StartSaid.{said, of_byte}
use Rattle.start_file.proofs.StartSaying.{told_more, spoken_more}
use Rattle.start_file.proofs.start_made.memory.Goals as goal

pub loop-item-init : goal.loop-item-init
loop-item-init c = record {
  fill = c.new-memory.ensures.fill ∙ c.fill.ensures;
  bytes = λ at. c.new-memory.ensures.bytes at ∙ sym c.new-memory.ensures.fill;
  written = λ at. ap (λ w. map.contains_key w at) c.new-memory.ensures.written ∙ ap is_some (get-empty nat_cmp at);
}

pub loop-item-preserved : goal.loop-item-preserved
loop-item-preserved c =
    let items = c.args.items.now in
    let i = c.loop-item.item-index in
    let x = c.item-item.result in
    let fill = c.in_ok-write_byte.ensures.fill in
    record {
      fill = fill ∙ c.loop-item.invariant.fill;
      bytes = λ at.
          subst (λ f. byte_at c.write_byte.new.memory at ≡ unwrap_or (said (of_byte at) (take (i + 1) items)) f) (sym fill)
          (told_more (of_byte at) items i x (byte_at c.loop-item.memory at) (byte_at c.write_byte.new.memory at) c.loop-item.memory.fill c.loop-item-test.true c.item-item.is (c.loop-item.invariant.bytes at) (c.in_ok-write_byte.ensures.bytes at));
      written = λ at.
          spoken_more (of_byte at) items i x (is_written c.loop-item.memory at) (is_written c.write_byte.new.memory at) c.loop-item-test.true c.item-item.is (c.loop-item.invariant.written at) (c.in_ok-write_byte.ensures.written at);
    }
