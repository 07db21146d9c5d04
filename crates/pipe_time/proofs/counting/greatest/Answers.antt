use Rattle.std.proofs.Common.{◌≡◌, ◌∷◌, [], ◌++◌, ℕ, take, length, get_or, sym, ◌∙◌, arith, ap, max, rules}
use Rattle.std.proofs.lemmas.List.{take_more, take_all}
use Rattle.wx_base.specs.Blocks.{greatest_slot}
use Rattle.pipe_time.proofs.Greatest.{greatest_none, greatest_push}
use Rattle.pipe_time.proofs.counting.greatest.Goals as goal

pub loop-slot-init : goal.loop-slot-init
loop-slot-init c = sym greatest_none

pub loop-slot-preserved : goal.loop-slot-preserved
loop-slot-preserved c =
    let xs = c.args.slots.now in
    let i = c.loop-slot.slot-index in
    rw (take_more xs i 0 (omega arith), greatest_push (take i xs) (get_or xs i 0), ← c.loop-slot.invariant) (search rules)
