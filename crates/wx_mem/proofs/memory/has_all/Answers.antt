use Rattle.std.proofs.Common.{sym, ap, ◌∙◌, is_some, refl, arith}
use Rattle.wx_base.specs.Bits.{add_words}
use Rattle.std.specs.FinMap as map
use Rattle.wx_mem.proofs.Entries.{found}
use Rattle.wx_mem.proofs.Room.{at_place, one_more}
use Rattle.wx_mem.proofs.memory.has_all.Goals as goal

pub returns-then-not-contains_key-clause-some : goal.returns-then-not-contains_key-clause-some
returns-then-not-contains_key-clause-some c =
    let es = c.args.room.now.entries in
    let at = add_words c.args.addr c.loop-i.i in
    record {
      address = at;
      among = at_place c.args.addr c.args.count c.loop-i.i at (omega arith) (omega arith) (omega arith) refl;
      absent = ap is_some (found es at) ∙ sym c.contains_key.ensures ∙ c.if-not-contains_key.true;
    }

pub loop-i-preserved : goal.loop-i-preserved
loop-i-preserved c =
    let es = c.args.room.now.entries in
    let at = add_words c.args.addr c.loop-i.i in
    one_more (map.from_entries es) c.args.addr c.loop-i.i at (omega arith) (omega arith) refl
    (ap is_some (found es at) ∙ sym c.contains_key.ensures ∙ c.if-not-contains_key.false) c.loop-i.invariant
