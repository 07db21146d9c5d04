use Rattle.std.proofs.Common.{◌≡◌, ℕ, ◌+◌, ◌<◌, List, ◌∷◌, length, drop, get_or, eqb, cond, Some, Result, Ok, Err, IsOk, OnOk, refl, sym, ap, ◌∙◌, arith, add-one, drop-cons}
use Rattle.std.specs.Map.{lookup}
use Rattle.std.specs.FinMap as map
use Rattle.wx_base.specs.Bits.{add_words}
use Rattle.wx_mem.specs.Memory.{Written, with_bytes}
use Rattle.std.specs.HashMap.{spare}
use Rattle.wx_mem.proofs.Entries.{put}
use Rattle.wx_mem.proofs.Room.{begun, goes_on, next_place, one_less}
use Rattle.wx_mem.proofs.memory.put_all.Goals as goal

-- a call that succeeds keeps what it says of success
kept : {T E : Type 0} (r : Result T E) (P : Type 0) → IsOk r → OnOk r P → P
kept (Ok x) P h p = p
kept (Err e) P h p = absurd (cc)

step : (es fs : List (ℕ × ℕ)) (a b i : ℕ) (bytes : List ℕ) (whole : Written)
    → ((q : ℕ) → lookup (eqb q) fs ≡ cond (eqb a q) (Some b) (lookup (eqb q) es)) → i < length bytes → b ≡ get_or bytes i 0
    → with_bytes (map.from_entries es) a (drop i bytes) ≡ whole → with_bytes (map.from_entries fs) (add_words a 1) (drop (i + 1) bytes) ≡ whole
step es fs a b i bytes whole h within is before =
    ap (λ m. with_bytes m (add_words a 1) (drop (i + 1) bytes)) (put es fs a b h)
    ∙ sym (ap (with_bytes (map.from_entries es) a) (unrolled b is)) ∙ before
  where
    unrolled : (b : ℕ) → b ≡ get_or bytes i 0 → drop i bytes ≡ b ∷ drop (i + 1) bytes
    unrolled b e = rw (e, add-one) (drop-cons bytes i 0 within)

pub loop-byte-init : goal.loop-byte-init
loop-byte-init c = record { at = omega arith; room = begun (spare c.args.room.now) (map.from_entries c.args.room.now.entries) c.args.addr (length c.args.bytes.now) c.requires.enough; rest = refl }

pub loop-byte-preserved : goal.loop-byte-preserved
loop-byte-preserved c =
    let es = c.loop-byte.room.entries in
    let fs = c.insert.new.self.entries in
    let count = length c.args.bytes.now in
    let i = c.loop-byte.byte-index in
    let at = c.loop-byte.at in
    let least = goes_on c.insert.result es at c.args.addr count i (spare c.loop-byte.room) (omega arith) (omega arith) (omega arith) c.loop-byte.invariant.at c.loop-byte.invariant.room c.insert.ensures.absent c.insert.ensures.succeeds in
    let updates = (kept c.insert.result _ least c.insert.ensures.updates).0 in
    record {
      at = next_place c.args.addr i at c.loop-byte.invariant.at;
      room = one_less es fs at _ c.args.addr count i (spare c.loop-byte.room) (spare c.insert.new.self) updates (omega arith) c.loop-byte.invariant.room;
      rest = step es fs at _ i c.args.bytes.now _ updates (omega arith) refl c.loop-byte.invariant.rest;
    }
