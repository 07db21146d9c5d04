use Rattle.std.proofs.Common.{◌≡◌, ◌<◌, ℕ, Bool, true, false, cond, arith, sym, subst, eqb, ap, ◌∙◌, is_some, ◌||◌}
use Rattle.std.specs.Option.{unwrap_or}
use Rattle.std.specs.FinMap as map
use Rattle.wx_base.specs.State.{replaced}
use Rattle.wx_mem.specs.Memory.{Written}
use Rattle.wx_mem.proofs.Entries.{found, got, put, chosen, marked}
use Rattle.wx_mem.proofs.Room.{anyhow}
use Rattle.wx_mem.proofs.memory.Memory.write.Goals as goal
use Rattle.wx_mem.proofs.memory.Memory.write.Goals.{In_ok-insert}

entered : (c : In_ok-insert) → ◌≡◌ {A = Written} (map.from_entries c.insert.new.self.entries) (map.insert (map.from_entries c.self.inside.bytes.entries) c.args.addr c.args.b)
entered c = put c.self.inside.bytes.entries c.insert.new.self.entries c.args.addr c.args.b c.in_ok-insert.ensures.updates.0

byte_of : (m n : Written) (k v fill q : ℕ) → n ≡ map.insert m k v → unwrap_or (map.get n q) fill ≡ replaced (λ at. unwrap_or (map.get m at) fill) k v q
byte_of m n k v fill q e = ap (λ n. unwrap_or (map.get n q) fill) e ∙ ap (λ o. unwrap_or o fill) (got m k v q) ∙ chosen (eqb q k) v fill (map.get m q)

mark_of : (m n : Written) (k v q : ℕ) → n ≡ map.insert m k v → is_some (map.get n q) ≡ (eqb q k || is_some (map.get m q))
mark_of m n k v q e = ap (λ n. is_some (map.get n q)) e ∙ ap is_some (got m k v q) ∙ marked (eqb q k) v (map.get m q)

-- one byte more is a byte
still_bytes : (m n : Written) (k v fill : ℕ) → n ≡ map.insert m k v → v < 256 → ((at : ℕ) → unwrap_or (map.get m at) fill < 256) → (at : ℕ) → unwrap_or (map.get n at) fill < 256
still_bytes m n k v fill e small each at = subst (λ (x : ℕ). x < 256) (sym (byte_of m n k v fill at e)) (by (eqb at k))
  where
    by : (b : Bool) → cond b v (unwrap_or (map.get m at) fill) < 256
    by true = small
    by false = each at

pub invariant_of-self-2 : goal.invariant_of-self-2
invariant_of-self-2 c = record {
  each = still_bytes (map.from_entries c.self.inside.bytes.entries) (map.from_entries c.insert.new.self.entries) c.args.addr c.args.b c.self.inside.fill (entered c) (omega arith) c.self.invariant.each;
}

pub returns-clause-written : goal.returns-clause-written
returns-clause-written c = rw (← c.self.view_is) (entered c)

pub returns-clause-bytes : goal.returns-clause-bytes
returns-clause-bytes c = rw (← c.self.view_is) (λ at. byte_of (map.from_entries c.self.inside.bytes.entries) (map.from_entries c.insert.new.self.entries) c.args.addr c.args.b c.self.inside.fill at (entered c))

pub returns-clause-marks : goal.returns-clause-marks
returns-clause-marks c = rw (← c.self.view_is) (λ at. mark_of (map.from_entries c.self.inside.bytes.entries) (map.from_entries c.insert.new.self.entries) c.args.addr c.args.b at (entered c))

pub returns-in_err-insert-clause-absent : goal.returns-in_err-insert-clause-absent
returns-in_err-insert-clause-absent c =
    anyhow c.from_residual.result
    (rw (← c.self.view_is) (ap is_some (found c.self.inside.bytes.entries c.args.addr ∙ c.in_err-insert.ensures.absent)))
