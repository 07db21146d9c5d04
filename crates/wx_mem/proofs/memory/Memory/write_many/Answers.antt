use Rattle.std.proofs.Common.{◌≡◌, ℕ, ◌≤◌, ◌<◌, ◌^◌, Bool, true, false, sym, subst, List, length, get_or, eqb, ap, ◌∙◌, is_some, ◌||◌, cond, arith}
use Rattle.std.specs.Option.{unwrap_or}
use Rattle.std.specs.Map.{lookup}
use Rattle.std.specs.FinMap as map
use Rattle.std.specs.Ordering.{nat_cmp}
use Rattle.wx_base.specs.Bits.{sub_words}
use Rattle.wx_base.specs.State.{is_among}
use Rattle.wx_mem.specs.Memory.{Written, with_bytes}
use Rattle.wx_mem.proofs.Entries.{same, chosen, marked}
use Rattle.wx_mem.proofs.Room.{anyhow}
use Rattle.wx_mem.proofs.Runs.{got_with}
use Rattle.wx_mem.proofs.memory.Memory.write_many.Goals as goal

entered : (es fs gs : List (ℕ × ℕ)) (a : ℕ) (bytes : List ℕ) → ((q : ℕ) → lookup (eqb q) fs ≡ lookup (eqb q) es)
    → ◌≡◌ {A = Written} (map.from_entries gs) (with_bytes (map.from_entries fs) a bytes) → ◌≡◌ {A = Written} (map.from_entries gs) (with_bytes (map.from_entries es) a bytes)
entered es fs gs a bytes h e = e ∙ ap (λ m. with_bytes m a bytes) (same es fs h)

byte_of : (m n : Written) (a fill q : ℕ) (bytes : List ℕ) → n ≡ with_bytes m a bytes → length bytes ≤ 64 → a < 2 ^ 32
    → unwrap_or (map.get n q) fill ≡ cond (is_among a (length bytes) q) (get_or bytes (sub_words q a) 0) (unwrap_or (map.get m q) fill)
byte_of m n a fill q bytes e few h =
    ap (λ n. unwrap_or (map.get n q) fill) e
    ∙ ap (λ o. unwrap_or o fill) (got_with bytes m a q h (omega arith))
    ∙ chosen (is_among a (length bytes) q) (get_or bytes (sub_words q a) 0) fill (map.get m q)

mark_of : (m n : Written) (a q : ℕ) (bytes : List ℕ) → n ≡ with_bytes m a bytes → length bytes ≤ 64 → a < 2 ^ 32
    → is_some (map.get n q) ≡ (is_among a (length bytes) q || is_some (map.get m q))
mark_of m n a q bytes e few h =
    ap (λ n. is_some (map.get n q)) e
    ∙ ap is_some (got_with bytes m a q h (omega arith))
    ∙ marked (is_among a (length bytes) q) (get_or bytes (sub_words q a) 0) (map.get m q)

-- the bytes of a list are bytes
still_bytes : (m n : Written) (a fill : ℕ) (bytes : List ℕ) → n ≡ with_bytes m a bytes → length bytes ≤ 64 → a < 2 ^ 32 → ((k : ℕ) → get_or bytes k 0 < 256) → ((at : ℕ) → unwrap_or (map.get m at) fill < 256)
    → (at : ℕ) → unwrap_or (map.get n at) fill < 256
still_bytes m n a fill bytes e few h small each at = subst (λ (x : ℕ). x < 256) (sym (byte_of m n a fill at bytes e few h)) (by (is_among a (length bytes) at))
  where
    by : (b : Bool) → cond b (get_or bytes (sub_words at a) 0) (unwrap_or (map.get m at) fill) < 256
    by true = small (sub_words at a)
    by false = each at

pub invariant_of-self-2 : goal.invariant_of-self-2
invariant_of-self-2 c = record {
  each = still_bytes (map.from_entries c.self.inside.bytes.entries) (map.from_entries c.put_all.new.room.entries) c.args.addr c.self.inside.fill c.args.bytes.now
      (entered c.self.inside.bytes.entries c.make_room.new.room.entries c.put_all.new.room.entries c.args.addr c.args.bytes.now c.in_ok-make_room.ensures.same c.put_all.ensures)
      c.requires (omega arith) (λ k. omega (arith, c.type_inv.bytes k)) c.self.invariant.each;
}

-- a refusal leaves the entries, in another order perhaps
left : (es fs : List (ℕ × ℕ)) (fill : ℕ) → ((q : ℕ) → lookup (eqb q) fs ≡ lookup (eqb q) es) → ((at : ℕ) → unwrap_or (map.get (map.from_entries {R = nat_cmp} es) at) fill < 256) → (at : ℕ) → unwrap_or (map.get (map.from_entries {R = nat_cmp} fs) at) fill < 256
left es fs fill h each at = subst (λ (m : Written). unwrap_or (map.get m at) fill < 256) (sym (same es fs h)) (each at)

pub invariant_of-self : goal.invariant_of-self
invariant_of-self c = record {
  each = left c.self.inside.bytes.entries c.make_room.new.room.entries c.self.inside.fill c.in_err-make_room.ensures.same c.self.invariant.each;
}

pub returns-in_err-make_room-clause-refused : goal.returns-in_err-make_room-clause-refused
returns-in_err-make_room-clause-refused c =
    anyhow c.from_residual.result
    (ap (λ (m : Written). record { fill = c.self.inside.fill; written = m }) (same c.self.inside.bytes.entries c.make_room.new.room.entries c.in_err-make_room.ensures.same) ∙ c.self.view_is)

pub returns-clause-written : goal.returns-clause-written
returns-clause-written c = rw (← c.self.view_is) (entered c.self.inside.bytes.entries c.make_room.new.room.entries c.put_all.new.room.entries c.args.addr c.args.bytes.now c.in_ok-make_room.ensures.same c.put_all.ensures)

pub returns-clause-bytes : goal.returns-clause-bytes
returns-clause-bytes c = rw (← c.self.view_is) (λ at. byte_of (map.from_entries c.self.inside.bytes.entries) (map.from_entries c.put_all.new.room.entries) c.args.addr c.self.inside.fill at c.args.bytes.now (entered c.self.inside.bytes.entries c.make_room.new.room.entries c.put_all.new.room.entries c.args.addr c.args.bytes.now c.in_ok-make_room.ensures.same c.put_all.ensures) c.requires (omega arith))

pub returns-clause-marks : goal.returns-clause-marks
returns-clause-marks c = rw (← c.self.view_is) (λ at. mark_of (map.from_entries c.self.inside.bytes.entries) (map.from_entries c.put_all.new.room.entries) c.args.addr at c.args.bytes.now (entered c.self.inside.bytes.entries c.make_room.new.room.entries c.put_all.new.room.entries c.args.addr c.args.bytes.now c.in_ok-make_room.ensures.same c.put_all.ensures) c.requires (omega arith))
