-- The vector of the empty pipeline, interned in a pool.
use Rattle.std.proofs.Common.{◌≡◌, ℕ, ◌≤◌, ◌^◌, List, replicate, slice_get, Some, sym, ◌∙◌, subst, inl, inr, arith}
use Rattle.std.proofs.lemmas.Bool.{cases_lt}
use Rattle.std.proofs.lemmas.List.{get_or-replicate, get_or_past, length-replicate}
use Rattle.std.proofs.lemmas.Option.{same_Some}
use Rattle.wx_base.specs.Recurrence.{slot}
use Rattle.wx_base.specs.Vector.{AreWithin, zero_slots}
use Rattle.pipe_time.specs.declared.vector.Vector.{Vector}
use Rattle.pipe_time.specs.Pool.{Stands}

zero_slot : (k : ℕ) → slot zero_slots k ≡ 0
zero_slot k = elim (cases_lt k 35) [ inl h ↦ get_or-replicate 35 k 0 0 h | inr h ↦ get_or_past (replicate 35 0) k 0 (simp length-replicate h) ]

zero_is_small : (bound k : ℕ) → slot zero_slots k ≤ bound
zero_is_small bound k = let e : slot zero_slots k ≡ 0 = zero_slot k in omega arith

-- the vector at the place has small slots
pub interned_small : (old new : List Vector) (v : Vector) (place : ℕ) → v.slots ≡ zero_slots → Stands old new v place → (from : Vector) → slice_get new place ≡ Some from → AreWithin (10 ^ 18) from.slots
interned_small old new v place zeros s from at =
    let same : v ≡ from = same_Some v from (sym s.at ∙ at) in
    subst (λ (x : Vector). AreWithin (10 ^ 18) x.slots) same
    (subst (λ (xs : List ℕ). AreWithin (10 ^ 18) xs) (sym zeros) (record { each = λ k. zero_is_small (10 ^ 18) k }))
