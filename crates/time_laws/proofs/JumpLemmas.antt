-- Whether the last instruction jumps changes one slot of the vector behind it, and no time.
use Rattle.std.proofs.Common.{◌≡◌, ℕ, ◌+◌, ◌<◌, ◌≤◌, Bool, true, false, cond, List, [], ◌∷◌, length, map, slice_index, refl, inl, inr, arith}
use Rattle.std.proofs.lemmas.Bool.{cases_eq}
use Rattle.std.proofs.lemmas.List.{get_or-set_same, get_or-set_other}
use Rattle.wx_base.specs.declared.machine.Machine.{Machine}
use Rattle.wx_base.specs.Blocks.{jump_slot, with_jump}
use Rattle.wx_base.specs.Recurrence.{Entry, Done, next, window, past_of, completion, slot}
use Rattle.pipe_time.specs.Order.{SlotsAtMostLater}
use Rattle.time_laws.specs.Stretches.{jumping}

-- the end of the last instruction
abbrev pub end_of : List Done → ℕ
end_of past = slice_index (map (λ i. i.times.xe) past) 0

-- the vector behind instructions of which the last jumps or does not
pub jump_behind : (m : Machine) (start : List ℕ) (taken : Bool) (e : Entry) (es : List Entry)
    → window m start (past_of m start (jumping taken (e ∷ es)))
    ≡ with_jump taken (end_of (past_of m start (e ∷ es))) (window m start (past_of m start (e ∷ es)))
unfolding past_of window next
jump_behind m start taken e es = refl

-- and when it is complete
pub jump_completes : (m : Machine) (start : List ℕ) (taken : Bool) (es : List Entry)
    → completion start (past_of m start (jumping taken es)) ≡ completion start (past_of m start es)
unfolding past_of next
jump_completes m start taken [] = refl
jump_completes m start taken (e ∷ es) = refl

-- a vector is as long as there are slots
pub window_is_long : (m : Machine) (start : List ℕ) (past : List Done) → jump_slot < length (window m start past)
unfolding window
window_is_long m start past = omega arith

module _ (t : ℕ) (taken : Bool) (v u : List ℕ) (later : SlotsAtMostLater t v u) (end_v end_u : ℕ) (ends : end_u ≤ end_v + t)
    (long_v : jump_slot < length v) (long_u : jump_slot < length u) where
  jump_value : (b : Bool) → cond b end_u 0 ≤ cond b end_v 0 + t
  jump_value true = ends
  jump_value false = omega arith

  each_slot : (k : ℕ) → slot (with_jump taken end_u u) k ≤ slot (with_jump taken end_v v) k + t
  each_slot k = elim (cases_eq k jump_slot) [
    | inl here ↦ rw (here, get_or-set_same u jump_slot (cond taken end_u 0) 0 long_u, get_or-set_same v jump_slot (cond taken end_v 0) 0 long_v) (jump_value taken)
    | inr there ↦ rw (get_or-set_other u jump_slot k (cond taken end_u 0) 0 there, get_or-set_other v jump_slot k (cond taken end_v 0) 0 there) (later.each k)
  ]

  -- what is at most so much later stays so with the jump
  pub jumps_later : SlotsAtMostLater t (with_jump taken end_v v) (with_jump taken end_u u)
  jumps_later = record { each = each_slot }
