-- What the machine's width and queue can be, and a list of 35 slots.
use Rattle.std.proofs.Common.{◌≡◌, ℕ, zero, suc, ◌≤◌, List, [], ◌∷◌, refl, arith, inl, inr, replicate}
use Rattle.std.proofs.lemmas.Bool.Decides.{nat_tests}
use Rattle.wx_base.specs.Machine.{Between}
use Rattle.wx_base.specs.Recurrence.{ago, kept, slot}
use Rattle.wx_base.specs.Vector.{zero_slots}
use Rattle.std.proofs.lemmas.List.{get_or-replicate, get_or_past, length-replicate}
use Rattle.std.proofs.lemmas.Bool.{cases_lt}

-- a pair, written without parentheses
infixr 4 ◌▸◌
abbrev pub ◌▸◌ : {A B : Type 0} → A → B → A × B
a ▸ b = (a, b)

-- what holds of 1 and 2 holds of a width
pub width_cases : (P : ℕ → Type 0) → P 1 → P 2 → (w : ℕ) → Between 1 2 w → P w
width_cases P one two zero b = absurd (omega (arith, b.0))
width_cases P one two (suc zero) b = one
width_cases P one two (suc (suc zero)) b = two
width_cases P one two (suc (suc (suc w))) b = absurd (omega (arith, b.1))

-- what holds of 1 to 8 holds of a length of the queue
pub queue_cases : (P : ℕ → Type 0) → P 1 → P 2 → P 3 → P 4 → P 5 → P 6 → P 7 → P 8 → (q : ℕ) → Between 1 8 q → P q
queue_cases P a b c d e f g h zero r = absurd (omega (arith, r.0))
queue_cases P a b c d e f g h (suc zero) r = a
queue_cases P a b c d e f g h (suc (suc zero)) r = b
queue_cases P a b c d e f g h (suc (suc (suc zero))) r = c
queue_cases P a b c d e f g h (suc (suc (suc (suc zero)))) r = d
queue_cases P a b c d e f g h (suc (suc (suc (suc (suc zero))))) r = e
queue_cases P a b c d e f g h (suc (suc (suc (suc (suc (suc zero)))))) r = f
queue_cases P a b c d e f g h (suc (suc (suc (suc (suc (suc (suc zero))))))) r = g
queue_cases P a b c d e f g h (suc (suc (suc (suc (suc (suc (suc (suc zero)))))))) r = h
queue_cases P a b c d e f g h (suc (suc (suc (suc (suc (suc (suc (suc (suc q))))))))) r = absurd (omega (arith, r.1))

-- the two kept times of a width serve it as all times do
pub ago_width : (back : List ℕ) (w : ℕ) → Between 1 2 w → ago w (ago 1 back ∷ kept 2 w (ago 2 back) ∷ []) ≡ ago w back
ago_width back = width_cases (λ w. ago w (ago 1 back ∷ kept 2 w (ago 2 back) ∷ []) ≡ ago w back) refl refl

-- the eight kept times of a queue serve it as all times do
pub ago_queue : (d : List ℕ) (q : ℕ) → Between 1 8 q →
    ago q (kept 1 q (ago 1 d) ∷ kept 2 q (ago 2 d) ∷ kept 3 q (ago 3 d) ∷ kept 4 q (ago 4 d) ∷ kept 5 q (ago 5 d) ∷ kept 6 q (ago 6 d) ∷ kept 7 q (ago 7 d) ∷ kept 8 q (ago 8 d) ∷ []) ≡ ago q d
ago_queue d = queue_cases (λ q. ago q (kept 1 q (ago 1 d) ∷ kept 2 q (ago 2 d) ∷ kept 3 q (ago 3 d) ∷ kept 4 q (ago 4 d) ∷ kept 5 q (ago 5 d) ∷ kept 6 q (ago 6 d) ∷ kept 7 q (ago 7 d) ∷ kept 8 q (ago 8 d) ∷ []) ≡ ago q d) refl refl refl refl refl refl refl refl

-- what a shorter reach drops a longer one drops too
pub kept_once : (a b reach time : ℕ) → a ≤ b → kept b reach (kept a reach time) ≡ kept b reach time
kept_once a b reach time h = grind (arith, nat_tests)

pub kept_zero : (n reach : ℕ) → kept n reach 0 ≡ 0
kept_zero n reach = grind (arith, nat_tests)

pub kept_on : (n reach time : ℕ) → n ≤ reach → kept n reach time ≡ time
kept_on n reach time h = grind (arith, nat_tests)

-- slot k of the zero vector, and of no vector
pub zero_slot : (k : ℕ) → slot zero_slots k ≡ 0
zero_slot k = elim (cases_lt k 35) [ inl h ↦ get_or-replicate 35 k 0 0 h | inr h ↦ get_or_past (replicate 35 0) k 0 (simp length-replicate h) ]
