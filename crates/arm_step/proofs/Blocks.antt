-- Blocks of registers, one register at a time.
use Rattle.std.proofs.Common.{◌≡◌, ℕ, ◌+◌, ◌*◌, ◌%◌, ◌^◌, ◌<◌, ◌≤◌, Bool, true, false, cond, ◌&&◌, [], ◌∷◌, ◌++◌, length, ltb, eqb, ◌==◌, subst, refl, sym, ap, ◌∙◌, inl, inr, arith, length-append}
use Rattle.std.proofs.lemmas.Bool.{cases_eq, cases_lt, eq-eqb, ne_eqb, lt-ltb, le-ltb}
use Rattle.std.proofs.lemmas.Bool.Decides.{nat_tests}
use Rattle.std.proofs.Math.Nat.{div-eq_of_lt, pow-le-pow_right}
use Rattle.std.proofs.lemmas.Grind.{flat_map-append}
use Rattle.std.proofs.lemmas.List.{append-nil}
use Rattle.std.specs.List.{flat_map}
use Rattle.wx_base.specs.Bits.{is_in, add_words, bytes_of_word}
use Rattle.wx_base.specs.State.{replaced, value_of, word_in}
use Rattle.wx_base.specs.Transfer.{listed_below, block_loaded, block_bytes}
use Rattle.wx_base.proofs.Ranges.{listed_more}
use Rattle.arm_step.specs.Blocks.{place_of, loaded_below, bytes_below, bytes_at}

length_of : (b : Bool) (n : ℕ) → length (cond b (n ∷ []) []) ≡ cond b 1 0
length_of true n = refl
length_of false n = refl

-- one more register that may be in the list
pub count_more : (list n : ℕ) → length (listed_below (n + 1) list) ≡ length (listed_below n list) + cond (is_in list n) 1 0
count_more list n =
    ap length (listed_more list n) ∙ length-append (listed_below n list) (cond (is_in list n) (n ∷ []) [])
    ∙ ap (λ k. length (listed_below n list) + k) (length_of (is_in list n) n)

next_place : (b : Bool) (first count more : ℕ) → more ≡ count + cond b 1 0
    → cond b (add_words (add_words first (4 * count)) 4) (add_words first (4 * count)) ≡ add_words first (4 * more)
next_place true first count more e = omega arith
next_place false first count more e = omega arith

pub place_more : (list first n : ℕ) → cond (is_in list n) (add_words (place_of list first n) 4) (place_of list first n) ≡ place_of list first (n + 1)
place_more list first n = next_place (is_in list n) first (length (listed_below n list)) (length (listed_below (n + 1) list)) (count_more list n)

below_itself : (n : ℕ) → ltb n n ≡ false
below_itself n = le-ltb n n (omega arith)

below_next : (n : ℕ) → ltb n (n + 1) ≡ true
below_next n = lt-ltb n (n + 1) (omega arith)

same_below : (r n : ℕ) → (r ≡ n → ⊥) → ltb r n ≡ ltb r (n + 1)
same_below r n ne = grind (arith, nat_tests)

-- at the register itself: loaded if it is in the list
at_it : (b : Bool) (n w old : ℕ) → cond b (cond (eqb n n) w (cond (ltb n n && b) w old)) (cond (ltb n n && b) w old) ≡ cond (ltb n (n + 1) && b) w old
at_it true n w old =
    ap (λ t. cond t w (cond (ltb n n && true) w old)) (eq-eqb n n refl) ∙ sym (ap (λ t. cond (t && true) w old) (below_next n))
at_it false n w old =
    ap (λ t. cond (t && false) w old) (below_itself n) ∙ sym (ap (λ t. cond (t && false) w old) (below_next n))

-- at every other: as it was
elsewhere : (b here c : Bool) (r n w v old : ℕ) → here ≡ false → (r ≡ n → ⊥)
    → cond b (cond here w (cond (ltb r n && c) v old)) (cond (ltb r n && c) v old) ≡ cond (ltb r (n + 1) && c) v old
elsewhere true here c r n w v old e ne =
    ap (λ t. cond t w (cond (ltb r n && c) v old)) e ∙ ap (λ t. cond (t && c) v old) (same_below r n ne)
elsewhere false here c r n w v old e ne = ap (λ t. cond (t && c) v old) (same_below r n ne)

choice_at : (b : Bool) (f g : ℕ → ℕ) (r : ℕ) → cond b f g r ≡ cond b (f r) (g r)
choice_at true f g r = refl
choice_at false f g r = refl

pub loaded_more : (registers memory : ℕ → ℕ) (list first n : ℕ)
    → cond (is_in list n) (replaced (loaded_below registers memory list first n) n (word_in memory (place_of list first n))) (loaded_below registers memory list first n)
    ≡ loaded_below registers memory list first (n + 1)
loaded_more registers memory list first n = λ i r. each r i
  where
    L : ℕ → ℕ → ℕ
    L = loaded_below registers memory list first

    w : ℕ → ℕ
    w = λ r. word_in memory (place_of list first r)

    each : (r : ℕ) → cond (is_in list n) (replaced (L n) n (w n)) (L n) r ≡ L (n + 1) r
    each r = choice_at (is_in list n) (replaced (L n) n (w n)) (L n) r ∙ elim (cases_eq r n) [
      | inl e ↦ subst (λ r. cond (is_in list n) (replaced (L n) n (w n) r) (L n r) ≡ L (n + 1) r) (sym e) (at_it (is_in list n) n (w n) (registers n))
      | inr ne ↦ elsewhere (is_in list n) (eqb r n) (is_in list r) r n (w n) (w r) (registers r) (ne_eqb r n ne) ne
    ]

-- a number below 2^16 has no bit from 16 on
no_bit : (list r : ℕ) → list < 2 ^ 16 → 16 ≤ r → is_in list r ≡ false
no_bit list r small far =
    let grows : 2 ^ 16 ≤ 2 ^ r = pow-le-pow_right {n = 2} (omega arith) far in
    ap (λ q. q % 2 == 1) (div-eq_of_lt {n = list} {m = 2 ^ r} (omega arith))

pub none_below : (list : ℕ) → 0 ≡ length (listed_below 0 list)
unfolding listed_below
none_below list = refl

pub first_place : (list first : ℕ) → first < 2 ^ 32 → first ≡ place_of list first 0
first_place list first h = let n = none_below list in omega arith

pub no_bytes : (registers : ℕ → ℕ) (list : ℕ) → [] ≡ bytes_below registers list 0
unfolding listed_below
no_bytes registers list = refl

pub all_bytes : (registers : ℕ → ℕ) (list : ℕ) → bytes_below registers list 16 ≡ block_bytes registers list
unfolding block_bytes
all_bytes registers list = refl

pub loaded_all : (registers memory : ℕ → ℕ) (list first : ℕ) → list < 2 ^ 16 → loaded_below registers memory list first 16 ≡ block_loaded registers memory list first
unfolding block_loaded
loaded_all registers memory list first small = λ i r. each r i
  where
    each : (r : ℕ) → loaded_below registers memory list first 16 r ≡ block_loaded registers memory list first r
    each r = elim (cases_lt r 16) [
      | inl h ↦ ap (λ t. cond (t && is_in list r) (word_in memory (place_of list first r)) (registers r)) (lt-ltb r 16 h)
      | inr h ↦ ap (λ t. cond (t && is_in list r) (word_in memory (place_of list first r)) (registers r)) (le-ltb r 16 h)
          ∙ sym (ap (λ t. cond t (word_in memory (place_of list first r)) (registers r)) (no_bit list r small h))
    ]

pub none_loaded : (registers memory : ℕ → ℕ) (list first : ℕ) → registers ≡ loaded_below registers memory list first 0
none_loaded registers memory list first = λ i r. sym (ap (λ t. cond (t && is_in list r) (word_in memory (place_of list first r)) (registers r)) (le-ltb r 0 (omega arith))) i

bytes_if : (registers : ℕ → ℕ) (b : Bool) (n : ℕ) → flat_map (λ r. bytes_of_word (value_of registers r)) (cond b (n ∷ []) []) ≡ cond b (bytes_of_word (value_of registers n)) []
bytes_if registers true n = append-nil (bytes_of_word (value_of registers n))
bytes_if registers false n = refl

pub bytes_more : (registers : ℕ → ℕ) (list n : ℕ) → bytes_below registers list n ++ bytes_at registers list n ≡ bytes_below registers list (n + 1)
bytes_more registers list n =
    sym (ap (flat_map (λ r. bytes_of_word (value_of registers r))) (listed_more list n)
    ∙ flat_map-append (λ r. bytes_of_word (value_of registers r)) (listed_below n list) (cond (is_in list n) (n ∷ []) [])
    ∙ ap (λ xs. bytes_below registers list n ++ xs) (bytes_if registers (is_in list n) n))

-- what the loop that loads a list goes through, and the loop that puts its bytes together
pub ruleset loading = (loaded_more, place_more, loaded_all, none_loaded, first_place)

pub ruleset gathering = (bytes_more, no_bytes, all_bytes)
