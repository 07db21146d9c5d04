-- No step writes code.
use Rattle.std.proofs.Common.{◌≡◌, ℕ, zero, suc, ◌*◌, ◌+◌, ◌^◌, ◌<◌, ◌≤◌, Bool, true, false, cond, ltb, List, [], ◌∷◌, take, length, get_or, min, refl, sym, ap, subst, ◌∙◌, arith, length-append}
use Rattle.std.proofs.lemmas.Bool.{false≢true, and_parts, or_left, or_right}
use Rattle.std.proofs.lemmas.Bool.Decides.{nat_tests}
use Rattle.std.proofs.lemmas.List.{length-take}
use Rattle.std.specs.List.{flat_map, list_any, range_with_len}
use Rattle.wx_base.specs.declared.machine.Machine.{Machine}
use Rattle.wx_base.specs.declared.image.Image.{Image}
use Rattle.wx_base.specs.declared.step.Transfer.{Transfer}
use Rattle.wx_base.specs.declared.step.BlockTransfer.{BlockTransfer}
use Rattle.wx_base.specs.Bits.{add_words, sub_words, bytes_of_word}
use Rattle.wx_base.specs.Image.{has_code}
use Rattle.wx_base.specs.Instruction.{Kind, AluImmediate, AluShift, AluByRegister, Mul, MulLong, SingleImmediate, SingleRegister, HalfImmediate, HalfRegister, Block, Branch, Exchange, Svc, MovPcLr}
use Rattle.wx_base.specs.State.{State, Went, Next, value_of, is_among, overwritten}
use Rattle.wx_base.specs.Step.{alu_effect, mul_effect, mul_long_effect, current_word, effect, single_by, half_by, block_by}
use Rattle.wx_base.specs.Transfer.{address_of, block_bytes, block_first, block_size, listed_below, meets_code, moved, moved_base, moved_block_base, size_of, transfer_effect, block_effect}
use Rattle.run_laws.specs.Ranges.{StepsKeepCode}
use Rattle.run_laws.proofs.RangeLemmas.{HoldWords, either, sum_is_word, difference_is_word, value_is_word}
use Rattle.run_laws.proofs.StepLemmas.{of_next, goes, GoesBy, transfers, Transfers, moves, Moves}
use Rattle.run_laws.proofs.StepLemmas.GoesBy.{passed_over, done}
use Rattle.run_laws.proofs.StepLemmas.Transfers.{loads, stores}
use Rattle.run_laws.proofs.StepLemmas.Moves.{block_loads, block_stores}

-- ---- addresses that are written

-- a test that passes at one of the numbers
any_here : (test : ℕ → Bool) (a n k : ℕ) → k < n → test (a + k) ≡ true → list_any test (range_with_len a n) ≡ true
any_here test a zero k h t = absurd (omega arith)
any_here test a (suc n) zero h t = let e : a + zero ≡ a = omega arith in or_left (test a) (list_any test (range_with_len (a + 1) n)) (sym (ap test e) ∙ t)
any_here test a (suc n) (suc k) h t =
    let e : a + suc k ≡ a + 1 + k = omega arith in
    or_right (test a) (list_any test (range_with_len (a + 1) n)) (any_here test (a + 1) n k (omega arith) (sym (ap test e) ∙ t))

-- an address among some from the first on is that many behind it
behind_first : (first address : ℕ) → first < 2 ^ 32 → address < 2 ^ 32 → add_words first (sub_words address first) ≡ address
behind_first first address h k = omega arith

below : (m n : ℕ) → ltb m n ≡ true → m < n
below m n t = grind (arith, nat_tests)

module _ (image : Image) (address : ℕ) (small : address < 2 ^ 32) (code : has_code image address ≡ true) where
  meets : (first count : ℕ) → first < 2 ^ 32 → sub_words address first < count → meets_code image first count ≡ true
  unfolding meets_code
  meets first count h k =
      let e : 0 + sub_words address first ≡ sub_words address first = omega arith in
      any_here (λ j. has_code image (add_words first j)) 0 count (sub_words address first) k
      (ap (λ j. has_code image (add_words first j)) e ∙ ap (has_code image) (behind_first first address h small) ∙ code)

  -- so it is not among those written where no code is
  not_among : (first count written : ℕ) → first < 2 ^ 32 → written ≤ count → meets_code image first count ≡ false → is_among first written address ≡ false
  not_among first count written h few apart = at (is_among first written address) refl
    where
      at : (b : Bool) → is_among first written address ≡ b → b ≡ false
      at false e = refl
      at true e =
          let l : sub_words address first < written = below (sub_words address first) written (and_parts (ltb address (2 ^ 32)) (ltb (sub_words address first) written) e).1 in
          absurd (false≢true (sym apart ∙ meets first count h (omega arith)))

  kept_there : (memory : ℕ → ℕ) (first count : ℕ) (bytes : List ℕ) → first < 2 ^ 32 → length bytes ≤ count → meets_code image first count ≡ false → overwritten memory first bytes address ≡ memory address
  kept_there memory first count bytes h few apart =
      ap (λ b. cond b (get_or bytes (sub_words address first) 0) (memory address)) (not_among first count (length bytes) h few apart)

  -- ---- by the rows

  module _ (machine : Machine) (state : State) (went : Went) (words : HoldWords state.registers) where
    -- memory stays as it was there
    Kept : Type 0
    Kept = went.state.memory address ≡ state.memory address

    same_memory : (a : Went) → Next a ≡ Next went → a.state.memory address ≡ state.memory address → Kept
    unfolding Kept
    same_memory a e same = subst (λ (w : Went). w.state.memory address ≡ state.memory address) (of_next a went e) same

    moved_small : (up : Bool) (base by : ℕ) → moved up base by < 2 ^ 32
    moved_small up base by = either (λ n. n < 2 ^ 32) up (add_words base by) (sub_words base by) (sum_is_word base by) (difference_is_word base by)

    address_small : (t : Transfer) → address_of state.registers t < 2 ^ 32
    address_small t =
        either (λ n. n < 2 ^ 32) t.before (moved_base state.registers t) (value_of state.registers t.base)
        (moved_small t.up (value_of state.registers t.base) t.offset) (value_is_word state.registers t.base words)

    length_of_take : (n : ℕ) (xs : List ℕ) → length (take n xs) ≤ n
    length_of_take n xs = let e = length-take n xs in let m : min n (length xs) ≤ n = omega arith in omega (arith, e)

    transfer_keeps : (t : Transfer) → transfer_effect machine image state t ≡ Next went → Kept
    transfer_keeps t e = cases (transfers machine image state t went e)
      where
        cases : Transfers machine image state t went → Kept
        cases (loads l f) = same_memory _ f refl
        cases (stores l apart f) =
            same_memory _ f (kept_there state.memory (address_of state.registers t) (size_of t.datum) (take (size_of t.datum) (bytes_of_word (value_of state.registers t.register)))
            (address_small t) (length_of_take (size_of t.datum) (bytes_of_word (value_of state.registers t.register))) apart)

    first_small : (t : BlockTransfer) → block_first state.registers t < 2 ^ 32
    unfolding block_first
    first_small t =
        let base = state.registers t.base in
        let other = moved_block_base state.registers t in
        let W = λ (n : ℕ). n < 2 ^ 32 in
        either W t.up (cond t.before (add_words base 4) base) (cond t.before other (add_words other 4))
        (either W t.before (add_words base 4) base (sum_is_word base 4) (words.each t.base))
        (either W t.before other (add_words other 4) (moved_small t.up base (block_size t)) (sum_is_word other 4))

    flat_length : (f : ℕ → List ℕ) (xs : List ℕ) → ((x : ℕ) → length (f x) ≡ 4) → length (flat_map f xs) ≡ 4 * length xs
    flat_length f [] four = refl
    flat_length f (x ∷ xs) four =
        let e = length-append (f x) (flat_map f xs) in
        let rest = flat_length f xs four in
        let one = four x in
        omega (arith, e, rest, one)

    block_length : (t : BlockTransfer) → length (block_bytes state.registers t.list) ≤ block_size t
    unfolding block_bytes block_size
    block_length t =
        let e = flat_length (λ r. bytes_of_word (value_of state.registers r)) (listed_below 16 t.list) (λ r. refl) in
        omega (arith, e)

    block_keeps : (t : BlockTransfer) → block_effect machine image state t ≡ Next went → Kept
    block_keeps t e = cases (moves machine image state t went e)
      where
        cases : Moves machine image state t went → Kept
        cases (block_loads l f) = same_memory _ f refl
        cases (block_stores l apart f) =
            same_memory _ f (kept_there state.memory (block_first state.registers t) (block_size t) (block_bytes state.registers t.list) (first_small t) (block_length t) apart)

    effect_keeps : (word : ℕ) (kind : Kind) → effect machine image state word kind ≡ Next went → Kept
    unfolding alu_effect mul_effect mul_long_effect
    effect_keeps word AluImmediate e = same_memory _ e refl
    effect_keeps word AluShift e = same_memory _ e refl
    effect_keeps word AluByRegister e = same_memory _ e refl
    effect_keeps word Mul e = same_memory _ e refl
    effect_keeps word MulLong e = same_memory _ e refl
    effect_keeps word SingleImmediate e = transfer_keeps (single_by word _) e
    effect_keeps word SingleRegister e = transfer_keeps (single_by word _) e
    effect_keeps word HalfImmediate e = transfer_keeps (half_by word _) e
    effect_keeps word HalfRegister e = transfer_keeps (half_by word _) e
    effect_keeps word Block e = block_keeps (block_by word) e
    effect_keeps word Branch e = same_memory _ e refl
    effect_keeps word Exchange e = same_memory _ e refl
    effect_keeps word Svc e = cc
    effect_keeps word MovPcLr e = same_memory _ e refl

    goes_keep : (word : ℕ) → GoesBy machine image state word went → went.state.memory address ≡ state.memory address
    unfolding Kept
    goes_keep word (passed_over kind is fails e) = same_memory _ e refl
    goes_keep word (done kind is e) = effect_keeps word kind e

pub steps_keep_code : StepsKeepCode
steps_keep_code machine image state went range e address small code =
    goes_keep image address small code machine state went (record { each = range.words }) (current_word state) (goes machine image state went e).by
