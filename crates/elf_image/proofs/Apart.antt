-- Ranges that follow each other when they are sorted: no two of them meet.
use Rattle.std.proofs.Common.{◌≡◌, ◌≢◌, ℕ, zero, suc, ◌+◌, ◌<◌, ◌≤◌, ◌⊎◌, inl, inr, Bool, true, false, cond, eqb, ltb, eq-eqb, lt-ltb, List, length, get_or, set, map, refl, sym, ap, ◌∙◌, arith}
use Rattle.std.specs.Prelude.{All, IsPermutation, swap}
use Rattle.std.specs.List.{AllAdjacentBelow}
use Rattle.std.proofs.lemmas.List.{get_or-map, get_or-set_same, get_or-set_other, length-map, length-set}
use Rattle.std.proofs.lemmas.List.Edits.{swap_is}
use Rattle.std.proofs.lemmas.List.Sorted.{IsPermutation-keeps, IsPermutation-sym, All-permutation}
use Rattle.std.proofs.lemmas.Bool.{cases_eq, cases_lt}
use Rattle.elf_image.specs.declared.fields.ProgramHeader.{ProgramHeader}
use Rattle.elf_image.specs.Fields.{fills}
use Rattle.elf_image.specs.Overlaps.{Meet, NoneMeet, header_in, memory_range, no_header}

-- the one range ends before the other begins
IsApart : ℕ × ℕ → ℕ × ℕ → Type 0
IsApart r s = (r.1 ≤ s.0) ⊎ (s.1 ≤ r.0)

-- no two ranges of a list have an address in common
record AllApart (xs : List (ℕ × ℕ)) : Type 0 where
  apart : (i j : ℕ) (d : ℕ × ℕ) → i ≢ j → i < length xs → j < length xs → IsApart (get_or xs i d) (get_or xs j d)

apart_sym : (r s : ℕ × ℕ) → IsApart r s → IsApart s r
unfolding IsApart
apart_sym r s (inl h) = inr h
apart_sym r s (inr h) = inl h

-- where each ends before the next begins, each ends before every later one begins
follow_far : (xs : List (ℕ × ℕ)) → All (λ r. r.0 ≤ r.1) xs → AllAdjacentBelow (λ r s. r.1 ≤ s.0) xs (length xs) → (i j : ℕ) (d : ℕ × ℕ) → i < j → j < length xs → (get_or xs i d).1 ≤ (get_or xs j d).0
follow_far xs up next i zero d h l = absurd (omega arith)
follow_far xs up next i (suc j) d h l =
    let e : j + 1 ≡ suc j = omega arith in
    let n : (get_or xs j d).1 ≤ (get_or xs (suc j) d).0 = rw e at (next j d (omega arith)) in
    elim (cases_eq i j) [
      | inl q ↦ rw q n
      | inr q ↦ later xs i j d (follow_far xs up next i j d (omega arith) (omega arith)) (up j d (omega arith)) n
    ]
  where
    later : (xs : List (ℕ × ℕ)) (i j : ℕ) (d : ℕ × ℕ) → (get_or xs i d).1 ≤ (get_or xs j d).0 → (get_or xs j d).0 ≤ (get_or xs j d).1 → (get_or xs j d).1 ≤ (get_or xs (suc j) d).0 → (get_or xs i d).1 ≤ (get_or xs (suc j) d).0
    later xs i j d a b c = omega arith

all_apart_from_following : (xs : List (ℕ × ℕ)) → All (λ r. r.0 ≤ r.1) xs → AllAdjacentBelow (λ r s. r.1 ≤ s.0) xs (length xs) → AllApart xs
unfolding IsApart
all_apart_from_following xs up next = record {
  apart = λ i j d ne hi hj. elim (cases_lt i j) [
    | inl h ↦ inl (follow_far xs up next i j d h hj)
    | inr h ↦ inr (follow_far xs up next j i d (omega arith) hi)
  ];
}

-- where an element of a list with two exchanged stood before
Stood : List (ℕ × ℕ) → ℕ → ℕ → ℕ → (ℕ × ℕ) → Type 0
Stood xs i j k d =
    ((k ≡ j) × (get_or (swap xs i j) k d ≡ get_or xs i d))
    ⊎ ((k ≢ j) × (k ≡ i) × (get_or (swap xs i j) k d ≡ get_or xs j d))
    ⊎ ((k ≢ j) × (k ≢ i) × (get_or (swap xs i j) k d ≡ get_or xs k d))

stood : (xs : List (ℕ × ℕ)) (i j k : ℕ) (d : ℕ × ℕ) → i < length xs → j < length xs → Stood xs i j k d
unfolding Stood
stood xs i j k d hi hj =
    let e = swap_is xs i j d hi hj in
    let a = get_or xs j d in
    let b = get_or xs i d in
    let long : j < length (set xs i a) = omega (arith, length-set xs i a) in
    elim (cases_eq k j) [
      | inl kj ↦ inl (kj, rw (kj, ← e) (get_or-set_same (set xs i a) j b d long))
      | inr kj ↦ elim (cases_eq k i) [
        | inl ki ↦ inr (inl (kj, ki, rw (← e) (get_or-set_other (set xs i a) j k b d kj ∙ rw ki (get_or-set_same xs i a d hi))))
        | inr ki ↦ inr (inr (kj, ki, rw (← e) (get_or-set_other (set xs i a) j k b d kj ∙ get_or-set_other xs i k a d ki)))
      ]
    ]

length-exchanged : (xs : List (ℕ × ℕ)) (i j : ℕ) → i < length xs → j < length xs → length (swap xs i j) ≡ length xs
length-exchanged xs i j hi hj =
    let d : ℕ × ℕ = (0, 0) in
    ap length (sym (swap_is xs i j d hi hj)) ∙ length-set (set xs i (get_or xs j d)) j (get_or xs i d) ∙ length-set xs i (get_or xs j d)

apart_at : (xs : List (ℕ × ℕ)) (m n : ℕ) (d x y : ℕ × ℕ) → AllApart xs → m ≢ n → m < length xs → n < length xs → x ≡ get_or xs m d → y ≡ get_or xs n d → IsApart x y
apart_at xs m n d x y all ne hm hn ex ey = rw (ex, ey) (all.apart m n d ne hm hn)

-- ranges stay apart where two of them are exchanged
all_apart_exchanged : (xs : List (ℕ × ℕ)) (i j : ℕ) → i < length xs → j < length xs → AllApart xs → AllApart (swap xs i j)
unfolding Stood
all_apart_exchanged xs i j hi hj all =
    let len = length-exchanged xs i j hi hj in
    record { apart = λ k l d ne hk hl. both k l d ne (omega arith) (omega arith) (stood xs i j k d hi hj) (stood xs i j l d hi hj) }
  where
    both : (k l : ℕ) (d : ℕ × ℕ) → k ≢ l → k < length xs → l < length xs → Stood xs i j k d → Stood xs i j l d → IsApart (get_or (swap xs i j) k d) (get_or (swap xs i j) l d)
    both k l d ne hk hl (inl v) (inl w) = absurd (ne (v.0 ∙ sym w.0))
    both k l d ne hk hl (inl v) (inr (inl w)) = apart_at xs i j d _ _ all (λ q. w.0 (w.1 ∙ q)) hi hj v.1 w.2
    both k l d ne hk hl (inl v) (inr (inr w)) = apart_at xs i l d _ _ all (λ q. w.1 (sym q)) hi hl v.1 w.2
    both k l d ne hk hl (inr (inl v)) (inl w) = apart_at xs j i d _ _ all (λ q. v.0 (v.1 ∙ sym q)) hj hi v.2 w.1
    both k l d ne hk hl (inr (inl v)) (inr (inl w)) = absurd (ne (v.1 ∙ sym w.1))
    both k l d ne hk hl (inr (inl v)) (inr (inr w)) = apart_at xs j l d _ _ all (λ q. w.0 (sym q)) hj hl v.2 w.2
    both k l d ne hk hl (inr (inr v)) (inl w) = apart_at xs k i d _ _ all v.1 hk hi v.2 w.1
    both k l d ne hk hl (inr (inr v)) (inr (inl w)) = apart_at xs k j d _ _ all v.0 hk hj v.2 w.2
    both k l d ne hk hl (inr (inr v)) (inr (inr w)) = apart_at xs k l d _ _ all ne hk hl v.2 w.2

-- a range does not end before it begins
range_up : (h : ProgramHeader) → (memory_range h).0 ≤ (memory_range h).1
unfolding memory_range
range_up h = step (fills h)
  where
    step : (b : Bool) → (cond {A = ℕ × ℕ} b (h.vaddr, h.vaddr + h.memsz) (0, 0)).0 ≤ (cond {A = ℕ × ℕ} b (h.vaddr, h.vaddr + h.memsz) (0, 0)).1
    step true = omega arith
    step false = omega arith

range_fills : (h : ProgramHeader) → h.kind ≡ 1 → 0 < h.memsz → memory_range h ≡ (h.vaddr, h.vaddr + h.memsz)
unfolding memory_range
range_fills h k m =
    let a : eqb h.kind 1 ≡ true = eq-eqb h.kind 1 k in
    let b : ltb 0 h.memsz ≡ true = lt-ltb 0 h.memsz m in
    rw (a, b) refl

clash : (g h : ProgramHeader) → Meet g h → IsApart (memory_range g) (memory_range h) → ⊥
unfolding IsApart
clash g h m a = go (rw (range_fills g m.first_loads m.first_fills, range_fills h m.second_loads m.second_fills) at a)
  where
    go : IsApart (g.vaddr, g.vaddr + g.memsz) (h.vaddr, h.vaddr + h.memsz) → ⊥
    go (inl x) = let p = m.second_begins in omega arith
    go (inr x) = let p = m.first_begins in omega arith

-- headers whose ranges, in some order, follow each other do not meet
pub none_meet : (hs : List ProgramHeader) (rs ys : List (ℕ × ℕ)) → rs ≡ map memory_range hs → IsPermutation rs ys → AllAdjacentBelow (λ r s. r.1 ≤ s.0) ys (length ys) → NoneMeet (header_in hs) (length hs)
none_meet hs rs ys e perm next =
    let at : (k : ℕ) (d : ℕ × ℕ) → k < length hs → get_or rs k d ≡ memory_range (header_in hs k) = λ k d h. rw e (get_or-map memory_range hs k no_header d h) in
    let len : length rs ≡ length hs = ap length e ∙ length-map hs memory_range in
    let up : All (λ r. r.0 ≤ r.1) rs = λ k d h. rw (at k d (omega arith)) (range_up (header_in hs k)) in
    let ordered = all_apart_from_following ys (All-permutation (λ r. r.0 ≤ r.1) rs ys perm up) next in
    let all : AllApart rs = IsPermutation-keeps ys AllApart ordered all_apart_exchanged rs (IsPermutation-sym rs ys perm) in
    record {
      apart = λ a b h1 h2 m.
          let d : ℕ × ℕ = (0, 0) in
          let x : IsApart (get_or rs a d) (get_or rs b d) = all.apart a b d (λ q. omega arith) (omega arith) (omega arith) in
          clash (header_in hs a) (header_in hs b) m (rw (at a d (omega arith), at b d h2) at x);
    }
