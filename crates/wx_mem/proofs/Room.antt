-- Whether a map has room for bytes one behind another.
use Rattle.std.proofs.Common.{◌≡◌, ℕ, ◌+◌, ◌<◌, ◌≤◌, ◌^◌, inl, inr, Bool, true, false, cond, ◌&&◌, List, Option, Some, None, Result, Ok, Err, IsOk, OnErr, eqb, ltb, is_some, sym, ap, ◌∙◌, subst, refl, arith}
use Rattle.std.proofs.lemmas.Bool.{cases_eq, false≢true, lt-ltb}
use Rattle.std.proofs.lemmas.Bool.Decides.{nat_tests}
use Rattle.std.specs.FinMap as map
use Rattle.std.specs.Ordering.{nat_cmp}
use Rattle.std.specs.Map.{lookup}
use Rattle.wx_base.specs.Bits.{add_words, sub_words}
use Rattle.wx_base.specs.State.{is_among}
use Rattle.wx_mem.specs.Memory.{Written, HasAll, HasRoom}
use Rattle.wx_mem.proofs.Entries.{found}

both : (a b : Bool) → (a && b) ≡ true → (a ≡ true) × (b ≡ true)
both true b e = (refl, e)
both false b e = absurd (false≢true e)

-- an address among some is a word, and stands by less than their number behind the first
is_near : (first count q : ℕ) → is_among first count q ≡ true → (q < 2 ^ 32) × (sub_words q first < count)
is_near first count q e =
    let p = both (ltb q (2 ^ 32)) (ltb (sub_words q first) count) e in
    let word : ltb q (2 ^ 32) ≡ true = p.0 in
    let near : ltb (sub_words q first) count ≡ true = p.1 in
    (below q (2 ^ 32) word, below (sub_words q first) count near)
  where
    below : (a b : ℕ) → ltb a b ≡ true → a < b
    below a b e = grind (arith, nat_tests)

pub none_yet : (written : Written) (first : ℕ) → HasAll written first 0
none_yet written first = record { each = λ q e. let n = (is_near first 0 q e).1 in absurd (omega arith) }

same_place : (first i q : ℕ) → first < 2 ^ 32 → q < 2 ^ 32 → i < 64 → sub_words q first ≡ i → q ≡ add_words first i
same_place first i q h k few e = omega arith

-- one address more
pub one_more : (written : Written) (first i at : ℕ) → first < 2 ^ 32 → i < 64 → at ≡ add_words first i → map.contains_key written at ≡ true → HasAll written first i → HasAll written first (i + 1)
one_more written first i at h few is there all = record {
  each = λ q e.
      let n = is_near first (i + 1) q e in
      elim (cases_eq (sub_words q first) i) [
        | inl last ↦ subst (λ (k : ℕ). map.contains_key written k ≡ true) (is ∙ sym (same_place first i q h n.0 few last)) there
        | inr other ↦ all.each q (among first i q n.0 (omega (arith, n.1)))
      ];
}
  where
    among : (first i q : ℕ) → q < 2 ^ 32 → sub_words q first < i → is_among first i q ≡ true
    among first i q word near = rw (lt-ltb q (2 ^ 32) word, lt-ltb (sub_words q first) i near) refl

placed : (first i : ℕ) → first < 2 ^ 32 → i < 64 → sub_words (add_words first i) first ≡ i
placed first i h few = omega arith

-- an address at a place is among them
pub at_place : (first count i at : ℕ) → first < 2 ^ 32 → count ≤ 64 → i < count → at ≡ add_words first i → is_among first count at ≡ true
at_place first count i at h few less is =
    let word : at < 2 ^ 32 = omega arith in
    let near : sub_words at first ≡ i = ap (λ (k : ℕ). sub_words k first) is ∙ placed first i h (omega arith) in
    let below : sub_words at first < count = omega arith in
    rw (lt-ltb at (2 ^ 32) word, lt-ltb (sub_words at first) count below) refl

pub next_place : (first i at : ℕ) → at ≡ add_words first i → add_words at 1 ≡ add_words first (i + 1)
next_place first i at is = omega arith

-- a map stays with all of them when a byte is put into it
pub still_all : (es fs : List (ℕ × ℕ)) (k v first count : ℕ) → ((q : ℕ) → lookup (eqb q) fs ≡ cond (eqb k q) (Some v) (lookup (eqb q) es)) → HasAll (map.from_entries es) first count → HasAll (map.from_entries fs) first count
still_all es fs k v first count h all = record {
  each = λ q e. ap is_some (found fs q ∙ h q) ∙ or_there (eqb k q) v (lookup (eqb q) es) (ap is_some (sym (found es q)) ∙ all.each q e);
}
  where
    or_there : (b : Bool) (v : ℕ) (o : Option ℕ) → is_some o ≡ true → is_some (cond b (Some v) o) ≡ true
    or_there true v o e = refl
    or_there false v o e = e

-- what holds anyhow holds of an error
pub anyhow : {T E P : Type 0} (r : Result T E) → P → OnErr r P
anyhow (Ok x) p = tt
anyhow (Err e) p = p

-- what is not refused goes
pub goes : {T E : Type 0} (r : Result T E) (es : List (ℕ × ℕ)) (k : ℕ) → OnErr r (lookup (eqb k) es ≡ None) → map.contains_key (map.from_entries {R = nat_cmp} es) k ≡ true → IsOk r
goes (Ok x) es k none there = refl
goes (Err e) es k none there = absurd (false≢true (sym (ap is_some (found es k ∙ none)) ∙ there))

-- room for all, before the first is put
pub begun : (spare : ℕ) (written : Written) (first count : ℕ) → HasRoom spare written first count → HasRoom (spare + 0) written first count
begun spare written first count (inl all) = inl all
begun spare written first count (inr room) = inr (omega arith)

-- the byte at a place is put without refusal
pub goes_on : {T E : Type 0} (r : Result T E) (es : List (ℕ × ℕ)) (at first count i spare : ℕ) → first < 2 ^ 32 → count ≤ 64 → i < count → at ≡ add_words first i → HasRoom (spare + i) (map.from_entries {R = nat_cmp} es) first count
    → OnErr r (lookup (eqb at) es ≡ None) → (0 < spare → IsOk r) → IsOk r
goes_on r es at first count i spare h few less is (inl all) absent succeeds = goes r es at absent (all.each at (at_place first count i at h few less is))
goes_on r es at first count i spare h few less is (inr room) absent succeeds = succeeds (omega arith)

-- and there is room for the rest
pub one_less : (es fs : List (ℕ × ℕ)) (k v first count i before behind : ℕ) → ((q : ℕ) → lookup (eqb q) fs ≡ cond (eqb k q) (Some v) (lookup (eqb q) es)) → before ≤ behind + 1
    → HasRoom (before + i) (map.from_entries {R = nat_cmp} es) first count → HasRoom (behind + (i + 1)) (map.from_entries {R = nat_cmp} fs) first count
one_less es fs k v first count i before behind h less (inl all) = inl (still_all es fs k v first count h all)
one_less es fs k v first count i before behind h less (inr room) = inr (omega arith)
