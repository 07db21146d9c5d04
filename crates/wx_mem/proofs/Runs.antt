-- What bytes that are written one behind another leave at each address.
use Rattle.std.proofs.Common.{◌≡◌, ℕ, suc, ◌+◌, ◌<◌, ◌≤◌, ◌^◌, Bool, true, false, cond, ◌&&◌, List, [], ◌∷◌, length, get_or, Option, Some, refl, sym, ap, ◌∙◌, inl, inr, arith, eqb, ltb}
use Rattle.std.proofs.lemmas.Bool.{cases_eq, cases_lt, eq-eqb, ne_eqb, le-ltb, lt-ltb}
use Rattle.std.proofs.lemmas.Bool.Decides.{nat_tests}
use Rattle.std.specs.FinMap as map
use Rattle.wx_base.specs.Bits.{add_words, sub_words}
use Rattle.wx_base.specs.State.{is_among}
use Rattle.wx_mem.specs.Memory.{Written, with_bytes}
use Rattle.wx_mem.proofs.Entries.{got}

at_first : (a q : ℕ) → q ≡ a → a < 2 ^ 32 → sub_words q a ≡ 0
at_first a q e h = omega arith

past_last : (a q : ℕ) → q ≡ a → a < 2 ^ 32 → sub_words q (add_words a 1) + 1 ≡ 2 ^ 32
past_last a q e h = omega arith

one_nearer : (a q : ℕ) → (q ≡ a → ⊥) → a < 2 ^ 32 → q < 2 ^ 32 → sub_words q a ≡ suc (sub_words q (add_words a 1))
one_nearer a q ne h k = omega arith

in_range : (a : ℕ) → add_words a 1 < 2 ^ 32
in_range a = omega arith

both_more : (a b : ℕ) → ltb (suc a) (suc b) ≡ ltb a b
both_more a b = grind (arith, nat_tests)

-- the first byte's address, which none of the others has
first_here : (d d' b : ℕ) (t : Bool) (bs : List ℕ) (o : Option ℕ) → d ≡ 0 → length bs ≤ d' → t ≡ true
    → cond (ltb d' (length bs)) (Some (get_or bs d' 0)) (cond t (Some b) o) ≡ cond (ltb d (length (b ∷ bs))) (Some (get_or (b ∷ bs) d 0)) o
first_here d d' b t bs o at_d far is = rw (at_d, le-ltb d' (length bs) far, is) (sym (ap (λ r. cond r (Some b) o) (lt-ltb 0 (suc (length bs)) (omega arith))))

-- every other address
others : (d d' b : ℕ) (t : Bool) (bs : List ℕ) (o : Option ℕ) → d ≡ suc d' → t ≡ false
    → cond (ltb d' (length bs)) (Some (get_or bs d' 0)) (cond t (Some b) o) ≡ cond (ltb d (length (b ∷ bs))) (Some (get_or (b ∷ bs) d 0)) o
others d d' b t bs o at_d is = rw (at_d, is) (ap (λ r. cond r (Some (get_or bs d' 0)) o) (sym (both_more d' (length bs))))

-- an address of 32 bits: the byte of the list at its distance from the first address, else what the map had
near : (bytes : List ℕ) (m : Written) (a q : ℕ) → a < 2 ^ 32 → q < 2 ^ 32 → length bytes ≤ 2 ^ 32
    → map.get (with_bytes m a bytes) q ≡ cond (ltb (sub_words q a) (length bytes)) (Some (get_or bytes (sub_words q a) 0)) (map.get m q)
near [] m a q h k few = rw (le-ltb (sub_words q a) 0 (omega arith)) refl
near (b ∷ bs) m a q h k few =
    near bs (map.insert m a b) (add_words a 1) q (in_range a) k (omega arith)
    ∙ ap (cond (ltb (sub_words q (add_words a 1)) (length bs)) (Some (get_or bs (sub_words q (add_words a 1)) 0))) (got m a b q)
    ∙ elim (cases_eq q a) [
      | inl e ↦ first_here (sub_words q a) (sub_words q (add_words a 1)) b (eqb q a) bs (map.get m q) (at_first a q e h) (omega (arith, past_last a q e h)) (eq-eqb q a e)
      | inr ne ↦ others (sub_words q a) (sub_words q (add_words a 1)) b (eqb q a) bs (map.get m q) (one_nearer a q ne h k) (ne_eqb q a ne)
    ]

-- no byte is written at a number that is no address of 32 bits
beyond : (bytes : List ℕ) (m : Written) (a q : ℕ) → a < 2 ^ 32 → 2 ^ 32 ≤ q → map.get (with_bytes m a bytes) q ≡ map.get m q
beyond [] m a q h k = refl
beyond (b ∷ bs) m a q h k =
    beyond bs (map.insert m a b) (add_words a 1) q (in_range a) k ∙ got m a b q
    ∙ ap (λ t. cond t (Some b) (map.get m q)) (ne_eqb q a (λ e. omega arith))

-- the byte of the list at its distance from the first address, else what the map had
pub got_with : (bytes : List ℕ) (m : Written) (a q : ℕ) → a < 2 ^ 32 → length bytes ≤ 2 ^ 32
    → map.get (with_bytes m a bytes) q ≡ cond (is_among a (length bytes) q) (Some (get_or bytes (sub_words q a) 0)) (map.get m q)
got_with bytes m a q h few = elim (cases_lt q (2 ^ 32)) [
  | inl k ↦ near bytes m a q h k few ∙ ap (λ t. cond (t && ltb (sub_words q a) (length bytes)) (Some (get_or bytes (sub_words q a) 0)) (map.get m q)) (sym (lt-ltb q (2 ^ 32) k))
  | inr k ↦ beyond bytes m a q h k ∙ ap (λ t. cond (t && ltb (sub_words q a) (length bytes)) (Some (get_or bytes (sub_words q a) 0)) (map.get m q)) (sym (le-ltb q (2 ^ 32) k))
]
