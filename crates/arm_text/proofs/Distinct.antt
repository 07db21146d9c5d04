-- Names of registers and suffixes of conditions tell themselves apart, and hold no separator.
use Rattle.std.proofs.Common.{◌≡◌, ℕ, suc, ◌<◌, ◌≤◌, ◌-◌, Bool, List, [], ◌∷◌, ◌++◌, codes, length, drop, length-append, get_or, eqb, ltb, leb, true, refl, sym, ◌∙◌, ap, subst, arith}
use Rattle.std.specs.Prelude.{position, unwrap_or}
use Rattle.std.specs.List.{list_all, range_with_len}
use Rattle.std.specs.Str.{bytes_eq}
use Rattle.std.proofs.Math.ListN.{get_or-append}
use Rattle.std.proofs.lemmas.Bool.{eqb-true, ltb-true, leb-true}
use Rattle.arm_text.specs.Names.{register_name, register_names, condition_suffix, condition_suffixes}
use Rattle.arm_text.specs.Mnemonics.{is_without}
use Rattle.arm_text.proofs.Below.{below_all}

-- a test that says yes of each register says it of one of them
each_register : (test : ℕ → Bool) → list_all test (range_with_len 0 16) ≡ true → (k : ℕ) → k < 16 → test k ≡ true
each_register test all = below_all test 16 all

-- the register that a text names, 16 where it names none
abbrev register_or_16 : List ℕ → ℕ
register_or_16 text = unwrap_or (position (λ name. bytes_eq name text) register_names) 16

register_is : (k : ℕ) → k < 16 → register_or_16 (register_name k) ≡ k
register_is k below = eqb-true _ k (each_register (λ k. eqb (register_or_16 (register_name k)) k) refl k below)

pub one_register_of : (a b : ℕ) → a < 16 → b < 16 → register_name a ≡ register_name b → a ≡ b
one_register_of a b below_a below_b same = sym (register_is a below_a) ∙ ap register_or_16 same ∙ register_is b below_b

-- the condition whose suffix a text is, 14 where it is none
abbrev condition_or_14 : List ℕ → ℕ
condition_or_14 text = unwrap_or (position (λ name. bytes_eq name text) condition_suffixes) 14

condition_is : (k : ℕ) → k < 14 → condition_or_14 (condition_suffix k) ≡ k
condition_is k below = eqb-true _ k (below_all (λ k. eqb (condition_or_14 (condition_suffix k)) k) 14 refl k below)

pub one_condition_of : (a b : ℕ) → a < 14 → b < 14 → condition_suffix a ≡ condition_suffix b → a ≡ b
one_condition_of a b below_a below_b same = sym (condition_is a below_a) ∙ ap condition_or_14 same ∙ condition_is b below_b

-- no name of a register holds a comma, a bracket or the mark of a changed base
pub register_without : (k : ℕ) → k < 16 → is_without 44 (register_name k) ≡ true
register_without = each_register (λ k. is_without 44 (register_name k)) refl

pub register_no_bracket : (k : ℕ) → k < 16 → is_without 93 (register_name k) ≡ true
register_no_bracket = each_register (λ k. is_without 93 (register_name k)) refl

pub register_no_mark : (k : ℕ) → k < 16 → is_without 33 (register_name k) ≡ true
register_no_mark = each_register (λ k. is_without 33 (register_name k)) refl

pub closed_without : (k : ℕ) → k < 16 → is_without 44 (register_name k ++ codes "]") ≡ true
closed_without = each_register (λ k. is_without 44 (register_name k ++ codes "]")) refl

pub marked_without : (k : ℕ) → k < 16 → is_without 44 (register_name k ++ codes "!") ≡ true
marked_without = each_register (λ k. is_without 44 (register_name k ++ codes "!")) refl

pub register_length : (k : ℕ) → k < 16 → 2 ≤ length (register_name k)
register_length k below = leb-true 2 _ (each_register (λ k. leb 2 (length (register_name k))) refl k below)

-- a register's name begins with a letter
pub register_letter : (k : ℕ) → k < 16 → 96 < get_or (register_name k) 0 0
register_letter k below = ltb-true 96 _ (each_register (λ k. ltb 96 (get_or (register_name k) 0 0)) refl k below)

pub register_front : (k : ℕ) (tail : List ℕ) → k < 16 → 96 < get_or (register_name k ++ tail) 0 0
register_front k tail below =
    let long : 2 ≤ length (register_name k) = register_length k below in
    subst (λ first. 96 < first) (sym (get_or-append (register_name k) tail 0 0 (omega arith))) (register_letter k below)

-- the last two letters of a register's name tell it
abbrev end_of : List ℕ → List ℕ
end_of text = drop (length text - 2) text

abbrev register_of_end : List ℕ → ℕ
register_of_end end = unwrap_or (position (λ name. bytes_eq (end_of name) end) register_names) 16

register_of_its_end : (k : ℕ) → k < 16 → register_of_end (end_of (register_name k)) ≡ k
register_of_its_end k below = eqb-true _ k (each_register (λ k. eqb (register_of_end (end_of (register_name k))) k) refl k below)

end_is : (head name : List ℕ) → 2 ≤ length name → end_of (head ++ name) ≡ end_of name
end_is [] name two = refl
end_is (x ∷ xs) name two =
    let size = length-append xs name in
    let e : suc (length (xs ++ name)) - 2 ≡ suc (length (xs ++ name) - 2) = omega arith in
    rw e (end_is xs name two)

pub one_end : (a b : ℕ) (s t : List ℕ) → a < 16 → b < 16 → s ++ register_name a ≡ t ++ register_name b → a ≡ b
one_end a b s t below_a below_b same =
    let ends : end_of (register_name a) ≡ end_of (register_name b) =
    sym (end_is s (register_name a) (register_length a below_a)) ∙ ap end_of same ∙ end_is t (register_name b) (register_length b below_b) in
    sym (register_of_its_end a below_a) ∙ ap register_of_end ends ∙ register_of_its_end b below_b
