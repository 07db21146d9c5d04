-- Addresses by their parts: the base with what closes it, and the offset with what ends it.
use Rattle.std.proofs.Common.{◌≡◌, ℕ, ◌<◌, ◌^◌, Bool, true, List, [], ◌∷◌, ◌++◌, length, get_or, drop, codes, refl, sym, ◌∙◌, ap, arith}
use Rattle.std.proofs.lemmas.List.{append-nil, append_assoc, append_cancel_right}
use Rattle.std.proofs.lemmas.Str.Parse.{tells_digits}
use Rattle.std.proofs.lemmas.Fmt.{decimal_is_IsNumeral}
use Rattle.std.specs.Str.Parse.{AllDigits}
use Rattle.wx_text.specs.Decimal.{decimal}
use Rattle.arm_code.specs.declared.insn.Index.{Index}
use Rattle.arm_code.specs.declared.insn.Index.TheVariants.{Plain, Pre, Post}
use Rattle.arm_text.specs.Names.{register_name}
use Rattle.arm_text.specs.Text.{further, sign, shift_text, shifted_text, address_text}
use Rattle.arm_text.specs.Mnemonics.{is_without}
use Rattle.arm_text.proofs.Distinct.{register_without, closed_without, register_no_bracket}
use Rattle.arm_text.proofs.Shapes.{parted}

abbrev pub head_of : Index → ℕ → List ℕ
head_of Plain base = register_name base
head_of Pre base = register_name base
head_of Post base = register_name base ++ codes "]"

abbrev pub rest_of : Index → List ℕ → List ℕ
rest_of Plain by = by ++ codes "]"
rest_of Pre by = by ++ codes "]!"
rest_of Post by = by

pub address_is : (index : Index) (base : ℕ) (by text : List ℕ) → text ≡ address_text index base by → text ≡ 91 ∷ (head_of index base ++ further (rest_of index by))
address_is Plain base by text same = same ∙ simp append_assoc
address_is Pre base by text same = same ∙ simp append_assoc
address_is Post base by text same =
    same ∙ append-nil (codes "[" ++ register_name base ++ codes "], " ++ by) ∙ simp append_assoc

pub head_without : (index : Index) (base : ℕ) → base < 16 → is_without 44 (head_of index base) ≡ true
head_without Plain base below = register_without base below
head_without Pre base below = register_without base below
head_without Post base below = closed_without base below

-- the last byte of a text
last_by : ℕ → List ℕ → ℕ
last_by d [] = d
last_by d (x ∷ xs) = last_by x xs

last_is : (d a : ℕ) (xs : List ℕ) → last_by d (xs ++ a ∷ []) ≡ a
unfolding last_by
last_is d a [] = refl
last_is d a (x ∷ xs) = last_is x a xs

pub one_last : (a b : ℕ) (xs ys : List ℕ) → xs ++ a ∷ [] ≡ ys ++ b ∷ [] → a ≡ b
one_last a b xs ys same = sym (last_is 0 a xs) ∙ ap (last_by 0) same ∙ last_is 0 b ys

-- no offset that ends with a bracket ends with a mark too
pub not_marked : (by other : List ℕ) → by ++ codes "]" ≡ other ++ codes "]!" → ⊥
not_marked by other same =
    let bytes = one_last 93 33 by (other ++ codes "]") (same ∙ sym (append_assoc other (codes "]") (codes "!"))) in
    omega (arith, bytes)

-- a number begins with a digit
first_digit : (ds : List ℕ) → 0 < length ds → AllDigits 10 ds → 47 < get_or ds 0 0
first_digit [] some digits = absurd (omega arith)
first_digit (c ∷ cs) some digits = let first = (tells_digits.parts c cs digits).0 in omega arith

pub no_sign : (n : ℕ) → n < 2 ^ 32 → get_or (decimal n) 0 0 ≡ 45 → ⊥
no_sign n small dash =
    let numeral = (decimal_is_IsNumeral n (omega arith)).0 in
    let first = first_digit (decimal n) numeral.0 numeral.1 in
    omega arith

pub signed_register : (up : Bool) (register kind amount : ℕ) → sign up ++ register_name register ++ shift_text kind amount ≡ sign up ++ shifted_text register kind amount
signed_register up register kind amount = append_assoc (sign up) (register_name register) (shift_text kind amount)

-- what stands behind the first bracket
pub record IsSplit (index : Index) (base : ℕ) (by behind : List ℕ) : Type 0 where
  pub without : is_without 44 (head_of index base) ≡ true
  pub parts : behind ≡ head_of index base ++ further (rest_of index by)

pub split_is : (index : Index) (base : ℕ) (by text bracket behind : List ℕ) → base < 16 → text ≡ address_text index base by → bracket ≡ codes "[" → text ≡ bracket ++ behind → IsSplit index base by behind
split_is index base by text bracket behind below same is found = record {
  without = head_without index base below;
  parts = ap (drop 1) (sym (found ∙ ap (λ b. b ++ behind) is) ∙ address_is index base by text same);
}

-- a register alone is not closed
pub not_closed : (base : ℕ) (head other bracket : List ℕ) → base < 16 → head ≡ register_name base → bracket ≡ codes "]" → head ≡ other ++ bracket → ⊥
not_closed base head other bracket below is closed found =
    parted 93 (register_name base) other [] (register_no_bracket base below) (sym is ∙ found ∙ ap (λ b. other ++ b) closed)

-- what stands before an end, by its name or as it was found
pub cut : (text other by bracket end : List ℕ) → text ≡ by ++ end → bracket ≡ end → text ≡ other ++ bracket → other ≡ by
cut text other by bracket end is closed found =
    append_cancel_right other by end (sym (ap (λ b. other ++ b) closed) ∙ sym found ∙ is)

pub ends : (text by bracket end : List ℕ) → text ≡ by ++ end → bracket ≡ end → text ≡ by ++ bracket
ends text by bracket end is closed = is ∙ ap (λ b. by ++ b) (sym closed)

pub not_marked_at : (text other by bracket : List ℕ) → text ≡ by ++ codes "]" → bracket ≡ codes "]!" → text ≡ other ++ bracket → ⊥
not_marked_at text other by bracket is closed found =
    not_marked by other (sym is ∙ found ∙ ap (λ b. other ++ b) closed)
