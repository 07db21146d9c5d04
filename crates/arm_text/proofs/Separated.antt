-- Where the first separator of a text stands.
use Rattle.std.proofs.Common.{◌≡◌, ℕ, zero, suc, ◌+◌, ◌<◌, true, not, ◌==◌, List, [], ◌∷◌, ◌++◌, length, get_or, take, drop, refl, sym, ◌∙◌, ap, subst, arith}
use Rattle.std.proofs.lemmas.Bool.{and_parts}
use Rattle.std.proofs.lemmas.List.{take_at}
use Rattle.std.proofs.lemmas.Bool.Decides.{nat_tests}
use Rattle.arm_text.specs.Mnemonics.{is_without}

-- a place of the separator before which there is none
pub record IsFirst (separator at : ℕ) (text : List ℕ) : Type 0 where
  pub here : get_or text at 0 ≡ separator
  pub none_before : (k : ℕ) → k < at → get_or text k 0 ≡ separator → ⊥

pub place : (separator at : ℕ) (head tail : List ℕ) → is_without separator head ≡ true → IsFirst separator at (head ++ separator ∷ tail) → at ≡ length head
place separator zero [] tail without first = refl
place separator (suc at) [] tail without first = absurd (first.none_before 0 (omega arith) refl)
place separator zero (b ∷ head) tail without first =
    let parts = and_parts (not (b == separator)) (is_without separator head) without in
    let here : b ≡ separator = first.here in
    absurd (grind (arith, nat_tests))
place separator (suc at) (b ∷ head) tail without first =
    let parts = and_parts (not (b == separator)) (is_without separator head) without in
    let less : IsFirst separator at (head ++ separator ∷ tail) =
    record { here = first.here; none_before = λ k below same. first.none_before (suc k) (omega arith) same } in
    ap suc (place separator at head tail parts.1 less)

pub head_is : (separator at : ℕ) (text head tail : List ℕ) → is_without separator head ≡ true → text ≡ head ++ separator ∷ tail → IsFirst separator at text → take at text ≡ head
head_is separator at text head tail without is first =
    let first_there : IsFirst separator at (head ++ separator ∷ tail) = subst (λ t. IsFirst separator at t) is first in
    ap (take at) is ∙ take_at head (separator ∷ tail) at (sym (place separator at head tail without first_there))

behind_separator : (separator at : ℕ) (head tail : List ℕ) → at ≡ length head → drop (at + 1) (head ++ separator ∷ tail) ≡ tail
behind_separator separator at [] tail there = rw there refl
behind_separator separator at (b ∷ head) tail there =
    let e : at + 1 ≡ suc (length head + 1) = omega arith in
    rw e (behind_separator separator (length head) head tail refl)

pub tail_is : (separator at : ℕ) (text head tail : List ℕ) → is_without separator head ≡ true → text ≡ head ++ separator ∷ tail → IsFirst separator at text → drop (at + 1) text ≡ tail
tail_is separator at text head tail without is first =
    let first_there : IsFirst separator at (head ++ separator ∷ tail) = subst (λ t. IsFirst separator at t) is first in
    let there = place separator at head tail without first_there in
    ap (drop (at + 1)) is ∙ behind_separator separator at head tail there

pub stands : (separator : ℕ) (head tail : List ℕ) → get_or (head ++ separator ∷ tail) (length head) 0 ≡ separator
stands separator [] tail = refl
stands separator (b ∷ head) tail = stands separator head tail

pub within : (separator : ℕ) (head tail : List ℕ) → length head < length (head ++ separator ∷ tail)
within separator [] tail = omega arith
within separator (b ∷ head) tail = let h = within separator head tail in omega arith
