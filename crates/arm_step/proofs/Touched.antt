-- Which bytes of an access lie in a range of addresses.
use Rattle.std.proofs.Common.{◌≡◌, ℕ, zero, suc, ◌+◌, ◌-◌, ◌<◌, ◌≤◌, ◌^◌, Bool, true, false, ◌&&◌, ◌||◌, List, [], ◌∷◌, leb, refl, sym, ap, ◌∙◌, arith}
use Rattle.std.proofs.lemmas.Bool.Decides.{nat_tests}
use Rattle.std.specs.List.{list_any, range_with_len}
use Rattle.wx_base.specs.declared.machine.Machine.{Machine}
use Rattle.wx_base.specs.declared.machine.Region.{Region}
use Rattle.wx_base.specs.declared.image.Image.{Image}
use Rattle.wx_base.specs.Bits.{add_words}
use Rattle.wx_base.specs.Image.{spans}
use Rattle.wx_base.specs.Transfer.{any_byte, lies_in, is_slow_access, meets_code}
use Rattle.arm_step.specs.Ranges.{is_within, meets}

-- one byte more in front: it lies in the range, or the range begins behind it
one_more : (first size a n : ℕ) → first < 2 ^ 32 → a < 2 ^ 32 → n < 2 ^ 32
    → (is_within first size a || meets first size (add_words a 1) n) ≡ meets first size a (suc n)
one_more first size a n h k m = grind (arith, nat_tests)

behind : (a k : ℕ) → add_words a (k + 1) ≡ add_words (add_words a k) 1
behind a k = omega arith

from : (first size a k n : ℕ) → first < 2 ^ 32 → n ≤ 2 ^ 32
    → list_any (λ j. is_within first size (add_words a j)) (range_with_len k n) ≡ meets first size (add_words a k) n
from first size a k zero h few = refl
from first size a k (suc n) h few =
    ap (λ b. is_within first size (add_words a k) || b) (from first size a (k + 1) n h (omega arith) ∙ ap (λ b. meets first size b n) (behind a k))
    ∙ one_more first size (add_words a k) n h (omega arith) (omega arith)

start : (a : ℕ) → a < 2 ^ 32 → add_words a 0 ≡ a
start a h = omega arith

pub segment_is : (first size a n : ℕ) → first < 2 ^ 32 → a < 2 ^ 32 → n ≤ 2 ^ 32 → meets first size a n ≡ any_byte a n (is_within first size)
segment_is first size a n h k few = sym (from first size a 0 n h few ∙ ap (λ b. meets first size b n) (start a k))

any_same : (f g : ℕ → Bool) (ks : List ℕ) → ((k : ℕ) → f k ≡ g k) → list_any f ks ≡ list_any g ks
any_same f g [] h = refl
any_same f g (k ∷ ks) h = λ i. h k i || any_same f g ks h i

in_region : (first last a : ℕ) → is_within first (last + 1 - first) a ≡ (leb first a && leb a last)
in_region first last a = grind (arith, nat_tests)

pub region_is : (region : Region) (a n : ℕ) → region.first < 2 ^ 32 → a < 2 ^ 32 → n ≤ 2 ^ 32
    → meets region.first (region.last + 1 - region.first) a n ≡ any_byte a n (lies_in region)
region_is region a n h k few =
    segment_is region.first (region.last + 1 - region.first) a n h k few
    ∙ any_same _ _ (range_with_len 0 n) (λ j. in_region region.first region.last (add_words a j))

-- one after the other, or together
or_both : (a b c d : Bool) → ((a || b) || (c || d)) ≡ ((a || c) || (b || d))
or_both true b c d = refl
or_both false true true d = refl
or_both false true false d = refl
or_both false false c d = refl

any_or : (f g : ℕ → Bool) (ks : List ℕ) → list_any (λ k. f k || g k) ks ≡ (list_any f ks || list_any g ks)
any_or f g [] = refl
any_or f g (k ∷ ks) = ap (λ b. (f k || g k) || b) (any_or f g ks) ∙ or_both (f k) (g k) (list_any f ks) (list_any g ks)

any_none : (ks : List ℕ) → list_any (λ k. false) ks ≡ false
any_none [] = refl
any_none (k ∷ ks) = any_none ks

any_and : (s : Bool) (f : ℕ → Bool) (ks : List ℕ) → list_any (λ k. s && f k) ks ≡ (s && list_any f ks)
any_and true f ks = refl
any_and false f ks = any_none ks

-- some byte lies in some part that counts, exactly if some part that counts has some byte
exchanged : {X : Type 0} (counts : X → Bool) (test : X → ℕ → Bool) (xs : List X) (ks : List ℕ)
    → list_any (λ k. list_any (λ x. counts x && test x k) xs) ks ≡ list_any (λ x. counts x && list_any (test x) ks) xs
exchanged counts test [] ks = any_none ks
exchanged counts test (x ∷ xs) ks =
    any_or (λ k. counts x && test x k) (λ k. list_any (λ x. counts x && test x k) xs) ks
    ∙ (λ i. any_and (counts x) (test x) ks i || exchanged counts test xs ks i)

pub code_met : (image : Image) (a n : ℕ) → list_any (λ segment. segment.code && any_byte a n (λ address. spans address segment)) image.segments ≡ meets_code image a n
unfolding meets_code
code_met image a n = sym (exchanged (λ segment. segment.code) (λ segment k. spans (add_words a k) segment) image.segments (range_with_len 0 n))

pub slow_met : (machine : Machine) (a n : ℕ) → list_any (λ region. region.slow && any_byte a n (lies_in region)) machine.regions ≡ is_slow_access machine a n
unfolding is_slow_access
slow_met machine a n = sym (exchanged (λ region. region.slow) (λ region k. lies_in region (add_words a k)) machine.regions (range_with_len 0 n))
