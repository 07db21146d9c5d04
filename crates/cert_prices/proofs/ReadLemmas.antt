-- What stands at a place of a list, whatever is read past its end, and whether a number is in a list.
use Rattle.std.proofs.Common.{◌≡◌, ℕ, suc, ◌<◌, Bool, true, false, List, [], ◌∷◌, ◌||◌, eqb, length, get_or, slice_get, Some, unwrap_or, refl, subst, arith}
use Rattle.std.specs.List.{Contains, All}
use Rattle.std.proofs.lemmas.Bool.{false≢true, eqb-true}
use Rattle.std.proofs.lemmas.Option.{slice_get_read, slice_get-get_or, get_or_from_slice_get}
use Rattle.wx_base.specs.Monitor.{is_one_of}

-- within a list it does not matter what is read past its end
pub same_read : {A : Type 0} (xs : List A) (k : ℕ) (d e : A) → k < length xs → get_or xs k d ≡ get_or xs k e
same_read xs k d e h = get_or_from_slice_get xs k (get_or xs k e) d (slice_get-get_or xs k e h)

-- what all elements are, the one at a place is
pub of_all : {A : Type 0} (P : A → Type 0) (xs : List A) (k : ℕ) (x : A) → All P xs → slice_get xs k ≡ Some x → k < length xs → P x
of_all P xs k x all at h = subst P (get_or_from_slice_get xs k x x at) (all k x h)

-- a number that a list has
pub contained : (xs : List ℕ) (n : ℕ) → is_one_of xs n ≡ true → Contains xs n
contained [] n e = absurd (false≢true e)
contained (x ∷ xs) n e = by (λ f. contained xs n f) (eqb x n) refl
  where
    by : (is_one_of xs n ≡ true → Contains xs n) → (b : Bool) → eqb x n ≡ b → Contains (x ∷ xs) n
    by behind true f = (0, omega arith, eqb-true x n f)
    by behind false f =
        let rest = behind (subst (λ c. (c || is_one_of xs n) ≡ true) f e) in
        (suc rest.0, omega (arith, rest.1), rest.2)

-- the first element, or what stands for none
pub first_or : (xs : List ℕ) (d : ℕ) → unwrap_or (slice_get xs 0) d ≡ get_or xs 0 d
first_or [] d = refl
first_or (x ∷ xs) d = refl

-- an element that was read from a list by its slice
pub element : {A : Type 0} (xs slice : List A) (i : ℕ) (x : A) → slice ≡ xs → i < length slice → x ≡ get_or slice i x → slice_get xs i ≡ Some x
element xs slice i x same within is = subst (λ ys. slice_get ys i ≡ Some x) same (slice_get_read slice (length slice) i x refl within is)
