-- One more move back into a head.
use Rattle.std.proofs.Common.{◌≡◌, ℕ, Bool, true, false, cond, eqb, List, Option, Some, ap, ◌∙◌, refl}
use Rattle.std.specs.Cmp.{nat_eq_equiv}
use Rattle.std.specs.Map.{lookup}
use Rattle.std.specs.Option.{unwrap_or}
use Rattle.wx_base.specs.State.{replaced}

chosen : (b : Bool) (n : ℕ) (o : Option ℕ) → unwrap_or (cond b (Some n) o) 0 ≡ cond b n (unwrap_or o 0)
chosen true n o = refl
chosen false n o = refl

-- the counts with one of them replaced
pub counted_more : (old new : List (ℕ × ℕ)) (head n m : ℕ) → ((q : ℕ) → lookup (eqb q) new ≡ cond (eqb head q) (Some n) (lookup (eqb q) old)) → n ≡ m
    → ◌≡◌ {A = ℕ → ℕ} (λ q. unwrap_or (lookup (eqb q) new) 0) (replaced (λ q. unwrap_or (lookup (eqb q) old) 0) head m)
counted_more old new head n m updates same = λ i q. at q i
  where
    at : (q : ℕ) → unwrap_or (lookup (eqb q) new) 0 ≡ cond (eqb q head) m (unwrap_or (lookup (eqb q) old) 0)
    at q =
        ap (λ (o : Option ℕ). unwrap_or o 0) (updates q) ∙ chosen (eqb head q) n (lookup (eqb q) old)
        ∙ ap (λ (b : Bool). cond b n (unwrap_or (lookup (eqb q) old) 0)) (nat_eq_equiv.symm head q)
        ∙ ap (λ (k : ℕ). cond (eqb q head) k (unwrap_or (lookup (eqb q) old) 0)) same
