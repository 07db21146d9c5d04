-- What comparisons of numbers say.
use Rattle.std.proofs.Common.{◌≡◌, ℕ, ◌<◌, ◌≤◌, arith}
use Rattle.std.proofs.lemmas.Bool.Decides.{nat_tests}
use Rattle.std.specs.Ordering.{nat_cmp, ordering_index}
use Rattle.std.specs.declared.cmp.Ordering.TheVariants.{Less, Equal, Greater}

-- what a comparison says
pub equal_is : (x y : ℕ) → nat_cmp x y ≡ Equal → x ≡ y
equal_is x y e = grind (arith, nat_tests)

pub less_is : (x y : ℕ) → nat_cmp x y ≡ Less → x < y
less_is x y e = grind (arith, nat_tests)

pub greater_is : (x y : ℕ) → nat_cmp x y ≡ Greater → y < x
greater_is x y e = grind (arith, nat_tests)

-- comparisons with one number rise with the other
pub rises : (x y to : ℕ) → x ≤ y → ordering_index (nat_cmp x to) ≤ ordering_index (nat_cmp y to)
rises x y to h = grind (arith, nat_tests)
