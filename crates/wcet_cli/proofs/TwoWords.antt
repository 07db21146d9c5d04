-- Lists of two.
use Rattle.std.proofs.Common.{◌≡◌, List, [], ◌∷◌, length, get_or, arith}

pub two : {X : Type 0} (xs : List X) (a b : X) → length xs ≡ 2 → a ≡ get_or xs 0 a → b ≡ get_or xs 1 b → xs ≡ a ∷ b ∷ []
two [] a b e p q = absurd (omega arith)
two (x ∷ []) a b e p q = absurd (omega arith)
two (x ∷ y ∷ []) a b e p q = cc
two (x ∷ y ∷ z ∷ xs) a b e p q = absurd (omega arith)
