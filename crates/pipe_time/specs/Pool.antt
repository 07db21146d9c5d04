-- Lists of different vectors that grow at their end. This project's own.
use Rattle.std.specs.Prelude.{◌≡◌, ℕ, ◌<◌, ◌≤◌, List, [], ◌∷◌, ◌++◌, length, slice_get, Some}
use Rattle.pipe_time.specs.declared.vector.Vector.{Vector}

-- the vector stands at the place of the new list; it was added last exactly where the old one lacks it
pub record Stands (old new : List Vector) (v : Vector) (place : ℕ) : Type 0 where
  pub at : slice_get new place ≡ Some v
  pub found : place < length old → new ≡ old
  pub added : length old ≤ place → (place ≡ length old) × (new ≡ old ++ v ∷ [])
