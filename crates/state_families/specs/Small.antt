-- How large the slots of vectors are. This project's own.
use Rattle.std.specs.Prelude.{◌≡◌, ◌^◌, ℕ, All, List, Some, slice_get}
use Rattle.wx_base.specs.Vector.{AreWithin}
use Rattle.pipe_time.specs.declared.vector.Vector.{Vector}

-- no vector of a node has a large slot, so times that are counted from it fit their words
pub record AreSmall (vectors : List (List Vector)) : Type 0 where
  pub each : (node : ℕ) (family : List Vector) → slice_get vectors node ≡ Some family → All (λ v. AreWithin (10 ^ 18) v.slots) family
