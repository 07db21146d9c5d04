-- Walks over an unfolding, and the stays in its scopes. The edges of a walk are given by their numbers, the one taken last first.
-- This project's own.
use Rattle.std.specs.Prelude.{◌≡◌, ℕ, ◌+◌, List, [], ◌∷◌, Contains, slice_get, Some}
use Rattle.flow_ctx.specs.declared.scope.Scope.{Scope}
use Rattle.flow_ctx.specs.declared.scope.Scope.TheVariants.{Run, Loop}
use Rattle.flow_ctx.specs.declared.unfolded.Edge.{Edge}
use Rattle.flow_ctx.specs.declared.unfolded.ULoop.{ULoop}
use Rattle.flow_ctx.specs.declared.unfolded.Unfolded.{Unfolded}

-- a walk from the start along these edges leads to the node with this number
pub data IsWalk (u : Unfolded) : List ℕ → ℕ → Type 0 where
  starts : IsWalk u [] u.start
  goes : (number : ℕ) (edge : Edge) (walk : List ℕ) → slice_get u.edges number ≡ Some edge → IsWalk u walk edge.from
      → IsWalk u (number ∷ walk) edge.to

-- Behind a walk the run stays in a loop: since it had walked so far, and with so many back edges of the loop taken in this stay.
-- A stay begins at the start if that is the loop's head, and with a move along an edge that enters the loop; it lasts as long as
-- moves lead to members.
pub data StaysInLoop (u : Unfolded) (l : ULoop) : List ℕ → List ℕ → ℕ → Type 0 where
  starts : u.start ≡ l.head → StaysInLoop u l [] [] 0
  enters : (number : ℕ) (walk : List ℕ) → Contains l.entries number → StaysInLoop u l (number ∷ walk) (number ∷ walk) 0
  repeats : (number : ℕ) (walk since : List ℕ) (count : ℕ) → StaysInLoop u l walk since count → Contains l.back number
      → StaysInLoop u l (number ∷ walk) since (count + 1)
  moves : (number : ℕ) (edge : Edge) (walk since : List ℕ) (count : ℕ) → StaysInLoop u l walk since count
      → slice_get u.edges number ≡ Some edge → (edge.to ≡ l.head → ⊥) → Contains l.members edge.to
      → StaysInLoop u l (number ∷ walk) since count

-- behind a walk the run is in the stay of a scope that began when it had walked so far; the one stay of the run is the whole run
pub data StaysIn (u : Unfolded) : Scope → List ℕ → List ℕ → Type 0 where
  run : (walk : List ℕ) → StaysIn u Run walk []
  loop : (number : ℕ) (l : ULoop) (walk since : List ℕ) (count : ℕ) → slice_get u.loops number ≡ Some l
      → StaysInLoop u l walk since count → StaysIn u (Loop number) walk since

-- how many of the edges of a walk are in a list, such as that of a loop's back edges
pub data Takes (edges : List ℕ) : List ℕ → ℕ → Type 0 where
  none : Takes edges [] 0
  one : (number : ℕ) (walk : List ℕ) (count : ℕ) → Contains edges number → Takes edges walk count
      → Takes edges (number ∷ walk) (count + 1)
  other : (number : ℕ) (walk : List ℕ) (count : ℕ) → (Contains edges number → ⊥) → Takes edges walk count
      → Takes edges (number ∷ walk) count
