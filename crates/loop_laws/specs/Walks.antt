-- Walks over an unfolding from any of its nodes, and where they lie. This project's own.
use Rattle.std.specs.Prelude.{◌≡◌, ℕ, List, [], ◌∷◌, Contains, slice_get, Some}
use Rattle.flow_ctx.specs.declared.unfolded.Edge.{Edge}
use Rattle.flow_ctx.specs.declared.unfolded.ULoop.{ULoop}
use Rattle.flow_ctx.specs.declared.unfolded.Unfolded.{Unfolded}

-- A walk from one node to another along edges with these numbers, in their order: each begins where the one before it
-- ends. It is closed if both nodes are the same.
pub data IsWalkFrom (u : Unfolded) : ℕ → List ℕ → ℕ → Type 0 where
  ends : (node : ℕ) → IsWalkFrom u node [] node
  goes : (number : ℕ) (edge : Edge) (walk : List ℕ) (node : ℕ) → slice_get u.edges number ≡ Some edge
      → IsWalkFrom u edge.to walk node → IsWalkFrom u edge.from (number ∷ walk) node

-- some loop has the sources of all edges of a walk among its members
pub record LiesInLoop (u : Unfolded) (walk : List ℕ) : Type 0 where
  pub loop : ULoop
  pub listed : Contains u.loops loop
  pub sources : (number : ℕ) (edge : Edge) → Contains walk number → slice_get u.edges number ≡ Some edge
      → Contains loop.members edge.from
