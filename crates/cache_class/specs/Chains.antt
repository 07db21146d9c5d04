-- The loops that have each node, in the order in which they lie within one another. This project's own.
use Rattle.std.specs.Prelude.{◌≡◌, ◌↔◌, ◌<◌, ◌⊎◌, ℕ, Bool, true, if◌then◌else◌, List, [], ◌∷◌, ◌++◌, length, AllPairs, Contains, slice_get, Option, Some, None}
use Rattle.std.specs.Global.{Vec}
use Rattle.std.specs.List.{filter}
use Rattle.std.specs.Option.{option_and_then}
use Rattle.cache_ages.specs.Bounds.{is_one_of}
use Rattle.flow_ctx.specs.declared.scope.Scope.TheVariants.{Loop}
use Rattle.flow_ctx.specs.declared.unfolded.Unfolded.{Unfolded}
use Rattle.cache_class.specs.declared.chains.Chains.{Chains}
use Rattle.cache_class.specs.Accesses.{part_of}
use Rattle.cache_class.specs.Classes.{size_of, IsOutside}

-- whether the loop with a number has the node
abbrev pub has_node : Unfolded → ℕ → ℕ → Bool
has_node u node number = is_one_of (part_of u (Loop number)).members node

-- the loop has more nodes than `size`, or as many and one of the first `count` numbers
abbrev pub IsLarge : Unfolded → ℕ → ℕ → ℕ → Type 0
IsLarge u size count number = (size < size_of u (Loop number)) ⊎ ((size_of u (Loop number) ≡ size) × (number < count))

-- the loops that are so large, each once, the outer before the inner
pub record AreListed (u : Unfolded) (size count : ℕ) (order : List ℕ) : Type 0 where
  pub outside_in : AllPairs (λ k m. IsOutside u (Loop k) (Loop m)) order
  pub exact : (number : ℕ) → Contains order number ↔ ((number < length u.loops) × IsLarge u size count number)

-- all loops, each once, the outer before the inner
pub record AreOrdered (u : Unfolded) (order : List ℕ) : Type 0 where
  pub outside_in : AllPairs (λ k m. IsOutside u (Loop k) (Loop m)) order
  pub exact : (number : ℕ) → Contains order number ↔ (number < length u.loops)

-- for each node those of some loops that have it
pub record AreChains (u : Unfolded) (order : List ℕ) (chains : List (Vec ℕ)) : Type 0 where
  pub long : length chains ≡ length u.nodes
  pub each : (node : ℕ) (chain : Vec ℕ) → slice_get chains node ≡ Some chain → chain.items ≡ filter (has_node u node) order

-- if the two loops share a node, the first has all nodes of the second
abbrev pub HasWithin : Unfolded → ℕ → ℕ → Type 0
HasWithin u outer inner =
    (node other : ℕ) → has_node u node outer ≡ true → has_node u node inner ≡ true → has_node u other inner ≡ true → has_node u other outer ≡ true

-- the chains of all nodes
pub record AreChainsOf (u : Unfolded) (made : Chains) : Type 0 where
  pub order : List ℕ
  pub ordered : AreOrdered u order
  pub chains : AreChains u order made.loops.items
  pub nested : made.are_nested ≡ true → AllPairs (HasWithin u) order

-- the chain of a node: the loops that have it, the outer before the inner
pub record IsChain (u : Unfolded) (nested : Bool) (node : ℕ) (chain : List ℕ) : Type 0 where
  pub outside_in : AllPairs (λ k m. IsOutside u (Loop k) (Loop m)) chain
  pub exact : (number : ℕ) → Contains chain number ↔ ((number < length u.loops) × (has_node u node number ≡ true))
  pub within : nested ≡ true → AllPairs (HasWithin u) chain

-- the last number of a list
abbrev pub last_of : List ℕ → Option ℕ
last_of [] = None
last_of (x ∷ []) = Some x
last_of (x ∷ y ∷ numbers) = last_of (y ∷ numbers)

-- the last loop in the chain of a node
abbrev pub last_at : List (Vec ℕ) → ℕ → Option ℕ
last_at chains node = option_and_then (λ chain. last_of chain.items) (slice_get chains node)

-- the chains of some nodes end in the same loop
abbrev pub AreAlike : List (Vec ℕ) → List ℕ → Type 0
AreAlike chains nodes = (node other : ℕ) → Contains nodes node → Contains nodes other → last_at chains node ≡ last_at chains other

-- the number stands behind the others in the chains of some nodes
pub record IsPushed (nodes : List ℕ) (number : ℕ) (old new : List (Vec ℕ)) : Type 0 where
  pub long : length new ≡ length old
  pub each : (node : ℕ) (before after : Vec ℕ) → slice_get old node ≡ Some before → slice_get new node ≡ Some after
      → after.items ≡ (if is_one_of nodes node then before.items ++ number ∷ [] else before.items)

-- chains without loops
pub record AreEmpty (count : ℕ) (chains : List (Vec ℕ)) : Type 0 where
  pub long : length chains ≡ count
  pub each : (node : ℕ) (chain : Vec ℕ) → slice_get chains node ≡ Some chain → chain.items ≡ []
