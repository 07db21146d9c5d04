-- Visits along a walk, each with the cache that the run came with, and how a run that was cut pays them.
use Rattle.std.proofs.Common.{◌≡◌, ℕ, Bool, true, List, [], ◌∷◌, slice_get}
use Rattle.std.specs.Prelude.{Some}
use Rattle.std.specs.List.{list_any}
use Rattle.wx_base.specs.declared.machine.Machine.{Machine}
use Rattle.wx_base.specs.Cache.{Lines}
use Rattle.flow_block.specs.declared.block.Slot.{Slot}
use Rattle.flow_block.specs.declared.block.SlotKind.TheVariants.{Data}
use Rattle.flow_ctx.specs.declared.unfolded.Edge.{Edge}
use Rattle.flow_ctx.specs.declared.unfolded.Unfolded.{Unfolded}
use Rattle.flow_ctx.specs.Nodes.{IsBlockOf}
use Rattle.flow_ctx.specs.Stays.{IsWalk}
use Rattle.flow_ctx.specs.Stays.IsWalk.{starts, goes}
use Rattle.cache_pers.specs.Stays.{cache_along}
use Rattle.cache_class.specs.Accesses.{lines_fetched}
use Rattle.class_laws.specs.Visits.{Visit}
use Rattle.class_laws.proofs.Caches.{outcomes}

module _ (u : Unfolded) (machine : Machine) (first : Lines) where
  -- a visit of a node, with the cache that the run came there with; nothing is slow but what may be
  pub record IsVisited (cache : Lines) (node : ℕ) (visit : Visit) : Type 0 where
    pub here : visit.node ≡ node
    pub is : IsBlockOf u node visit.block
    pub slow : ℕ → Bool
    pub come : visit.outcomes ≡ outcomes machine.shape cache slow visit.block.slots
    pub regions : (number : ℕ) (event : Slot) → slice_get visit.block.slots number ≡ Some event → event.kind ≡ Data → slow event.at ≡ true
        → list_any (λ region. region.slow) machine.regions ≡ true

  -- visits along a walk, the last one first, with the cache behind them
  pub data AreVisited : List Visit → List ℕ → ℕ → Lines → Type 0 where
    none : AreVisited [] [] u.start first
    one : (visits : List Visit) (walk : List ℕ) (number : ℕ) (edge : Edge) (visit : Visit) (cache : Lines) → AreVisited visits walk edge.from cache
        → slice_get u.edges number ≡ Some edge → visit.taken ≡ edge.taken → IsVisited cache edge.from visit
        → AreVisited (visit ∷ visits) (number ∷ walk) edge.to (cache_along machine.shape cache (lines_fetched visit.block.slots))

  pub walk_of : (visits : List Visit) (walk : List ℕ) (node : ℕ) (cache : Lines) → AreVisited visits walk node cache → IsWalk u walk node
  walk_of visits walk node cache none = starts
  walk_of visits walk node cache (one before w number edge visit c so_far stands taken is) = goes number edge w stands (walk_of before w edge.from c so_far)
