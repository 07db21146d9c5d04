-- The order of call chains, of nodes and of edges. This project's own.
use Rattle.std.specs.Prelude.{◌≡◌, ◌<◌, ◌⊎◌, ℕ, true, false, List, [], ◌∷◌}
use Rattle.flow_ctx.specs.declared.unfolded.Call.{Call}
use Rattle.flow_ctx.specs.declared.unfolded.Edge.{Edge}
use Rattle.flow_ctx.specs.declared.unfolded.UNode.{UNode}

-- one call is before another: it is made at a lower address, or at the same one and calls a function at a lower address
abbrev pub IsCallBefore : Call → Call → Type 0
IsCallBefore c d = (c.site < d.site) ⊎ ((c.site ≡ d.site) × (c.entry < d.entry))

-- a chain is before those that go on from it; of others the first calls that differ decide
abbrev pub IsChainBefore : List Call → List Call → Type 0
IsChainBefore chain [] = ⊥
IsChainBefore [] (d ∷ chain) = Unit {0}
IsChainBefore (c ∷ chain) (d ∷ other) = IsCallBefore c d ⊎ ((c ≡ d) × IsChainBefore chain other)

-- nodes are ordered by their chains; those of one chain by their blocks, which stand in the order of addresses
abbrev pub IsNodeBefore : UNode → UNode → Type 0
IsNodeBefore n m = IsChainBefore n.chain m.chain ⊎ ((n.chain ≡ m.chain) × (n.block < m.block))

-- edges are ordered by source, then by target; of two between the same nodes the one that is not taken comes first
abbrev pub IsEdgeBefore : Edge → Edge → Type 0
IsEdgeBefore e f =
    (e.from < f.from)
    ⊎ ((e.from ≡ f.from) × ((e.to < f.to) ⊎ ((e.to ≡ f.to) × (e.taken ≡ false) × (f.taken ≡ true))))
