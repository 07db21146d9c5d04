-- All edges between nodes, in their order.
use Rattle.std.proofs.Common.{◌≡◌, inl, inr, ⊎_elim, ℕ, ◌+◌, ◌*◌, ◌<◌, ◌≤◌, Bool, true, false, List, length, get_or, refl, sym, ap, subst, arith}
use Rattle.std.specs.List.{Contains}
use Rattle.std.proofs.lemmas.Bool.{cases_lt}
use Rattle.std.proofs.lemmas.Option.{slice_get_within}
use Rattle.flow_graph.specs.declared.program.Program.{Program}
use Rattle.flow_ctx.specs.declared.unfolded.Edge.{Edge}
use Rattle.flow_ctx.specs.declared.unfolded.UNode.{UNode}
use Rattle.flow_ctx.specs.Order.{IsEdgeBefore}
use Rattle.flow_ctx.specs.Unfolding.{AreEdges, IsEdge, most_nodes}
use Rattle.program_laws.proofs.Collected.{collect}

-- edges by a number that rises
bit : Bool → ℕ
bit true = 1
bit false = 0

abbrev edge_key : Edge → ℕ
edge_key e = e.from * 8192 + (e.to * 2 + bit e.taken)

bit_small : (b : Bool) → bit b ≤ 1
unfolding bit
bit_small true = omega arith
bit_small false = omega arith

-- where two differ, the lesser is of what is not taken
bits_differ : (a b : Bool) → bit a < bit b → (a ≡ false) × (b ≡ true)
unfolding bit
bits_differ false true h = (refl, refl)
bits_differ false false h = absurd (omega (arith, h))
bits_differ true true h = absurd (omega (arith, h))
bits_differ true false h = absurd (omega (arith, h))

bits_same : (a b : Bool) → bit a ≡ bit b → a ≡ b
unfolding bit
bits_same false false h = refl
bits_same true true h = refl
bits_same false true h = absurd (omega (arith, h))
bits_same true false h = absurd (omega (arith, h))

key_before : (e f : Edge) → e.to < 4096 → f.to < 4096 → edge_key e < edge_key f → IsEdgeBefore e f
key_before e f small few less =
    let a = bit_small e.taken in
    let b = bit_small f.taken in
    ⊎_elim (λ (below : e.from < f.from). inl below)
    (λ (above : f.from ≤ e.from).
    let from : e.from ≡ f.from = omega (arith, above, less, small, few, a, b) in
    ⊎_elim (λ (below : e.to < f.to). inr (from, inl below))
    (λ (over : f.to ≤ e.to).
    let to : e.to ≡ f.to = omega (arith, from, over, less, a, b) in
    let bits = bits_differ e.taken f.taken (omega (arith, from, to, less)) in
    inr (from, inr (to, bits.0, bits.1)))
    (cases_lt e.to f.to))
    (cases_lt e.from f.from)

key_same : (e f : Edge) → e.to < 4096 → f.to < 4096 → edge_key e ≡ edge_key f → e ≡ f
key_same e f small few same =
    let a = bit_small e.taken in
    let b = bit_small f.taken in
    let from : e.from ≡ f.from = omega (arith, same, small, few, a, b) in
    let to : e.to ≡ f.to = omega (arith, same, from, a, b) in
    let taken : e.taken ≡ f.taken = bits_same e.taken f.taken (omega (arith, same, from, to)) in
    λ i. record { from = from i; to = to i; taken = taken i }

module _ (program : Program) (nodes : List UNode) (few : length nodes ≤ most_nodes) where
  -- an edge with a number
  record HasKey (key : ℕ) : Type 0 where
    edge : Edge
    is : IsEdge program nodes edge
    at : edge_key edge ≡ key

  from_small : (e : Edge) → IsEdge program nodes e → e.from < 4096
  from_small e is = omega (arith, few, slice_get_within nodes e.from is.source is.from)

  to_small : (e : Edge) → IsEdge program nodes e → e.to < 4096
  to_small e is = omega (arith, few, slice_get_within nodes e.to is.target is.to)

  key_small : (key : ℕ) → HasKey key → key < 33554432
  key_small key h =
      let a = from_small h.edge h.is in
      let b = to_small h.edge h.is in
      let c = bit_small h.edge.taken in
      let d = h.at in
      omega (arith, a, b, c, d)

  pub has_edges : ((edges : List Edge) → AreEdges program nodes edges → ⊥) → ⊥
  has_edges stop =
      collect edge_key (λ e. IsEdge program nodes e) HasKey 33554432 key_small (λ key h found. found h.edge h.at h.is)
      (λ edges are.
      stop edges
      (record {
        ascending = λ i j d less within.
            let first = are.each i d (omega (arith, less, within)) in
            let second = are.each j d within in
            key_before (get_or edges i d) (get_or edges j d) (to_small _ first) (to_small _ second) (are.ascending i j d less within);
        each = are.each;
        whole = λ edge is.
            let a = are.whole (edge_key edge) (record { edge = edge; is = is; at = refl }) in
            let found = subst (λ (e : Edge). IsEdge program nodes e) a.3 (are.each a.0 a.1 a.2) in
            subst (λ (e : Edge). Contains edges e) (key_same a.1 edge (to_small a.1 found) (to_small edge is) a.4) (a.0, a.2, a.3);
      }))
