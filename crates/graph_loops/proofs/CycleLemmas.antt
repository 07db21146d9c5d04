-- Cycles, by numbers that rise and by paths of forward edges.
use Rattle.std.proofs.Common.{◌≡◌, ℕ, ◌<◌, ◌≤◌, List, [], length, get_or, sym, subst, ◌∙◌, arith}
use Rattle.std.proofs.lemmas.List.{get_or_default}
use Rattle.wx_base.specs.Paths.{Path, IsForward, ForwardPath, IsOnForwardCycle}
use Rattle.wx_base.specs.Paths.Path.{here, further}
use Rattle.wx_base.specs.Paths.ForwardPath.{one, more}
use Rattle.graph_loops.specs.Graph.{edges, IsGraph, IsReached}
use Rattle.graph_loops.specs.Ways.{AreForwardInto}
use Rattle.graph_loops.specs.Cycles.{AreAbove, IsAcyclic, IsCyclic, IsLeastCyclic, Rise}
use Rattle.graph_loops.specs.Loops.{IsReducible, IsLeastOnCycle}
use Rattle.graph_loops.proofs.Places.{none_there, within_there}
use Rattle.graph_loops.proofs.PathLemmas.{one_more, reached_within}

-- ---- numbers

module _ (lists : List (List ℕ)) (numbers : List ℕ) (r : Rise lists numbers) where
  climbs : {a b : ℕ} → Path (edges lists) [] a b → get_or numbers a 0 ≤ get_or numbers b 0
  climbs (here a n) = omega arith
  climbs {a} (further {b = b} n e p) = omega (arith, (r.each a).each b e, climbs p)

  pub no_cycle : IsAcyclic lists
  no_cycle = record { none = λ v h. absurd (omega (arith, (r.each v).each h.root h.listed, climbs h.path)) }

-- each element has a higher number, if the number at each place is one
pub above_all : (targets numbers : List ℕ) (bound : ℕ) → ((k : ℕ) → k < length targets → bound < get_or numbers (get_or targets k 0) 0) → AreAbove targets numbers bound
above_all targets numbers bound h = record { each = λ u a. subst (λ (x : ℕ). bound < get_or numbers x 0) (get_or_default targets a.0 0 u a.1 ∙ a.2) (h a.0 a.1) }

-- past the last vertex there is no edge
pub rise_all : (lists : List (List ℕ)) (numbers : List ℕ) (n : ℕ) → length lists ≤ n → ((v : ℕ) → v < n → AreAbove (edges lists v) numbers (get_or numbers v 0)) → Rise lists numbers
rise_all lists numbers n all h = record { each = λ v. record { each = λ u e. (h v (omega (arith, within_there lists v u e))).each u e } }

-- a vertex on a cycle is one of the graph's
pub cyclic_within : (lists : List (List ℕ)) (v : ℕ) → IsGraph lists → IsCyclic lists v → v < length lists
cyclic_within lists v g h = reached_within lists [] (edges lists v) v g (record { within = λ u e. g.within v u e }) h

-- ---- forward edges

module _ (lists : List (List ℕ)) (entry : ℕ) where
  one_behind : {a b c : ℕ} → ForwardPath (edges lists) entry a b → IsForward (edges lists) entry b c → ForwardPath (edges lists) entry a c
  one_behind (one f) g = more f (one g)
  one_behind (more f p) g = more f (one_behind p g)

module _ (lists into : List (List ℕ)) (entry : ℕ) (f : (v : ℕ) → AreForwardInto lists entry v (edges into v)) where
  forward_from : {a b : ℕ} → Path (edges into) [] a b → (c : ℕ) → IsForward (edges lists) entry a c → ForwardPath (edges lists) entry b c
  forward_from (here a n) c g = one g
  forward_from {a} (further {b = b} n e p) c g = one_behind lists entry (forward_from p a (((f a).exact b).0 e)) g

  backward_from : {a b : ℕ} → ForwardPath (edges lists) entry a b → IsReached into [] (edges into b) a
  backward_from {a} {b} (one g) = record { root = a; listed = ((f b).exact a).1 g; path = here a (none_there a) }
  backward_from {a} {b} (more {b = c} g p) =
      let r = backward_from p in
      record { root = r.root; listed = r.listed; path = one_more (edges into) [] r.path (((f c).exact a).1 g) (none_there a) }

  pub cycle_is : (v : ℕ) → IsCyclic into v → IsOnForwardCycle (edges lists) entry v
  cycle_is v h = forward_from h.path v (((f v).exact h.root).0 h.listed)

  pub is_cycle : (v : ℕ) → IsOnForwardCycle (edges lists) entry v → IsCyclic into v
  is_cycle v p = backward_from p

  pub reducible : IsAcyclic into → IsReducible lists entry
  reducible a = record { acyclic = λ v p. a.none v (is_cycle v p) }

  pub least_on_cycle : (v : ℕ) → IsLeastCyclic into v → IsLeastOnCycle lists entry v
  least_on_cycle v l = record { cyclic = cycle_is v l.cyclic; least = λ u h p. l.least u h (is_cycle u p) }

  pub forward_is_graph : length into ≡ length lists → IsGraph into
  forward_is_graph e = record { within = λ v u h. subst (λ (n : ℕ). u < n) (sym e) (within_there lists u v (((f v).exact u).0 h).edge) }
