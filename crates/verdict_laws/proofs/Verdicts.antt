-- A certificate is valid, or a rule is the first that it breaks. What is shown is that it cannot be otherwise, so each step may go on as if
-- every statement held or did not.
use Rattle.std.proofs.Common.{◌≡◌, ◌⊎◌, inl, inr, ⊎_elim, ℕ, zero, suc, ◌<◌, ◌≤◌, List, length, slice_get, Option, Some, sym, ap, subst, refl, arith}
use Rattle.std.specs.Option.{option_map_or}
use Rattle.std.proofs.lemmas.Bool.{cases_lt}
use Rattle.std.proofs.lemmas.Option.{slice_get_within}
use Rattle.wx_base.specs.declared.machine.Machine.{Machine}
use Rattle.flow_ctx.specs.declared.unfolded.Unfolded.{Unfolded}
use Rattle.cache_class.specs.declared.class.Classes.{Classes}
use Rattle.cert_text.specs.declared.certificate.CertVector.{CertVector}
use Rattle.cert_text.specs.declared.certificate.Certificate.{Certificate}
use Rattle.cert_rules.specs.Judged.{FailsFirst, HoldsForAll, IsBroken, IsEarlier, bound, edge, finish, numbers, shape, start}
use Rattle.cert_rules.specs.Rules.{IsListed, PaysEdges, PaysFinish}
use Rattle.verdict_laws.specs.Laws.{ValidOrBroken}

-- Something that holds past the vectors of some nodes holds for all, or fails for a first one.
module _ (P : ℕ → ℕ → Type 0) (nodes : ℕ) (width : ℕ → ℕ) (past : (node place : ℕ) → (nodes ≤ node) ⊎ (width node ≤ place) → P node place)
    (never : (node place : ℕ) → FailsFirst P node place → ⊥) where
  -- it holds before a vector
  abbrev Before : ℕ → ℕ → Type 0
  Before node place = (n p : ℕ) → IsEarlier n p node place → P n p

  one_more : (node place : ℕ) → Before node place → P node place → Before node (suc place)
  one_more node place before here n p (inl less) = before n p (inl less)
  one_more node place before here n p (inr (same, less)) =
      ⊎_elim (λ (below : p < place). before n p (inr (same, below)))
      (λ (above : place ≤ p).
      let at : place ≡ p = omega (arith, less, above) in
      subst (λ (k : ℕ). P k p) (sym same) (subst (λ (k : ℕ). P node k) at here))
      (cases_lt p place)

  -- the vectors of a node one after the other
  along : (node : ℕ) → Before node 0 → (place : ℕ) → (Before node place → ⊥) → ⊥
  along node before zero go = go before
  along node before (suc place) go =
      along node before place (λ b. never node place (record { fails = λ here. go (one_more node place b here); before = b }))

  next_node : (node : ℕ) → Before node 0 → Before node (width node) → Before (suc node) 0
  next_node node before row n p (inr (same, less)) = absurd (omega (arith, less))
  next_node node before row n p (inl less) =
      ⊎_elim (λ (below : n < node). before n p (inl below))
      (λ (above : node ≤ n).
      let at : n ≡ node = omega (arith, less, above) in
      ⊎_elim (λ (inside : p < width node). row n p (inr (at, inside)))
      (λ (outside : width node ≤ p). past n p (inr (subst (λ (k : ℕ). width k ≤ p) (sym at) outside)))
      (cases_lt p (width node)))
      (cases_lt n node)

  -- and the nodes
  up_to : (node : ℕ) → (Before node 0 → ⊥) → ⊥
  up_to zero go = go none
    where
      none : Before 0 0
      none n p (inl less) = absurd (omega (arith, less))
      none n p (inr (same, less)) = absurd (omega (arith, less))
  up_to (suc node) go = up_to node (λ before. along node before (width node) (λ row. go (next_node node before row)))

  all_hold : (HoldsForAll P → ⊥) → ⊥
  all_hold go =
      up_to nodes
      (λ before.
      go
      (record {
        each = λ node place.
            ⊎_elim (λ (below : node < nodes). before node place (inl below)) (λ (above : nodes ≤ node). past node place (inl above)) (cases_lt node nodes);
      }))

module _ (u : Unfolded) (m : Machine) (classes : Classes) (c : Certificate) where
  -- how many vectors a node has
  abbrev width : ℕ → ℕ
  width node = option_map_or (λ (family : List CertVector). length family) (slice_get c.families node) 0

  -- there is none past them
  none_past : (node place : ℕ) (v : CertVector) → (length c.families ≤ node) ⊎ (width node ≤ place) → IsListed c node place v → ⊥
  none_past node place v (inl above) is = let within = slice_get_within c.families node is.family is.stands in omega (arith, above, within)
  none_past node place v (inr above) is =
      let within = slice_get_within is.family place v is.listed in
      let size : width node ≡ length is.family = ap (λ (o : Option (List CertVector)). option_map_or (λ (family : List CertVector). length family) o 0) is.stands in
      omega (arith, above, within, size)

  finish_past : (node place : ℕ) → (length c.families ≤ node) ⊎ (width node ≤ place) → PaysFinish u m classes c node place
  finish_past node place above = record { each = λ block kinds v f classed is allowed. absurd (none_past node place v above is) }

  edges_past : (node place : ℕ) → (length c.families ≤ node) ⊎ (width node ≤ place) → PaysEdges u m classes c node place
  edges_past node place above = record { each = λ number e block kinds v f stands from classed is allowed. absurd (none_past node place v above is) }

pub valid_or_broken : ValidOrBroken
valid_or_broken u m classes c no_valid no_broken =
    no_broken 0 0 0
    (shape (λ s.
    no_broken 4 0 0
    (numbers s (λ n.
    no_broken 1 0 0
    (start s n (λ b.
    all_hold (PaysFinish u m classes c) (length c.families) (width u m classes c) (finish_past u m classes c)
    (λ node place fails. no_broken 2 node place (finish node place s n b fails))
    (λ f.
    all_hold (PaysEdges u m classes c) (length c.families) (width u m classes c) (edges_past u m classes c)
    (λ node place fails. no_broken 3 node place (edge node place s n b f fails))
    (λ e.
    no_broken 5 0 0
    (bound s n b f e (λ d. no_valid (record { shape = s; numbers = n; start = b; finishes = f.each; edges = e.each; bound = d })))))))))))
