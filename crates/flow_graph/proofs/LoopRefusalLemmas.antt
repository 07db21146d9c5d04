-- Which loops are refused: the least address on a cycle without back edges, and the least head without a bound, over all functions.
use Rattle.std.proofs.Common.{◌≡◌, inl, inr, ℕ, ◌<◌, ◌≤◌, Bool, List, length, get_or, refl, sym, ap, ◌∙◌, subst, Option, Some, None, arith}
use Rattle.std.proofs.lemmas.Bool.{cases_lt}
use Rattle.std.proofs.lemmas.List.{get_or_default}
use Rattle.std.specs.List.{All, Any}
use Rattle.std.specs.Prelude.{slice_index, IsSome}
use Rattle.wx_base.specs.declared.facts.Facts.{Facts}
use Rattle.wx_base.specs.declared.facts.LoopFact.{LoopFact}
use Rattle.wx_base.specs.declared.image.Image.{Image}
use Rattle.wx_base.specs.declared.machine.Machine.{Machine}
use Rattle.wx_base.specs.Functions.{ways_at, fact_of, IsEntry}
use Rattle.wx_base.specs.Paths.{IsHead, IsOnForwardCycle}
use Rattle.arm_code.specs.declared.insn.Insn.{Insn}
use Rattle.graph_loops.specs.Graph.{edges}
use Rattle.graph_loops.specs.Loops as graph
use Rattle.flow_graph.specs.declared.outline.Outline.{Outline}
use Rattle.flow_graph.specs.Listing.{IsListing, IsStart}
use Rattle.flow_graph.specs.Numbers.{HasNumber}
use Rattle.flow_graph.specs.Outlines.{AreOutlines, IsOutline, IsUnboundedNumber, HasBounds}
use Rattle.flow_graph.specs.declared.error.FlowError.TheVariants.{Irreducible, LoopNoBound}
use Rattle.flow_graph.specs.Refusals.{IsIrreducible, IsUnbounded, IsClean, IsFirst}
use Rattle.flow_graph.proofs.FirstLemmas.{first_irreducible, clean_irreducible, first_unbounded, clean_unbounded}
use Rattle.flow_graph.proofs.NumberedEntries.{entry_to, entry_from, marked_within}
use Rattle.flow_graph.proofs.NumberedLists.{place_at_most}
use Rattle.flow_graph.proofs.NumberedLoops.{cycle_to, cycle_from, cycle_within, head_to, head_from, head_within}

-- the least number of a function's cycles is at most each other one
cycle_least : (lists : List (List ℕ)) (entry w : ℕ) (cycle : Option ℕ) → graph.IsLeastCycle lists entry cycle → IsOnForwardCycle (edges lists) entry w
    → (v : ℕ) × (cycle ≡ Some v) × (v ≤ w)
cycle_least lists entry w None none on = absurd (none.acyclic w on)
cycle_least lists entry w (Some v) least on =
    elim (cases_lt w v) [ inl below ↦ absurd (least.least w below on) | inr above ↦ (v, refl, omega arith) ]

cycle_is : (lists : List (List ℕ)) (entry v : ℕ) (cycle : Option ℕ) → graph.IsLeastCycle lists entry cycle → cycle ≡ Some v → IsOnForwardCycle (edges lists) entry v
cycle_is lists entry v cycle least e = (subst (graph.IsLeastCycle lists entry) e least).cyclic

module _ {image : Image} {facts : Facts} {start : ℕ} {addresses : List ℕ} {insns : List Insn} {ways calls : List (List ℕ)} {marks : List Bool} {outlines : List Outline}
    (is : IsListing image facts start addresses insns ways calls) (begins : IsStart addresses calls start marks) (all : AreOutlines ways marks outlines) where
  -- the entry of an outline is one of the addresses', and an entry of a function
  pub outline_within : All (λ o. o.entry < length addresses) outlines
  outline_within k d within = marked_within is begins (get_or outlines k d).entry (all.marked k d within)

  pub outline_entry : All (λ o. IsEntry image facts start (slice_index addresses o.entry)) outlines
  outline_entry k d within = entry_to is begins (get_or outlines k d).entry (outline_within k d within) (all.marked k d within)

  outline_at : (k : ℕ) (o : Outline) → k < length outlines → get_or outlines k o ≡ o → (o.entry < length addresses) × IsEntry image facts start (slice_index addresses o.entry) × IsOutline ways o
  outline_at k o within e = (
    subst (λ p. p.entry < length addresses) e (outline_within k o within),
    subst (λ p. IsEntry image facts start (slice_index addresses p.entry)) e (outline_entry k o within),
    subst (λ p. IsOutline ways p) e (all.each k o within),
  )

  -- each entry has its outline
  outline_of : (b : ℕ) → IsEntry image facts start b → (o : Outline) × (k : ℕ) × (k < length outlines) × (get_or outlines k o ≡ o) × (b ≡ slice_index addresses o.entry)
  outline_of b entry =
      let n = entry_from is begins b entry in
      let found = all.whole n.number n.holds in
      (found.1, found.0, found.2, found.3, n.is ∙ ap (slice_index addresses) (sym found.4))

  -- the cycle that an outline tells is one of addresses
  pub cycle_found : (v : ℕ) → Any (λ o. o.structure.cycle ≡ Some v) outlines → (v < length addresses) × IsIrreducible image facts start (slice_index addresses v)
  cycle_found v found =
      let o = found.1 in
      let at = outline_at found.0 o found.2 found.3 in
      let on = cycle_is ways o.entry v o.structure.cycle at.2.cycle found.4 in
      (cycle_within is.ways_are o.entry v at.0 on, record { entry = slice_index addresses o.entry; function = at.1; cycle = cycle_to is.ways_are o.entry v at.0 on })

  -- and each cycle of addresses has one no later that an outline tells
  pub cycle_told : (b : ℕ) → IsIrreducible image facts start b → (v : ℕ) × Any (λ o. o.structure.cycle ≡ Some v) outlines × (slice_index addresses v ≤ b)
  cycle_told b irreducible =
      let found = outline_of irreducible.entry irreducible.function in
      let o = found.0 in
      let at = outline_at found.1 o found.2 found.3 in
      let cycle = subst (λ e. IsOnForwardCycle (ways_at image facts) e b) found.4 irreducible.cycle in
      let n = cycle_from is.ways_are o.entry b at.0 cycle in
      let least = cycle_least ways o.entry n.number o.structure.cycle at.2.cycle n.holds in
      (least.0, (found.1, o, found.2, found.3, least.1), omega (arith, n.is, place_at_most addresses is.ascending least.0 n.number least.2 n.within))

  -- heads are numbers of addresses
  pub heads_within : All (λ o. All (λ l. l.head < length addresses) o.structure.loops) outlines
  heads_within k d within i l inside =
      let o = get_or outlines k d in
      head_within is.ways_are (outline_within k d within) ((all.each k d within).loops.each i l inside).head

  -- a head without a bound, by its number and by its address
  pub unbounded_to : (v : ℕ) → IsUnboundedNumber facts addresses outlines v → (v < length addresses) × IsUnbounded image facts start (slice_index addresses v)
  unbounded_to v u =
      let o = u.head.1 in
      let at = outline_at u.head.0 o u.head.2 u.head.3 in
      let inner = u.head.4 in
      let l = inner.1 in
      let one = subst (λ m. graph.IsLoop ways o.entry m) inner.3 (at.2.loops.each inner.0 l inner.2) in
      let head = subst (λ h. IsHead (edges ways) o.entry h) inner.4 one.head in
      (head_within is.ways_are at.0 head, record { entry = slice_index addresses o.entry; function = at.1; head = head_to is.ways_are at.0 head; unbounded = u.unbounded })

  pub unbounded_from : (b : ℕ) → IsUnbounded image facts start b → HasNumber addresses (IsUnboundedNumber facts addresses outlines) b
  unbounded_from b u =
      let found = outline_of u.entry u.function in
      let o = found.0 in
      let at = outline_at found.1 o found.2 found.3 in
      let head = subst (λ e. IsHead (ways_at image facts) e b) found.4 u.head in
      let n = head_from is.ways_are o.entry at.0 head in
      let inner = at.2.loops.whole n.number n.holds in
      record {
        number = n.number;
        within = n.within;
        is = n.is;
        holds = record {
          head = (found.1, o, found.2, found.3, inner);
          unbounded = subst (λ a. fact_of facts a ≡ None) n.is u.unbounded;
        };
      }

  -- where no head is without a bound, each has one
  pub all_bounded : ((v : ℕ) → IsUnboundedNumber facts addresses outlines v → ⊥) → All (λ o. HasBounds facts addresses o) outlines
  all_bounded none k d within = record { each = each }
    where
      some_or_none : (b : Option LoopFact) → (b ≡ None → ⊥) → IsSome b
      some_or_none None h = absurd (h refl)
      some_or_none (Some f) h = refl

      each : All (λ l. IsSome (fact_of facts (slice_index addresses l.head))) (get_or outlines k d).structure.loops
      each i l inside =
          let o = get_or outlines k d in
          let m = get_or o.structure.loops i l in
          some_or_none (fact_of facts (slice_index addresses m.head)) λ e.
          none m.head (record { head = (k, o, within, get_or_default outlines k o d within, (i, m, inside, get_or_default o.structure.loops i m l inside, refl)); unbounded = e })

  -- the least number on a cycle stands for the refusal that is due
  pub cycle_first : (machine : Machine) (v : ℕ) → IsClean image facts start machine 5 → Any (λ o. o.structure.cycle ≡ Some v) outlines
      → ((w : ℕ) → Any (λ o. o.structure.cycle ≡ Some w) outlines → v ≤ w) → IsFirst image facts start machine (Irreducible (slice_index addresses v))
  cycle_first machine v clean found least =
      first_irreducible image facts start machine (slice_index addresses v) clean (cycle_found v found).1 λ b other.
      let told = cycle_told b other in
      let w = told.0 in
      omega (arith, told.2, place_at_most addresses is.ascending v w (least w told.1) (cycle_found w told.1).0)

  pub cycle_clean : (machine : Machine) → IsClean image facts start machine 5 → ((v : ℕ) → Any (λ o. o.structure.cycle ≡ Some v) outlines → ⊥) → IsClean image facts start machine 6
  cycle_clean machine clean none = clean_irreducible image facts start machine clean λ b other. let told = cycle_told b other in none told.0 told.1

  -- and so does the least number of a head without a bound
  pub unbounded_first : (machine : Machine) (v : ℕ) → IsClean image facts start machine 6 → IsUnboundedNumber facts addresses outlines v
      → ((w : ℕ) → IsUnboundedNumber facts addresses outlines w → v ≤ w) → IsFirst image facts start machine (LoopNoBound (slice_index addresses v))
  unbounded_first machine v clean found least =
      first_unbounded image facts start machine (slice_index addresses v) clean (unbounded_to v found).1 λ b other.
      let n = unbounded_from b other in
      omega (arith, n.is, place_at_most addresses is.ascending v n.number (least n.number n.holds) n.within)

  pub unbounded_clean : (machine : Machine) → IsClean image facts start machine 6 → ((v : ℕ) → IsUnboundedNumber facts addresses outlines v → ⊥) → IsClean image facts start machine 7
  unbounded_clean machine clean none = clean_unbounded image facts start machine clean λ b other. let n = unbounded_from b other in none n.number n.holds
