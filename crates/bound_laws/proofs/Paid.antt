-- Along a run's visits the certificate's vectors pay for what the run costs.
use Rattle.std.proofs.Common.{◌≡◌, ◌≢◌, ℕ, ◌+◌, ◌<◌, ◌≤◌, ◌++◌, List, [], ◌∷◌, map, length, take, reverse, slice_get, sym, ap, subst, ◌∙◌, arith}
use Rattle.std.specs.Prelude.{All, Some}
use Rattle.std.proofs.lemmas.Option.{get_or_from_slice_get, slice_get_within}
use Rattle.wx_base.specs.declared.facts.Facts.{Facts}
use Rattle.wx_base.specs.declared.image.Image.{Image}
use Rattle.wx_base.specs.declared.machine.Machine.{Machine}
use Rattle.wx_base.specs.Blocks.{exit_from}
use Rattle.wx_base.specs.Machine.{IsMachine}
use Rattle.wx_base.specs.Recurrence.{past_of, completion}
use Rattle.xdd_table.specs.Diagram.{Combination}
use Rattle.arm_code.specs.declared.insn.Insn.{Insn}
use Rattle.flow_block.specs.declared.block.Block.{Block}
use Rattle.flow_block.specs.declared.block.Slot.{Slot}
use Rattle.flow_block.specs.Blocks.{AreBlocks, IsBlock}
use Rattle.flow_graph.specs.declared.program.Function.{Function}
use Rattle.flow_graph.specs.declared.program.Program.{Program}
use Rattle.flow_graph.specs.Refusals.{IsSoundProgram}
use Rattle.flow_ctx.specs.declared.unfolded.Edge.{Edge}
use Rattle.flow_ctx.specs.declared.unfolded.Unfolded.{Unfolded}
use Rattle.flow_ctx.specs.Nodes.{IsBlockOf}
use Rattle.flow_ctx.specs.Unfolding.{IsUnfolding}
use Rattle.pipe_block.specs.Events.{entries_from, entries_of}
use Rattle.time_laws.specs.Stretches.{GoAlong, VectorsBoundTimes, executed_in, exit_of, jumping}
use Rattle.time_laws.specs.Stretches.GoAlong.{begins, goes}
use Rattle.cache_class.specs.declared.class.Classes.{Classes}
use Rattle.cert_text.specs.declared.certificate.CertVector.{CertVector}
use Rattle.cert_text.specs.declared.certificate.Certificate.{Certificate}
use Rattle.cert_rules.specs.Prices.{entering, missed, returning}
use Rattle.cert_rules.specs.Rules.{IsListed, IsValid, PaysOn}
use Rattle.class_laws.specs.Visits.{AreVisits, IsVisit, Visit, stretch_of}
use Rattle.class_laws.specs.Visits.AreVisits.{none, one}
use Rattle.bound_laws.proofs.Sums.{sum_of}
use Rattle.bound_laws.proofs.Misses.{missed_at}

-- ---- blocks have instructions

some_entries : (f : Combination) (events : List Slot) (place : ℕ) (insns : List Insn) → 0 < length insns → entries_from f events place insns ≢ []
some_entries f events place [] less is = absurd (omega arith)
some_entries f events place (insn ∷ insns) less is = cc

at_place : {A : Type 0} (P : A → Type 0) (xs : List A) (k : ℕ) (x : A) → All P xs → slice_get xs k ≡ Some x → P x
at_place P xs k x all stands = subst P (get_or_from_slice_get xs k x x stands) (all k x (slice_get_within xs k x stands))

module _ (image : Image) (facts : Facts) (start : ℕ) (machine : Machine) (program : Program) (sound : IsSoundProgram image facts start machine program)
    (u : Unfolded) (unfolds : IsUnfolding program u) where
  pub block_has_some : (number : ℕ) (block : Block) → IsBlockOf u number block → 0 < length block.insns
  block_has_some number block is =
      let function_stands = ap (λ (p : Program). slice_get p.functions is.node.function) (sym unfolds.kept) ∙ is.function_stands in
      let blocks = at_place (λ (f : Function). AreBlocks image facts machine f.entry f.blocks) program.functions is.node.function is.function sound.is.blocks function_stands in
      let it = at_place (λ b. IsBlock image facts machine is.function.entry b) is.function.blocks is.node.block block blocks.each is.block_stands in
      it.count.some

  pub visits_have_some : (visit : Visit) → IsBlockOf u visit.node visit.block → (stretch_of visit).entries ≢ []
  visits_have_some visit is = some_entries visit.outcomes visit.block.slots 0 visit.block.insns (block_has_some visit.node visit.block is)

-- ---- along the visits

module _ (u : Unfolded) (m : Machine) (classes : Classes) (c : Certificate) (valid : IsValid u m classes c)
    (some : (visit : Visit) → IsBlockOf u visit.node visit.block → (stretch_of visit).entries ≢ [])
    (first : CertVector) (first_place : ℕ) (first_listed : IsListed c u.start first_place first) where
  -- what the misses of visits are charged, what a walk costs for the loops that it enters, and what it gives back
  abbrev pub charges_of : List Visit → ℕ
  charges_of visits = sum_of (missed_at c.charges classes) visits

  abbrev pub entering_along : List ℕ → ℕ
  entering_along walk = sum_of (entering c u) walk

  abbrev pub returning_along : List ℕ → ℕ
  returning_along walk = sum_of (returning c u) walk

  -- Listed vectors go along the visits to one of the node, and what was counted off on the way is paid for.
  record IsPaid (visits : List Visit) (walk : List ℕ) (node : ℕ) : Type 0 where
    cost : ℕ
    place : ℕ
    vector : CertVector
    listed : IsListed c node place vector
    along : GoAlong m (map stretch_of visits) vector.slots.slots cost
    pays : cost + entering_along walk + vector.potential ≤ first.potential + charges_of visits + returning_along walk

  charged_here : (visit : Visit) (is : IsVisit u classes visit) → missed c.charges visit.outcomes visit.block is.kinds ≡ missed_at c.charges classes visit
  charged_here visit is = ap (missed c.charges visit.outcomes visit.block) (sym (get_or_from_slice_get classes.slots visit.node is.kinds [] is.classed))

  module _ (visits : List Visit) (walk : List ℕ) (number : ℕ) (edge : Edge) (visit : Visit) (stands : slice_get u.edges number ≡ Some edge)
      (at : visit.node ≡ edge.from) (taken : visit.taken ≡ edge.taken) (is : IsVisit u classes visit) (old : IsPaid visits walk edge.from) where
    pays_on : PaysOn u c number edge (old.vector.potential + missed c.charges visit.outcomes visit.block is.kinds)
        (exit_of m old.vector.slots.slots (stretch_of visit))
    pays_on =
        let here : IsListed c visit.node old.place old.vector = subst (λ n. IsListed c n old.place old.vector) (sym at) old.listed in
        subst (λ b. PaysOn u c number edge (old.vector.potential + missed c.charges visit.outcomes visit.block is.kinds)
        (exit_from m old.vector.slots.slots (entries_of visit.block visit.outcomes) b)) (sym taken)
        ((valid.edges visit.node old.place).each number edge visit.block is.kinds old.vector visit.outcomes stands (sym at)
        (record { is = is.is; stands = is.classed }) here is.allowed)

    paid_on : IsPaid (visit ∷ visits) (number ∷ walk) edge.to
    paid_on =
        let on = pays_on in
        let charge = charged_here visit is in
        let before = old.pays in
        let pays = on.pays in
        record {
          cost = old.cost + (exit_of m old.vector.slots.slots (stretch_of visit)).cost;
          place = on.place;
          vector = on.next;
          listed = on.listed;
          along = goes (map stretch_of visits) (stretch_of visit) old.vector.slots.slots on.next.slots.slots old.cost old.along (some visit is.is) on.covers;
          pays = omega (arith, charge, before, pays);
        }

  pay : (visits : List Visit) (walk : List ℕ) (node : ℕ) → AreVisits u classes visits walk node → IsPaid visits walk node
  pay visits walk node none = record {
    cost = 0;
    place = first_place;
    vector = first;
    listed = first_listed;
    along = begins first.slots.slots;
    pays = omega arith;
  }
  pay visits walk node (one before walked number edge visit along stands at taken is) =
      paid_on before walked number edge visit stands at taken is (pay before walked edge.from along)

  module _ (ok : IsMachine m) (law : VectorsBoundTimes) (visits : List Visit) (walk : List ℕ) (node index : ℕ) (last : Visit)
      (along : AreVisits u classes visits walk node) (here : last.node ≡ node) (is : IsVisit u classes last) where
    -- when the last instruction of a run is complete that ends in a visit
    abbrev pub ends_at : ℕ
    ends_at = completion [] (past_of m [] (jumping last.taken (reverse (take index (entries_of last.block last.outcomes))) ++ executed_in (map stretch_of visits)))

    pub run_is_paid : ends_at + entering_along walk ≤ first.potential + charges_of (last ∷ visits) + returning_along walk
    run_is_paid =
        let paid = pay visits walk node along in
        let listed : IsListed c last.node paid.place paid.vector = subst (λ n. IsListed c n paid.place paid.vector) (sym here) paid.listed in
        let finish = (valid.finishes last.node paid.place).each last.block is.kinds paid.vector last.outcomes (record { is = is.is; stands = is.classed }) listed is.allowed in
        let time = law m (map stretch_of visits) paid.vector.slots.slots paid.cost (entries_of last.block last.outcomes) index last.taken ok paid.along in
        let charge = charged_here last is in
        let pays = paid.pays in
        omega (arith, finish, time, charge, pays)
