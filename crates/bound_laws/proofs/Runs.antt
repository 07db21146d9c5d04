-- No run takes longer than the bound of a valid certificate.
use Rattle.std.proofs.Common.{◌≡◌, ℕ, ◌+◌, ◌*◌, ◌≤◌, ◌==◌, ◌&&◌, List, [], ◌∷◌, map, slice_get, slice_index, refl, ap, subst, ◌∙◌, arith}
use Rattle.std.specs.Prelude.{Some, is_some}
use Rattle.wx_base.specs.declared.facts.Facts.{Facts}
use Rattle.wx_base.specs.declared.image.Image.{Image}
use Rattle.wx_base.specs.declared.machine.Machine.{Machine}
use Rattle.wx_base.specs.Machine.{IsMachine}
use Rattle.wx_base.specs.Recurrence.{Entry, completion, past_of}
use Rattle.wx_base.specs.Run.{Executed, Run as Going, dones, run_of, time_of}
use Rattle.flow_graph.specs.declared.program.Program.{Program}
use Rattle.flow_graph.specs.Program.{rules_of}
use Rattle.flow_graph.specs.Refusals.{IsSoundProgram}
use Rattle.flow_ctx.specs.declared.scope.Scope.TheVariants.{Run, Loop}
use Rattle.flow_ctx.specs.declared.unfolded.ULoop.{ULoop}
use Rattle.flow_ctx.specs.declared.unfolded.Unfolded.{Unfolded}
use Rattle.flow_ctx.specs.Unfolding.{IsUnfolding}
use Rattle.run_laws.specs.Obeying.{TimesAreTheRecurrence}
use Rattle.time_laws.specs.Stretches.{VectorsBoundTimes}
use Rattle.ctx_laws.specs.Following.{IsFollowing}
use Rattle.ctx_laws.specs.Laws.{FollowedWalksAreWalks, RunsFollowUnfoldings}
use Rattle.cache_class.specs.declared.class.Classes.{Classes}
use Rattle.cache_class.specs.Classes.{AreClasses}
use Rattle.cert_text.specs.declared.certificate.Certificate.{Certificate}
use Rattle.cert_rules.specs.Prices.{charges_in, head_address, sum_places, totalcounts_at}
use Rattle.cert_rules.specs.Rules.{IsValid}
use Rattle.class_laws.specs.Laws.{RunsVisitNodes}
use Rattle.class_laws.specs.Visits.{IsVisiting, misses_in}
use Rattle.bound_laws.specs.Laws.{ValidBoundsHold}
use Rattle.bound_laws.proofs.Sums.{bit, bit_is}
use Rattle.bound_laws.proofs.Walks.{taken_of}
use Rattle.bound_laws.proofs.Places.{listed}
use Rattle.bound_laws.proofs.Misses.{charged, visits_charged}
use Rattle.bound_laws.proofs.Stays.{back_edges, begun_of, takes}
use Rattle.bound_laws.proofs.Totals.{loop_of, within_total}
use Rattle.bound_laws.proofs.Charges.{charge_scopes, charges_are_within}
use Rattle.bound_laws.proofs.Paid.{run_is_paid, visits_have_some}
use Rattle.bound_laws.proofs.Balance.{balance}

-- the laws of the crates below
pub record AreKnown : Type 0 where
  pub follow : RunsFollowUnfoldings
  pub walks : FollowedWalksAreWalks
  pub visit : RunsVisitNodes
  pub recurrence : TimesAreTheRecurrence
  pub times : VectorsBoundTimes

entries_are : (executed : List Executed) → map (λ i. i.entry) (dones executed) ≡ map (λ e. e.done.entry) executed
entries_are [] = refl
entries_are (e ∷ executed) = ap (λ (es : List Entry). e.done.entry ∷ es) (entries_are executed)

module _ (image : Image) (facts : Facts) (start : ℕ) (machine : Machine) (program : Program) (sound : IsSoundProgram image facts start machine program)
    (u : Unfolded) (unfolds : IsUnfolding program u) (classes : Classes) (are : AreClasses u machine classes) (c : Certificate) (valid : IsValid u machine classes c)
    (ok : IsMachine machine) (walks_law : FollowedWalksAreWalks) (times_law : VectorsBoundTimes)
    (run : Going) (following : IsFollowing u run) (visiting : IsVisiting u classes run.executed following.walk following.node following.index)
    (recurrence : dones run.executed ≡ past_of machine [] (map (λ i. i.entry) (dones run.executed))) where
  loop_stays : (number : ℕ) (l : ULoop) → slice_get u.loops number ≡ Some l → taken_of l.back following.walk ≤ l.maxcount * begun_of u l following.walk
  loop_stays number l stands =
      let there = listed u.loops number l stands in
      back_edges program u l (loop_of program u unfolds l there) following.walk
      (λ earlier node part member. following.stays l earlier node there part member)
      (λ earlier since node count part stay. following.bounds l earlier since node count there part stay)
      following.node (walks_law u run.executed following.walk following.node following.index following.follows)

  total_stays : (address : ℕ)
      → sum_places (λ i l. bit (is_some l.totalcount && (head_address u l == address)) * taken_of l.back following.walk) 0 u.loops ≤ slice_index (totalcounts_at u address) 0
  total_stays address = within_total program u unfolds address following.walk
      (λ l total edges count there head is all taken. following.most l address total edges count there head is all taken)

  group_stays : (number line : ℕ) (l : ULoop) → slice_get u.loops number ≡ Some l
      → misses_in classes line (Loop number) (visiting.last ∷ visiting.visits) ≤ begun_of u l following.walk
  group_stays number line l stands =
      subst (λ n. misses_in classes line (Loop number) (visiting.last ∷ visiting.visits) ≤ taken_of l.entries following.walk + n) (bit_is (u.start == l.head))
      (visiting.loops number line (taken_of l.entries following.walk) l stands (takes l.entries following.walk))

  charges_within : charged c.charges (λ d. misses_in classes d.line d.scope (visiting.last ∷ visiting.visits))
      ≤ charges_in c.charges Run + sum_places (λ number l. charges_in c.charges (Loop number) * begun_of u l following.walk) 0 u.loops
  charges_within = charges_are_within u classes (visiting.last ∷ visiting.visits) following.walk visiting.whole group_stays c.charges
      (charge_scopes u machine classes c.charges are valid.shape.charges)

  pub holds : time_of run ≤ c.bound
  holds =
      let first = valid.bound.first in
      let paid = run_is_paid u machine classes c valid (visits_have_some image facts start machine program sound u unfolds) valid.bound.vector first.place first.listed ok times_law
      visiting.visits following.walk following.node following.index visiting.last visiting.along visiting.here visiting.at in
      let charges = visits_charged c.charges classes (visiting.last ∷ visiting.visits) in
      let balanced = balance u c following.walk loop_stays total_stays (charged c.charges (λ d. misses_in classes d.line d.scope (visiting.last ∷ visiting.visits))) charges_within in
      let entries = entries_are run.executed ∙ visiting.are in
      let time = ap (completion []) (recurrence ∙ ap (past_of machine []) entries) in
      let bound = valid.bound.is in
      omega (arith, paid, charges, balanced, time, bound)

pub valid_bounds_hold : AreKnown → ValidBoundsHold
valid_bounds_hold k image facts entry machine program u classes c start n ends ok sound unfolds are valid is_start =
    let following = k.follow image facts entry machine program u start n ends sound unfolds is_start in
    let visiting = k.visit image facts entry machine program u classes start n ends ok sound unfolds are is_start following in
    holds image facts entry machine program sound u unfolds classes are c valid ok k.walks k.times
    (run_of machine image (rules_of facts program) entry start n) following visiting
    (k.recurrence machine image (rules_of facts program) entry start n)
