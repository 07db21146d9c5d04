-- Runs visit nodes.
use Rattle.std.proofs.Common.{◌≡◌, ℕ, ◌-◌, ◌≤◌, List, [], ◌∷◌, length, take, slice_get, refl, ap, subst}
use Rattle.std.specs.Prelude.{Contains, Option, Some}
use Rattle.std.specs.Option.{option_map_or}
use Rattle.wx_base.specs.declared.facts.Facts.{Facts}
use Rattle.wx_base.specs.declared.image.Image.{Image}
use Rattle.wx_base.specs.declared.machine.Machine.{Machine}
use Rattle.wx_base.specs.Machine.{IsMachine}
use Rattle.wx_base.specs.Run.{IsStart, Run, Start, run_of}
use Rattle.arm_code.specs.Encoding.{WordsAreSpelled}
use Rattle.flow_graph.specs.declared.program.Program.{Program}
use Rattle.flow_graph.specs.Program.{rules_of}
use Rattle.flow_graph.specs.Refusals.{IsSoundProgram}
use Rattle.flow_ctx.specs.declared.scope.Scope.{Scope}
use Rattle.flow_ctx.specs.declared.scope.Scope.TheVariants.{Run as RunScope, Loop}
use Rattle.flow_ctx.specs.declared.unfolded.ULoop.{ULoop}
use Rattle.flow_ctx.specs.declared.unfolded.Unfolded.{Unfolded}
use Rattle.flow_ctx.specs.Stays.{StaysIn}
use Rattle.flow_ctx.specs.Unfolding.{IsUnfolding}
use Rattle.run_laws.specs.Ranges.{ExecutedWordsAreTheImages, StepsStayInRange}
use Rattle.run_laws.specs.Stepping.{SlowStepsMayBeSlow}
use Rattle.ctx_laws.specs.Following.{IsFollowing}
use Rattle.ctx_laws.specs.Laws.{StaysAreAtMembers}
use Rattle.cache_lru.specs.Laws.{AccessKeepsCache, SecondAccessHits}
use Rattle.cache_flow.specs.Flows.{IsFlow, Part}
use Rattle.cache_flow.specs.Laws.{BarredLinesAreAbsent, HeldLinesAreThere, KeptInStays}
use Rattle.cache_class.specs.declared.class.Classes.{Classes}
use Rattle.cache_class.specs.Classes.{AreClasses}
use Rattle.cache_class.specs.Laws.{UnfoldingsFlow}
use Rattle.class_laws.specs.Laws.{RunsVisitNodes}
use Rattle.class_laws.specs.Visits.{IsVisiting, Visit, misses_in}
use Rattle.class_laws.proofs.Allowed.{are_visits, is_visit}
use Rattle.class_laws.proofs.Cut.{IsCut, entries_are, is_cut, visit_by, visited_by}
use Rattle.class_laws.proofs.Fits.{last_taken}
use Rattle.class_laws.proofs.Groups.{once_in_stay}
use Rattle.class_laws.proofs.Lists.{listed}
use Rattle.class_laws.proofs.Loops.{AreOnce, none_outside, once_for_each}
use Rattle.class_laws.proofs.Runs.{runs_are_met}
use Rattle.class_laws.proofs.Visited.{IsVisited}
use Rattle.class_laws.proofs.Staying.{in_loop, in_run, in_scope}

-- the laws of the crates below
pub record AreKnown : Type 0 where
  pub keeps : AccessKeepsCache
  pub again : SecondAccessHits
  pub spelled : WordsAreSpelled
  pub slow : SlowStepsMayBeSlow
  pub ranges : StepsStayInRange
  pub words : ExecutedWordsAreTheImages
  pub members : StaysAreAtMembers
  pub held : HeldLinesAreThere
  pub barred : BarredLinesAreAbsent
  pub kept : KeptInStays
  pub flows : UnfoldingsFlow

module _ (known : AreKnown) (image : Image) (facts : Facts) (entry : ℕ) (machine : Machine) (program : Program) (u : Unfolded) (classes : Classes) (start : Start) (n : ℕ)
    (is_machine : IsMachine machine) (sound : IsSoundProgram image facts entry machine program) (unfolds : IsUnfolding program u) (are : AreClasses u machine classes)
    (started : IsStart machine image entry start) (following : IsFollowing u (run_of machine image (rules_of facts program) entry start n)) where
  abbrev run_here : Run
  run_here = run_of machine image (rules_of facts program) entry start n

  flow_is : IsFlow are.flow
  flow_is = known.flows program u are.flow unfolds are.of

  cut : IsCut known.keeps known.again known.spelled image facts entry machine program sound.is u unfolds is_machine.shape start.cache started.cached run_here.executed following.walk following.node following.index
  cut =
      is_cut known.keeps known.again known.spelled image facts entry machine program sound.is u unfolds is_machine.shape start.cache started.cached run_here.executed following.walk following.node
      following.index following.follows
      (runs_are_met known.slow known.ranges machine image (rules_of facts program) entry start n started)
      (known.words machine image (rules_of facts program) entry start n started)

  abbrev last : Visit
  last = visit_by known.keeps known.again known.spelled image facts entry machine program sound.is u unfolds is_machine.shape start.cache started.cached following.node cut.block cut.cache cut.recent (last_taken cut.recent)

  last_visited : IsVisited u machine start.cache cut.cache following.node last
  last_visited = visited_by known.keeps known.again known.spelled image facts entry machine program sound.is u unfolds is_machine.shape start.cache started.cached run_here.executed following.walk following.node following.index cut (last_taken cut.recent)

  once_in : (scope : Scope) (line : ℕ) (since : List ℕ) → StaysIn u scope following.walk since
      → misses_in classes line scope (last ∷ take (length following.walk - length since) cut.visits) ≤ 1
  once_in scope line since stay =
      once_in_stay known.kept u machine classes are is_machine.shape flow_is start.cache scope (take (length following.walk - length since) cut.visits) following.node cut.cache
      (in_scope known.keeps known.kept known.members image facts entry machine program sound u unfolds classes are is_machine.shape flow_is start.cache started.cached
      cut.visits scope following.walk since following.node cut.cache cut.visited stay)
      last last_visited line

  once_in_run : (line : ℕ) → misses_in classes line RunScope (last ∷ cut.visits) ≤ 1
  once_in_run line =
      once_in_stay known.kept u machine classes are is_machine.shape flow_is start.cache RunScope cut.visits following.node cut.cache
      (in_run known.keeps known.kept known.members image facts entry machine program sound u unfolds classes are is_machine.shape flow_is start.cache started.cached
      cut.visits following.walk following.node cut.cache cut.visited)
      last last_visited line

  are_once : (line number : ℕ) (l : ULoop) → slice_get u.loops number ≡ Some l → AreOnce u machine start.cache classes line number l
  are_once line number l at = record {
    once = λ visits walk since count node cache visit visited stay is.
        once_in_stay known.kept u machine classes are is_machine.shape flow_is start.cache (Loop number) (take (length walk - length since) visits) node cache
        (in_loop known.keeps known.kept known.members image facts entry machine program sound u unfolds classes are is_machine.shape flow_is start.cache started.cached
        number l at visits walk since count node cache visited stay)
        visit is line;
    outside = λ node cache visit is apart.
        none_outside known.kept u machine classes are is_machine.shape flow_is start.cache (Loop number) node cache visit is line
        (λ c. apart (subst (λ (p : Part). Contains p.members node) (ap (λ (o : Option ULoop). option_map_or (λ (l : ULoop). record { head = l.head; members = l.members }) o (record { head = 0; members = [] })) at) c));
  }

  pub is_visiting : IsVisiting u classes run_here.executed following.walk following.node following.index
  is_visiting = record {
    visits = cut.visits;
    last = last;
    along = are_visits known.held known.barred u machine classes are is_machine.shape start.cache started.cached cut.visits following.walk following.node cut.cache cut.visited;
    here = refl;
    at = is_visit known.held known.barred u machine classes are is_machine.shape start.cache started.cached cut.visits following.walk following.node cut.cache last cut.visited last_visited;
    short = cut.short;
    are = entries_are known.keeps known.again known.spelled image facts entry machine program sound.is u unfolds is_machine.shape start.cache started.cached run_here.executed following.walk following.node following.index cut
        (last_taken cut.recent) refl;
    stays = once_in;
    whole = once_in_run;
    loops = λ number line count l at takes.
        once_for_each u machine start.cache classes line number l (are_once line number l at) following.walk
        (λ earlier node part member. following.stays l earlier node (listed u.loops number l at) part member)
        cut.visits following.node count cut.cache last cut.visited last_visited takes;
  }

pub runs_visit_nodes : AreKnown → RunsVisitNodes
runs_visit_nodes known image facts entry machine program u classes start n ends is_machine sound unfolds are started following =
    is_visiting known image facts entry machine program u classes start n is_machine sound unfolds are started following
