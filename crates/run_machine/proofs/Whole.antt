-- Whole runs.
use Rattle.std.proofs.Common.{◌≡◌, ℕ, zero, suc, ◌<◌, ◌≤◌, true, List, map, get_or, Option, Some, None, is_some, AllPairs, All, sym, ap, ◌∙◌, subst, refl, arith, ⊎_elim}
use Rattle.std.proofs.lemmas.List.{get_or-map, length-map}
use Rattle.std.proofs.lemmas.Bool.{cases_eq}
use Rattle.wx_base.specs.declared.facts.Facts.{Facts}
use Rattle.wx_base.specs.declared.image.Image.{Image}
use Rattle.wx_base.specs.declared.machine.Machine.{Machine}
use Rattle.wx_base.specs.Facts.{AreAscending}
use Rattle.wx_base.specs.Functions.{AreRules, AreLoops}
use Rattle.wx_base.specs.Monitor as monitor
use Rattle.wx_base.specs.Run as runs
use Rattle.flow_graph.specs.declared.program.Program.{Program}
use Rattle.flow_graph.specs.Program.{bounded_loop, judged_function, rules_of}
use Rattle.run_machine.specs.declared.report.End.{End}
use Rattle.run_machine.specs.declared.report.End.TheVariants as ended
use Rattle.run_machine.specs.declared.report.Report.{Report}
use Rattle.run_machine.specs.declared.walk.Walk.{Walk}
use Rattle.run_machine.specs.Judging.{Ordered}
use Rattle.run_machine.specs.Report.{end_of, report_of}
use Rattle.run_machine.specs.Walk.{Shows, Follows}

all_from : {X Y : Type 0} (P : Y → Type 0) (f : X → Y) (xs : List X) → All P (map f xs) → All (λ x. P (f x)) xs
all_from P f xs all k d lt =
    subst P (get_or-map f xs k d (f d) lt) (all k (f d) (omega (arith, length-map xs f)))

pairs_from : {X Y : Type 0} (R : Y → Y → Type 0) (f : X → Y) (xs : List X) → AllPairs R (map f xs) → AllPairs (λ a b. R (f a) (f b)) xs
pairs_from R f xs all i j d lt within =
    subst (λ y. R (f (get_or xs i d)) y) (get_or-map f xs j d (f d) within)
    (subst (λ y. R y (get_or (map f xs) j (f d))) (get_or-map f xs i d (f d) (omega arith)) (all i j (f d) lt (omega (arith, length-map xs f))))

-- the functions of a program are in order
pub ordered : (image : Image) (facts : Facts) (entry : ℕ) (program : Program) → AreRules image facts entry (rules_of facts program) → Ordered program.functions
ordered image facts entry program rules =
    let loops : All (λ f. AreLoops image facts f.entry (map bounded_loop f.loops)) program.functions = all_from (λ f. AreLoops image facts f.entry f.loops) judged_function program.functions rules.functions.loops in
    record {
      entries = pairs_from (λ f g. f.entry < g.entry) judged_function program.functions rules.functions.ascending;
      heads = λ k d lt. pairs_from (λ l m. l.head < m.head) bounded_loop (get_or program.functions k d).loops (loops k d lt).ascending;
      members = λ k d lt. all_from (λ l. AreAscending l.members) bounded_loop (get_or program.functions k d).loops
          (λ i l within. ((loops k d lt).each i l within).ascending);
    }

ended_same : (m : Machine) (image : Image) (rules : monitor.Rules) (run : runs.Run) (end : Option runs.End) → is_some end ≡ true → runs.advanced m image rules run end ≡ run
ended_same m image rules run None e = absurd (cc)
ended_same m image rules run (Some end) e = refl

one_more : (m : Machine) (image : Image) (rules : monitor.Rules) (entry : ℕ) (start : runs.Start) (n : ℕ) → runs.run_of m image rules entry start (suc n) ≡ runs.advanced m image rules (runs.run_of m image rules entry start n) (runs.run_of m image rules entry start n).end
unfolding runs.run_of
one_more m image rules entry start n = refl

-- a run that has ended stays as it is
module _ (m : Machine) (image : Image) (rules : monitor.Rules) (entry : ℕ) (start : runs.Start) where
  stays_over : (k n : ℕ) → k ≤ n → is_some (runs.run_of m image rules entry start k).end ≡ true → runs.run_of m image rules entry start n ≡ runs.run_of m image rules entry start k
  stays_over k zero le over = ap (runs.run_of m image rules entry start) (omega arith)
  stays_over k (suc n) le over =
      ⊎_elim (λ same. ap (runs.run_of m image rules entry start) (sym same))
      (λ other.
      let before = stays_over k n (omega arith) over in
      one_more m image rules entry start n
      ∙ ap (λ (run : runs.Run). runs.advanced m image rules run run.end) before
      ∙ ended_same m image rules (runs.run_of m image rules entry start k) _ over)
      (cases_eq k (suc n))

-- the report of a run that has ended
pub reported : (m : Machine) (image : Image) (facts : Facts) (program : Program) (entry : ℕ) (start : runs.Start) (k n : ℕ) (end : End) (walk : Walk) → k < n → Follows m image facts program (runs.advanced m image (rules_of facts program) (runs.run_of m image (rules_of facts program) entry start k) (runs.run_of m image (rules_of facts program) entry start k).end) (Some end) walk
    → record { time = walk.clock.time; steps = walk.clock.steps; end = end } ≡ report_of (runs.run_of m image (rules_of facts program) entry start n)
reported m image facts program entry start k n end walk lt follows =
    let rules = rules_of facts program in
    let step = one_more m image rules entry start k in
    let over : is_some (runs.run_of m image rules entry start (suc k)).end ≡ true = ap (λ (run : runs.Run). is_some run.end) step ∙ follows.1 in
    sym (ap report_of (stays_over m image rules entry start (suc k) n (omega arith) over ∙ step) ∙ follows.0)

-- one more step of a run that goes on
pub longer : (m : Machine) (image : Image) (facts : Facts) (program : Program) (entry : ℕ) (start : runs.Start) (k n : ℕ) (walk : Walk) → n ≡ suc k → Follows m image facts program (runs.advanced m image (rules_of facts program) (runs.run_of m image (rules_of facts program) entry start k) (runs.run_of m image (rules_of facts program) entry start k).end) None walk
    → Shows m image facts program (runs.run_of m image (rules_of facts program) entry start n) walk
longer m image facts program entry start k n walk is follows =
    let P : runs.Run → Type 0 = λ run. Shows m image facts program run walk in
    subst P (sym (ap (runs.run_of m image (rules_of facts program) entry start) is ∙ one_more m image (rules_of facts program) entry start k)) follows

-- a run at its beginning
pub begins : (m : Machine) (image : Image) (facts : Facts) (program : Program) (entry : ℕ) (start : runs.Start) (walk : Walk) → Shows m image facts program (runs.begun entry start) walk → Shows m image facts program (runs.run_of m image (rules_of facts program) entry start 0) walk
unfolding runs.run_of
begins m image facts program entry start walk s = s

-- the report of a run that has not ended
pub limited : (m : Machine) (image : Image) (facts : Facts) (program : Program) (run : runs.Run) (walk : Walk) → Shows m image facts program run walk → record { time = walk.clock.time; steps = walk.clock.steps; end = ended.Limit } ≡ report_of run
limited m image facts program run walk s = cc

-- a run that has ended is not cut by a limit
not_limit : (run : runs.Run) (end : Option runs.End) → is_some end ≡ true → end_of run end ≡ ended.Limit → ⊥
not_limit run None over e = cc
not_limit run (Some runs.Finished) over e = cc
not_limit run (Some (runs.Halted why)) over e = cc
not_limit run (Some (runs.Broken fact)) over e = cc

pub over_not_limited : (m : Machine) (image : Image) (facts : Facts) (program : Program) (run : runs.Run) (end : End) (walk : Walk) → Follows m image facts program run (Some end) walk → end ≡ ended.Limit → ⊥
over_not_limited m image facts program run end walk follows e =
    not_limit run run.end follows.1 (ap (λ (r : Report). r.end) follows.0 ∙ e)
