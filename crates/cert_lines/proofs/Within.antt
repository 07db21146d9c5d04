-- Behind the end of a text no byte goes on.
use Rattle.std.proofs.Common.{◌≡◌, ◌≢◌, ℕ, Bool, true, false, cond, ◌&&◌, ◌==◌, List, [], ◌∷◌, ◌++◌, Some, None, refl, sym, ap, subst, ◌∙◌}
use Rattle.std.specs.Prelude.{Option}
use Rattle.cert_lines.specs.declared.kind.Version.{Version}
use Rattle.cert_lines.specs.declared.kind.Version.TheVariants.{One, Two}
use Rattle.cert_lines.specs.declared.kind.Kind.{Kind}
use Rattle.cert_lines.specs.declared.kind.Kind.TheVariants as kind
use Rattle.cert_lines.specs.Table.{may_stand}
use Rattle.cert_lines.specs.Grammar.{Line, IsText}
use Rattle.cert_lines.specs.Machine.{State, start, step, run, lettered, allowed, opened}
use Rattle.cert_lines.specs.Machine.State.{Between, Within}
use Rattle.cert_lines.proofs.Runs.{run-append, lines_run}
use Rattle.cert_lines.proofs.Sound.{none_is}

none_behind : (v : Version) (o : Option Kind) → allowed v 9 o ≡ None
none_behind v None = refl
none_behind One (Some kind.Node) = refl
none_behind Two (Some kind.Node) = refl
none_behind One (Some kind.Vector) = refl
none_behind Two (Some kind.Vector) = refl
none_behind One (Some kind.Count) = refl
none_behind Two (Some kind.Count) = refl
none_behind One (Some kind.Listed) = refl
none_behind Two (Some kind.Listed) = refl
none_behind One (Some kind.Places) = refl
none_behind Two (Some kind.Places) = refl
none_behind One (Some kind.Charge) = refl
none_behind Two (Some kind.Charge) = refl
none_behind One (Some kind.Multiplier) = refl
none_behind Two (Some kind.Multiplier) = refl
none_behind One (Some kind.Total) = refl
none_behind Two (Some kind.Total) = refl
none_behind One (Some kind.Bound) = refl
none_behind Two (Some kind.Bound) = refl
none_behind v (Some kind.Head) = refl
none_behind v (Some kind.End) = refl

stops : (v : Version) (lines : List Line) (c : ℕ) → step (Between v lines (Some kind.End)) c ≡ None
unfolding step
stops v lines c = ap (opened v lines c) (none_behind v (lettered v 9 c))

run_stops : (v : Version) (lines : List Line) (c : ℕ) (more : List ℕ) → run (Some (Between v lines (Some kind.End))) (c ∷ more) ≡ None
run_stops v lines c more = ap (λ (s : Option State). run s more) (stops v lines c) ∙ nothing more
  where
    nothing : (more : List ℕ) → run None more ≡ None
    nothing more = refl

pub none_within : (v w : Version) (lines others : List Line) (bytes more : List ℕ) → more ≢ [] → IsText bytes v lines → IsText (bytes ++ more) w others → ⊥
none_within v w lines others bytes [] some so longer = some refl
none_within v w lines others bytes (c ∷ more) some so longer =
    let e : run (Some start) (bytes ++ c ∷ more) ≡ None =
    run-append (Some start) bytes (c ∷ more) ∙ ap (λ (s : Option State). run s (c ∷ more)) (lines_run v lines (Some kind.End) bytes so) ∙ run_stops v lines c more in
    none_is (sym e ∙ lines_run w others (Some kind.End) (bytes ++ c ∷ more) longer)
