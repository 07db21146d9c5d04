use Rattle.std.proofs.Common.{List, ℕ, sym, subst, set, true}
use Rattle.path_problem.specs.Net.{link_at}
use Rattle.path_problem.proofs.ChainLemmas.{TrailSoFar, trail_more}
use Rattle.path_problem.proofs.chain.trail_from.Goals as goal

pub steps-preserved : goal.steps-preserved
steps-preserved c =
    let F : List ℕ → Type 0 = λ w. TrailSoFar c.args.links.now c.args.next.now c.args.first c.args.marks.now (set c.steps.marks c.steps.end true) w (link_at c.args.links.now c.in-Some.link).to in
    subst F (sym c.in_ok-push-in-Some.ensures.items)
    (trail_more c.args.links.now c.args.next.now c.requires.pointers c.args.first c.args.marks.now c.steps.marks c.steps.trail.items c.steps.end c.in-Some.link c.steps.invariant c.steps-test.true c.in-Some.is)
