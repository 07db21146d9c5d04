use Rattle.std.proofs.Common.{◌++◌, ◌∷◌, [], List, subst, sym}
use Rattle.flow_ctx.specs.declared.target.Target.{Target}
use Rattle.flow_ctx.specs.Targets.{Adds, At}
use Rattle.flow_ctx.proofs.TargetLemmas.{adds_none, pushed}
use Rattle.flow_ctx.proofs.leading.push_place.Goals as goal

pub returns-in_ok-push : goal.returns-in_ok-push
returns-in_ok-push c =
    subst (λ (l : List Target). Adds (At c.args.program.now c.args.chain.items c.args.start c.args.taken) c.args.targets.now.items l) (sym c.in_ok-push.ensures.items)
    (pushed c.args.program.now c.requires c.args.chain.items c.args.start c.args.taken c.args.targets.now.items c.in-Some.place c.in-Some.ensures)

pub returns-in_default : goal.returns-in_default
returns-in_default c = adds_none (At c.args.program.now c.args.chain.items c.args.start c.args.taken) c.args.targets.now.items
    (λ taken node a. c.in_default.ensures node a.1)
