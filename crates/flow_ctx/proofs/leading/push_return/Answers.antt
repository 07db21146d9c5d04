use Rattle.std.proofs.Common.{true, List, [], subst, sym, ◌≡◌, length}
use Rattle.std.proofs.lemmas.List.{nil_from_length}
use Rattle.flow_block.specs.Sites.{behind}
use Rattle.flow_ctx.specs.declared.unfolded.Call.{Call}
use Rattle.flow_ctx.specs.Targets.{Adds, At}
use Rattle.flow_ctx.proofs.TargetLemmas.{returns_nowhere, returns_to}
use Rattle.flow_ctx.proofs.leading.push_return.Goals as goal

pub returns-in_ok-push_place : goal.returns-in_ok-push_place
returns-in_ok-push_place c =
    returns_to c.args.program.now c.requires c.args.chain.now c.in-Some.callers.now c.in-Some.last.now c.args.block.now c.args.targets.now.items c.push_place.new.targets.items
    c.if-not-block.false (c.in-Some.ensures.cases.0)
    (subst (λ (l : List Call). Adds (At c.args.program.now l (behind c.in-Some.last.now.site 1) true) c.args.targets.now.items c.push_place.new.targets.items)
    c.in_ok-callers.ensures.items c.in_ok-push_place.ensures)

pub returns-in_default : goal.returns-in_default
returns-in_default c = returns_nowhere c.args.program.now c.requires c.args.chain.now c.args.block.now c.args.targets.now.items (nil_from_length c.args.chain.now c.in_default.ensures.cases)
