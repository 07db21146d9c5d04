use Rattle.std.proofs.Common.{Bool, subst, sym}
use Rattle.std.specs.Prelude.{Decides}
use Rattle.std.specs.List.{Contains}
use Rattle.flow_ctx.proofs.MemberLemmas.{told_listed}
use Rattle.flow_ctx.proofs.members.is_listed.Goals as goal

pub returns : goal.returns
returns c = subst (λ (b : Bool). Decides b (Contains c.args.numbers.now c.args.number)) (sym c.is_ok.ensures.value)
    (told_listed c.args.numbers.now c.args.number c.binary_search.result c.requires c.binary_search.ensures.bound c.binary_search.ensures.position)
