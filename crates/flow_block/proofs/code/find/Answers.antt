use Rattle.std.proofs.Common.{Option, ℕ, subst, sym}
use Rattle.flow_block.specs.Code.{Found}
use Rattle.flow_block.proofs.Marks.{found}
use Rattle.flow_block.proofs.code.find.Goals as goal

pub returns : goal.returns
returns c = subst (λ (r : Option ℕ). Found c.args.addresses.now c.args.address r) (sym c.ok.ensures.value) (found _ _ _ c.requires c.binary_search.ensures.position)
