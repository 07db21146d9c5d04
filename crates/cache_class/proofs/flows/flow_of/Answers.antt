use Rattle.std.proofs.Common.{◌∙◌, List, map, sym, ap}
use Rattle.flow_ctx.specs.declared.unfolded.Edge.{Edge}
use Rattle.cache_class.specs.Accesses.{move_along}
use Rattle.cache_class.proofs.MadeLemmas.{is_flow}
use Rattle.cache_class.proofs.flows.flow_of.Goals as goal

pub returns : goal.returns
returns c =
    is_flow c.args.u.now c.new.result c.as_slice-2.result.now c.new-2.result c.new-3.result c.in_ok-lines.lines.items (c.new.ensures ∙ c.in_ok-nodes.ensures)
    (c.as_slice-2.ensures.value ∙ sym c.new.ensures) (c.new-2.ensures ∙ c.in_ok-moves.ensures ∙ ap (λ (edges : List Edge). map move_along edges) c.as_slice.ensures)
    c.new-3.ensures c.in_ok-lines.ensures.ascending c.in_ok-lines.ensures.exact
