use Rattle.std.proofs.Common.{◌<◌, List, length, refl, sym, subst, ◌∙◌, ap, map}
use Rattle.std.specs.List.{All}
use Rattle.cache_flow.specs.declared.flow.Move.{Move}
use Rattle.cache_kept.specs.Ways.{turned}
use Rattle.cache_kept.proofs.WaysLemmas.{sources_same, targets_from, turned_within}
use Rattle.cache_kept.proofs.ways.Ways.new.Goals as goal

pub sources_of-requires-2 : goal.sources_of-requires-2
sources_of-requires-2 c =
    subst (λ n. All (λ (m : Move). m.to < n) c.as_slice.result.now) (sym c.len-2.ensures)
    (turned_within (length c.args.flow.now.nodes) c.args.flow.now.moves c.as_slice.result.now (c.as_slice.ensures.value ∙ c.in_ok-back.ensures ∙ ap (λ (ms : List Move). map turned ms) c.as_slice-moves.ensures)
    c.requires.from)

pub returns : goal.returns
returns c = record {
  sources = sources_same c.len.result (length c.args.flow.now.nodes) c.as_slice-moves.result.now c.args.flow.now.moves c.in_ok-sources.sources.items c.len.ensures c.as_slice-moves.ensures c.in_ok-sources.ensures;
  targets = targets_from (length c.args.flow.now.nodes) c.args.flow.now.moves c.as_slice.result.now c.in_ok-targets.targets.items
      (c.as_slice.ensures.value ∙ c.in_ok-back.ensures ∙ ap (λ (ms : List Move). map turned ms) c.as_slice-moves.ensures)
      (sources_same c.len-2.result (length c.args.flow.now.nodes) c.as_slice.result.now c.as_slice.result.now c.in_ok-targets.targets.items c.len-2.ensures refl c.in_ok-targets.ensures);
}
