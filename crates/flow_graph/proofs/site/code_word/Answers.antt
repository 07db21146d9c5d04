use Rattle.std.proofs.Common.{sym, ◌∙◌, arith}
use Rattle.flow_graph.proofs.SiteLemmas.{code_covered}
use Rattle.flow_graph.proofs.site.code_word.Goals as goal

pub unwrap-requires : goal.unwrap-requires
unwrap-requires c =
    c.word_at.ensures.found.1 (code_covered c.args.image.now c.args.address (omega arith) c.requires)

pub returns : goal.returns
returns c = sym c.word_at.ensures.value ∙ c.unwrap.ensures
