use Rattle.std.proofs.Common.{◌∙◌, ◌-◌, ℕ, List, length, slice_get, sym, ap}
use Rattle.cache_class.proofs.ChainLemmas.{chain_at, last_is}
use Rattle.cache_class.proofs.TableLemmas.{stands_at}
use Rattle.cache_class.proofs.chains.last_loop.Goals as goal

pub returns : goal.returns
returns c =
    let chain = c.index-chains-node.result in
    c.copied.ensures ∙ c.last.ensures.value ∙ ap (λ (xs : List ℕ). slice_get xs (length xs - 1)) c.as_slice.ensures.value ∙ last_is chain.items
    ∙ sym (chain_at c.args.chains.now c.args.node chain (stands_at c.args.chains.now c.args.node chain c.requires c.index-chains-node.is))
