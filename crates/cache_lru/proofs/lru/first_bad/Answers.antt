use Rattle.std.proofs.Common.{ℕ, List, below_more, subst, sym, ◌∙◌, arith}
use Rattle.wx_base.specs.Cache.{IsSet}
use Rattle.cache_lru.proofs.Caches.{list_there}
use Rattle.cache_lru.proofs.lru.first_bad.Goals as goal

pub loop-set-preserved : goal.loop-set-preserved
loop-set-preserved c =
    let there = list_there (λ list. list.items) c.args.lists.now c.loop-set.set c.index-lists-set.result (omega arith) c.index-lists-set.is in
    let P : List ℕ → Type 0 = λ lines. IsSet c.args.shape c.loop-set.set lines in
    below_more _ _ c.loop-set.invariant (subst P (c.as_slice.ensures.value ∙ sym there) (c.is_set.ensures.0 c.if-not-is_set.false))
