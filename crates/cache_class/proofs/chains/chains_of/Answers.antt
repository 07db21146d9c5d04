use Rattle.std.proofs.Common.{◌≡◌, ◌∙◌, [], ℕ, List, length, sym, subst}
use Rattle.std.specs.Global.{Vec}
use Rattle.std.specs.List.{AllPairs, Contains}
use Rattle.cache_class.specs.Chains.{AreChains, AreEmpty, HasWithin}
use Rattle.cache_class.proofs.ChainLemmas.{no_chains, written}
use Rattle.cache_class.proofs.chains.chains_of.Goals as goal

pub push_all-requires-clause-order : goal.push_all-requires-clause-order
push_all-requires-clause-order c number there =
    (c.in_ok-order.ensures.exact number).0 (subst (λ (numbers : List ℕ). Contains numbers number) c.as_slice.ensures.value there)

pub push_all-requires-clause-chains : goal.push_all-requires-clause-chains
push_all-requires-clause-chains c =
    subst (λ (chains : List (Vec ℕ)). AreChains c.args.u.now [] chains) (sym c.as_mut_slice.ensures.value)
    (no_chains c.args.u.now c.in_ok-loops.loops.items (subst (λ (n : ℕ). AreEmpty n c.in_ok-loops.loops.items) c.len.ensures c.in_ok-loops.ensures))

pub returns : goal.returns
returns c =
    let u = c.args.u.now in
    let told = c.in_ok-are_nested.ensures in
    let order : c.as_slice.result.now ≡ c.in_ok-order.order.items = c.as_slice.ensures.value in
    let long : length c.push_all.new.chains ≡ length c.in_ok-loops.loops.items = told.chains.long ∙ sym (c.in_ok-loops.ensures.long ∙ c.len.ensures) in
    record {
      order = c.in_ok-order.order.items;
      ordered = c.in_ok-order.ensures;
      chains = subst (λ (chains : List (Vec ℕ)). AreChains u c.in_ok-order.order.items chains) (sym (written c.in_ok-loops.loops c.push_all.new.chains long))
          (subst (λ (numbers : List ℕ). AreChains u numbers c.push_all.new.chains) order told.chains);
      nested = λ yes. subst (λ (numbers : List ℕ). AllPairs (HasWithin u) numbers) order (told.nested yes);
    }
