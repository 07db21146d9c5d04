use Rattle.std.proofs.Common.{List, ℕ, sym, ap, ◌∙◌}
use Rattle.wx_base.specs.CacheStates.{is_rival}
use Rattle.cache_ages.specs.Bounds.{is_one_of}
use Rattle.cache_kept.proofs.NewerLemmas.{rival_added, rival_distinct}
use Rattle.cache_kept.proofs.newer.add_rival.Goals as goal

pub returns-clause-distinct : goal.returns-clause-distinct
returns-clause-distinct c =
    rival_distinct c.args.found.now.items c.push.new.self.items c.args.other c.in_ok-push.ensures.items
    (ap (λ (xs : List ℕ). is_one_of xs c.args.other) (sym c.deref.ensures.value) ∙ sym c.contains.ensures.value ∙ c.if-contains.false) c.requires.distinct

pub returns-clause-exact : goal.returns-clause-exact
returns-clause-exact c =
    rival_added c.args.found.now.items c.push.new.self.items (is_rival c.args.shape c.args.line) c.args.other c.in_ok-push.ensures.items (sym c.is_rival.ensures ∙ c.if-not-is_rival.false)
