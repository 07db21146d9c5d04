use Rattle.std.proofs.Common.{ℕ, ◌<◌, length, get_or, sym, subst}
use Rattle.path_problem.specs.Chain.{CanRank}
use Rattle.path_problem.proofs.ChainLemmas.{can_step, step_back}
use Rattle.path_problem.proofs.chain.rank_back.Goals as goal

pub source_of-requires : goal.source_of-requires
source_of-requires c = (can_step _ _ c.requires.pointers _ _ _ _ _ _ _ _ c.requires.first c.in-Some.ensures.items c.steps.invariant).link

pub rank-count-requires-clause-number : goal.rank-count-requires-clause-number
rank-count-requires-clause-number c =
    subst (λ (u : ℕ). u < length c.args.next.now) (sym c.source_of.ensures) (can_step _ _ c.requires.pointers _ _ _ _ _ _ _ _ c.requires.first c.in-Some.ensures.items c.steps.invariant).within

pub rank-count-requires-clause-can : goal.rank-count-requires-clause-can
rank-count-requires-clause-can c = λ _.
    subst (CanRank c.args.links.now c.args.next.now c.steps.ranks) (sym c.source_of.ensures) (can_step _ _ c.requires.pointers _ _ _ _ _ _ _ _ c.requires.first c.in-Some.ensures.items c.steps.invariant).can

pub steps-preserved : goal.steps-preserved
steps-preserved c =
    step_back _ _ c.requires.pointers _ _ _ _ _ _ _ _ _ _ c.requires.first c.in-Some.ensures.items c.steps.invariant
    c.rank-count.ensures.ranking (subst (λ (u : ℕ). 0 < get_or c.rank-count.new.ranks u 0) c.source_of.ensures c.rank-count.ensures.ranked) c.rank-count.ensures.keeps
