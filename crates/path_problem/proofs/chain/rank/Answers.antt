use Rattle.path_problem.proofs.ChainLemmas.{rank_more}
use Rattle.path_problem.proofs.chain.rank.Goals as goal

pub returns-then-ranks-number-eq0-clause-ranking : goal.returns-then-ranks-number-eq0-clause-ranking
returns-then-ranks-number-eq0-clause-ranking c =
    rank_more c.args.links.now c.args.next.now c.requires.pointers c.args.ranks.now c.args.count c.args.number c.requires.number c.requires.ranking c.if-ranks-number-eq0.true (c.requires.can c.if-ranks-number-eq0.true)
