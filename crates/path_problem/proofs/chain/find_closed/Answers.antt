use Rattle.std.proofs.Common.{ℕ, ◌<◌, length, sym, subst, ◌∙◌, arith}
use Rattle.path_problem.specs.Chain.{IsTrail}
use Rattle.path_problem.proofs.ChainLemmas.{chain_links, on_trail, closed_end, ranked_trail}
use Rattle.path_problem.proofs.chain.find_closed.Goals.{else-ranks-end-eq0-via-then-ranks-end-eq0+else-is_some, else-ranks-end-eq0-via-else-ranks-end-eq0}
use Rattle.path_problem.proofs.chain.find_closed.Goals as goal

pub closed_part-requires-clause-links : goal.closed_part-requires-clause-links
closed_part-requires-clause-links c =
    let t = c.in_ok-trail.ensures.trail in
    let below : c.loop-first.first < length c.args.next.now = omega arith in
    chain_links c.args.links.now c.args.next.now c.requires.pointers c.in_ok-trail.trail.links.items c.in_ok-trail.trail.first c.in_ok-trail.trail.end
    (subst (λ (n : ℕ). n < length c.args.next.now) (sym c.in_ok-trail.ensures.first) below) t.chain

pub closed_part-requires-clause-leaves : goal.closed_part-requires-clause-leaves
closed_part-requires-clause-leaves c =
    let below : c.loop-first.first < length c.args.next.now = omega arith in
    let T : ℕ → Type 0 = λ n. IsTrail c.args.links.now c.args.next.now n c.loop-first.marks c.trail_from.new.marks c.in_ok-trail.trail.links.items c.in_ok-trail.trail.end in
    let t = subst T c.in_ok-trail.ensures.first c.in_ok-trail.ensures.trail in
    on_trail _ _ c.requires.pointers _ _ _ _ _ below c.loop-first.invariant _ _ t c.if-ranks-end-eq0.true (sym c.is_some.ensures ∙ c.if-is_some.true)

pub returns-then-is_some : goal.returns-then-is_some
returns-then-is_some c =
    let below : c.loop-first.first < length c.args.next.now = omega arith in
    let T : ℕ → Type 0 = λ n. IsTrail c.args.links.now c.args.next.now n c.loop-first.marks c.trail_from.new.marks c.in_ok-trail.trail.links.items c.in_ok-trail.trail.end in
    let t = subst T c.in_ok-trail.ensures.first c.in_ok-trail.ensures.trail in
    closed_end _ _ c.requires.pointers _ _ _ _ _ below c.loop-first.invariant _ _ t _ c.in_ok-closed_part.ensures

pub loop-first-preserved : goal.loop-first-preserved
loop-first-preserved c =
    let below : c.loop-first.first < length c.args.next.now = omega arith in
    let T : ℕ → Type 0 = λ n. IsTrail c.args.links.now c.args.next.now n c.loop-first.marks c.trail_from.new.marks c.in_ok-trail.trail.links.items c.in_ok-trail.trail.end in
    let t = subst T c.in_ok-trail.ensures.first c.in_ok-trail.ensures.trail in
    ranked_trail _ _ c.requires.pointers _ _ _ _ _ below c.loop-first.invariant _ _ t _ _ _ (c.trail_from.auto.marks ∙ c.loop-first.invariant.size) c.rank-count.ensures.keeps c.rank-count.ensures.ranked c.rank_back-count.ensures.keeps c.rank_back-count.ensures.all c.rank_back-count.ensures.ranking
