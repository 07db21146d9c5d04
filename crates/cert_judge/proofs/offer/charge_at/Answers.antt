use Rattle.cert_judge.proofs.KeepLemmas.{keeps_twice, keeps_thrice}
use Rattle.cert_judge.proofs.offer.charge_at.Goals as goal

pub returns-in_err-miss-clause-kept : goal.returns-in_err-miss-clause-kept
returns-in_err-miss-clause-kept c = keeps_twice c.args.table.now c.leaf.new.self c.leaf-2.new.self c.leaf.ensures.kept c.leaf-2.ensures.kept

pub branch-table-requires-clause-hit_after : goal.branch-table-requires-clause-hit_after
branch-table-requires-clause-hit_after c =
    c.leaf-2.ensures.kept.begins c.args.event c.in_ok-hit.hit.place c.in_ok-hit.ensures.within (c.in_ok-hit.ensures.after c.args.event)

pub branch-table-requires-clause-miss_after : goal.branch-table-requires-clause-miss_after
branch-table-requires-clause-miss_after c = c.in_ok-miss.ensures.after c.args.event

pub returns-clause-kept : goal.returns-clause-kept
returns-clause-kept c =
    keeps_thrice c.args.table.now c.leaf.new.self c.leaf-2.new.self c.branch-table.new.self
    c.leaf.ensures.kept c.leaf-2.ensures.kept c.branch-table.ensures.kept
