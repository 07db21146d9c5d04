use Rattle.std.proofs.Common.{◌≡◌, refl, sym, subst, ◌∙◌, arith}
use Rattle.std.proofs.lemmas.Bool.{false≢true}
use Rattle.std.proofs.lemmas.Option.{same_Some, slice_get_within}
use Rattle.flow_ctx.specs.declared.unfolded.Edge.{Edge}
use Rattle.cert_check.specs.Places.{IsCost}
use Rattle.cert_check.proofs.PayLemmas.{answer_leaves, cost_found}
use Rattle.cert_check.proofs.StayLemmas.{cost_stays, keeps_twice, site_stays}
use Rattle.cert_check.proofs.edges.paid_cost.Goals as goal

pub leave_along-requires-clause-node : goal.leave_along-requires-clause-node
leave_along-requires-clause-node c =
    let from = c.requires.from c.edge_at-edge.result.now c.edge_at-edge.ensures in
    omega (arith, from, c.requires.node)

pub leaving-leaving-requires : goal.leaving-leaving-requires
leaving-leaving-requires c = slice_get_within c.leave_along.new.work.memo.leavings c.in_ok-answer.answer c.in_ok-answer.ensures.answer.leaving c.in_ok-answer.ensures.answer.listed

pub edge_pays-requires-clause-site : goal.edge_pays-requires-clause-site
edge_pays-requires-clause-site c =
    let s = c.args.subject.now in
    let w = c.args.site.now in
    site_stays c.args.table.now c.leave_along.new.table c.leave_along.ensures.kept s.unfolded.now s.classes.now s.certificate.now w.node w.classes.now w.charged c.requires.site

pub edge_pays-requires-clause-leaving : goal.edge_pays-requires-clause-leaving
edge_pays-requires-clause-leaving c = λ edge at.
    let s = c.args.subject.now in
    let found = c.edge_at-edge.result.now in
    let same : found ≡ edge = same_Some found edge (sym c.edge_at-edge.ensures ∙ at) in
    answer_leaves c.leave_along.new.table s.unfolded.now s.machine.now c.args.site.now.node c.args.v.now.slots found edge c.leave_along.new.work c.in_ok-answer.answer c.leaving-leaving.result.now
    same (c.requires.from found c.edge_at-edge.ensures) c.in_ok-answer.ensures.answer c.leaving-leaving.ensures

pub returns-in_err-pays-clause-right : goal.returns-in_err-pays-clause-right
returns-in_err-pays-clause-right c =
    let s = c.args.subject.now in
    c.exits_stay.ensures.work c.leave_along.new.table c.edge_pays.new.table s.unfolded.now s.machine.now c.leave_along.new.work c.edge_pays.ensures.kept c.leave_along.ensures.right

pub returns-in_err-pays-clause-kept : goal.returns-in_err-pays-clause-kept
returns-in_err-pays-clause-kept c = keeps_twice c.args.table.now c.leave_along.new.table c.edge_pays.new.table c.leave_along.ensures.kept c.edge_pays.ensures.kept

pub returns-then-pays-clause-cost : goal.returns-then-pays-clause-cost
returns-then-pays-clause-cost c = λ edge at.
    let s = c.args.subject.now in
    let v = c.args.v.now in
    let found = c.edge_at-edge.result.now in
    let leaving = c.leaving-leaving.result.now in
    let node = c.args.site.now.node in
    let same : found ≡ edge = same_Some found edge (sym c.edge_at-edge.ensures ∙ at) in
    let from = c.requires.from found c.edge_at-edge.ensures in (
      c.in_ok-pays.ensures.pays.0 c.if-pays.true,
      subst (λ (e : Edge). IsCost c.edge_pays.new.table s.unfolded.now s.machine.now v e leaving.cost) same
          (cost_stays c.leave_along.new.table c.edge_pays.new.table c.edge_pays.ensures.kept s.unfolded.now s.machine.now v found leaving.cost
          (cost_found c.leave_along.new.table s.unfolded.now s.machine.now node v found leaving from
          (answer_leaves c.leave_along.new.table s.unfolded.now s.machine.now node v.slots found found c.leave_along.new.work c.in_ok-answer.answer leaving refl from c.in_ok-answer.ensures.answer
          c.leaving-leaving.ensures))),
    )

pub returns-then-pays-clause-right : goal.returns-then-pays-clause-right
returns-then-pays-clause-right c =
    let s = c.args.subject.now in
    c.exits_stay.ensures.work c.leave_along.new.table c.edge_pays.new.table s.unfolded.now s.machine.now c.leave_along.new.work c.edge_pays.ensures.kept c.leave_along.ensures.right

pub returns-then-pays-clause-kept : goal.returns-then-pays-clause-kept
returns-then-pays-clause-kept c = keeps_twice c.args.table.now c.leave_along.new.table c.edge_pays.new.table c.leave_along.ensures.kept c.edge_pays.ensures.kept

pub returns-else-pays-clause-cost : goal.returns-else-pays-clause-cost
returns-else-pays-clause-cost c = λ edge at pays. false≢true (sym c.if-pays.false ∙ c.in_ok-pays.ensures.pays.1 pays)

pub returns-else-pays-clause-right : goal.returns-else-pays-clause-right
returns-else-pays-clause-right c =
    let s = c.args.subject.now in
    c.exits_stay.ensures.work c.leave_along.new.table c.edge_pays.new.table s.unfolded.now s.machine.now c.leave_along.new.work c.edge_pays.ensures.kept c.leave_along.ensures.right

pub returns-else-pays-clause-kept : goal.returns-else-pays-clause-kept
returns-else-pays-clause-kept c = keeps_twice c.args.table.now c.leave_along.new.table c.edge_pays.new.table c.leave_along.ensures.kept c.edge_pays.ensures.kept
