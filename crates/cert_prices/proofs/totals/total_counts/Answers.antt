use Rattle.std.proofs.Common.{length, subst, sym, ap, arith}
use Rattle.cert_prices.proofs.BackLemmas.{loop_at}
use Rattle.cert_prices.proofs.CountLemmas.{FirstCounts, all_counted, none_counted, one_counted}
use Rattle.cert_prices.proofs.ReadLemmas.{element}
use Rattle.cert_prices.proofs.totals.total_counts.Goals as goal

pub loop-l-init : goal.loop-l-init
loop-l-init c = subst (FirstCounts c.args.u.now 0) (sym c.new-counts.ensures.empty) (none_counted c.args.u.now)

pub note_total-requires : goal.note_total-requires
note_total-requires c =
    let u = c.args.u.now in
    let i = c.loop-l.l-index in
    let l = c.l-item.result in
    let at = element u.loops c.as_slice-l-items.result.now i l c.as_slice-l-items.ensures c.loop-l-test.true c.l-item.is in
    record { is = loop_at u.program u i l c.requires at }

pub loop-l-preserved : goal.loop-l-preserved
loop-l-preserved c =
    let u = c.args.u.now in
    let i = c.loop-l.l-index in
    let l = c.l-item.result in
    let at = element u.loops c.as_slice-l-items.result.now i l c.as_slice-l-items.ensures c.loop-l-test.true c.l-item.is in
    one_counted u i l c.loop-l.counts.entries c.note_total.new.counts.entries at c.in_ok-note_total.ensures c.loop-l.invariant

pub returns : goal.returns
returns c =
    let same = ap length c.as_slice-l-items.ensures in
    all_counted c.args.u.now c.loop-l.l-index c.loop-l.counts.entries (omega (arith, same)) c.loop-l.invariant
