use Rattle.xdd_ops.proofs.TextLemmas.{lines_more, fit_more}
use Rattle.xdd_ops.proofs.print.push_lines.Goals as goal

pub loop-place-preserved : goal.loop-place-preserved
loop-place-preserved c =
    let same = c.places-place-items.ensures in
    record {
      text = lines_more c.args.table.now c.args.order.now c.loop-place.place-index c.args.text.now.items c.loop-place.text.items c.push_line.new.text.items
          (rw same at c.loop-place-test.true) c.loop-place.invariant.text (rw same at c.in_ok-push_line.ensures.line);
      table = λ h. c.in_ok-push_line.ensures.table;
      fit = fit_more c.args.table.now c.args.order.now c.loop-place.place-index c.loop-place.invariant.fit (rw same at c.in_ok-push_line.ensures.fits);
    }
