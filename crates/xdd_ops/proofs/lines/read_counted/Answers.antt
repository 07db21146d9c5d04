use Rattle.std.proofs.Common.{◌≡◌, ◌++◌, ◌∷◌, [], ◌∙◌, arith, length}
use Rattle.wx_text.specs.Cursor.{rest}
use Rattle.xdd_ops.specs.Read.{IsLineAt}
use Rattle.xdd_ops.proofs.ReadLemmas.{lines_more, text_more, length_push}
use Rattle.xdd_ops.proofs.lines.read_counted.Goals as goal

pub loop-preserved : goal.loop-preserved
loop-preserved c =
    let p : c.push.new.self.items ≡ c.loop.lines.items ++ c.in-Some.line ∷ [] = c.in_ok-push.ensures.items in
    let l : IsLineAt c.loop.lines.items (length c.loop.lines.items) c.in-Some.line = rw (← c.as_slice.ensures.value) c.in-Some.ensures.line in
    record {
      proper = rw p (lines_more c.loop.lines.items c.in-Some.line c.loop.invariant.proper l);
      counted = rw (p, length_push) (omega (arith, c.loop.invariant.counted));
      text = rw p (text_more c.loop.lines.items c.in-Some.line (rest c.args.cursor.now) (rest c.loop.cursor) (rest c.read_line.new.cursor) c.loop.invariant.text c.in-Some.ensures.text);
      bytes = c.in-Some.ensures.bytes ∙ c.loop.invariant.bytes;
    }
