use Rattle.std.proofs.Common.{◌+◌, ◌*◌, ◌<◌, ◌≤◌, length, Some, refl, sym, ap, ◌∙◌, arith}
use Rattle.std.proofs.lemmas.List.{take_all}
use Rattle.cert_items.specs.Said.{flat}
use Rattle.cert_items.proofs.PairLemmas.{odd, pair_more, flat_same}
use Rattle.cert_items.proofs.numbers.pair_up.Goals as goal

pub returns-then-numbers-ne0-clause-complete : goal.returns-then-numbers-ne0-clause-complete
returns-then-numbers-ne0-clause-complete c = λ pairs e. let h = odd pairs c.args.numbers.now e in absurd (omega (arith, h, c.if-numbers-ne0.true))

pub loop-at-preserved : goal.loop-at-preserved
loop-at-preserved c =
    let inside : 2 * c.loop-at.at + 1 < length c.args.numbers.now = omega (arith, c.loop-at-test.true) in
    record {
      end = c.loop-at.invariant.end;
      so = ap flat c.in_ok-push.ensures.items ∙ pair_more c.args.numbers.now c.loop-at.at c.loop-at.pairs.items _ inside c.loop-at.invariant.so refl refl;
    }

pub returns-clause-complete : goal.returns-clause-complete
returns-clause-complete c = λ pairs e.
    let over : length c.args.numbers.now ≤ 2 * c.loop-at.at = omega (arith, c.loop-at-test.false, c.if-numbers-ne0.false) in
    ap Some (c.new.ensures ∙ flat_same c.loop-at.pairs.items pairs (c.loop-at.invariant.so ∙ take_all (2 * c.loop-at.at) c.args.numbers.now over ∙ sym e))
