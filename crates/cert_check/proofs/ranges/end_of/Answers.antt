use Rattle.std.proofs.Common.{◌≡◌, get_or, slice_get, sym, ap, ◌∙◌, false, inl, inr, arith}
use Rattle.std.proofs.lemmas.Bool.{cases_lt}
use Rattle.std.proofs.lemmas.Option.{slice_get-get_or, same_Some}
use Rattle.flow_ctx.specs.declared.unfolded.Edge.{Edge}
use Rattle.cert_check.proofs.ListLemmas.{range_ends, range_is_rest}
use Rattle.cert_check.proofs.ranges.end_of.Goals as goal

pub loop-number-init : goal.loop-number-init
loop-number-init c = record { from = omega arith; inside = λ k e g l at. absurd (omega (arith, g, l)) }

pub returns-then-from-node : goal.returns-then-from-node
returns-then-from-node c =
    let edges = c.args.edges.now in
    let none : Edge = record { from = 0; to = 0; taken = false } in
    let i = c.loop-number.number in
    let at = slice_get-get_or edges i none c.loop-number-test.true in
    let le = c.requires.cut.after i (get_or edges i none) c.loop-number.invariant.from at in
    range_ends edges c.args.node c.args.first i (get_or edges i none) c.requires.order c.requires.cut c.loop-number.invariant.from at
    (omega (arith, le, c.if-from-node.true)) c.loop-number.invariant.inside

pub loop-number-preserved : goal.loop-number-preserved
loop-number-preserved c =
    let edges = c.args.edges.now in
    let none : Edge = record { from = 0; to = 0; taken = false } in
    let i = c.loop-number.number in
    record {
      from = omega (arith, c.loop-number.invariant.from);
      inside = λ k e g l at. elim (cases_lt k i) [
        | inl less ↦ c.loop-number.invariant.inside k e g less at
        | inr more ↦
            let here : i ≡ k = omega (arith, l, more) in
            let is : get_or edges i none ≡ e =
            same_Some (get_or edges i none) e (sym (slice_get-get_or edges i none c.loop-number-test.true) ∙ (ap (λ j. slice_get edges j) here ∙ at)) in
            ap (λ (x : Edge). x.from) (sym is) ∙ c.if-from-node.false
      ];
    }

pub returns : goal.returns
returns c =
    range_is_rest c.args.edges.now c.args.node c.args.first c.requires.cut
    (λ k e g l at. c.loop-number.invariant.inside k e g (omega (arith, l, c.loop-number-test.false)) at)
