-- The first separator stands where the head ends.
use Rattle.std.proofs.Common.{◌≡◌, ◌+◌, length, get_or, drop, sym, ◌∙◌, ap, subst, arith, length-drop}
use Rattle.std.proofs.lemmas.List.{take_all}
use Rattle.arm_text.proofs.Separated.{IsFirst, head_is, tail_is, stands, within}
use Rattle.arm_text.proofs.parts.split.Goals as goal

pub returns-then-byte-separator-clause-complete : goal.returns-then-byte-separator-clause-complete
returns-then-byte-separator-clause-complete c head tail without same =
    let text = c.args.text.now in
    let first : IsFirst c.args.separator c.loop-at.at text =
    record { here = c.if-byte-separator.true; none_before = c.loop-at.invariant } in (
      head_is c.args.separator c.loop-at.at text head tail without same first,
      take_all _ (drop (c.loop-at.at + 1) text) (omega (arith, length-drop (c.loop-at.at + 1) text))
          ∙ tail_is c.args.separator c.loop-at.at text head tail without same first,
    )

pub returns-clause-complete : goal.returns-clause-complete
returns-clause-complete c head tail without same =
    let there = subst (λ t. get_or t (length head) 0 ≡ c.args.separator) (sym same) (stands c.args.separator head tail) in
    let below = within c.args.separator head tail in
    let size = ap length same in
    c.loop-at.invariant (length head) (omega (arith, c.loop-at-test.false)) there
