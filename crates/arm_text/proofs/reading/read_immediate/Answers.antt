-- Only bits with a rotation hold a space.
use Rattle.std.proofs.Common.{◌*◌, ◌++◌, codes, inl, inr, sym, ◌∙◌, arith}
use Rattle.wx_text.specs.Decimal.{decimal}
use Rattle.arm_text.specs.Text.{numeral, rotated}
use Rattle.arm_text.proofs.Rotations.{rotated_fits}
use Rattle.arm_text.proofs.Shapes.{parted, numeral_without, immediate_cases}
use Rattle.arm_text.proofs.reading.read_immediate.Goals as goal

pub returns-in-Some-clause-complete : goal.returns-in-Some-clause-complete
returns-in-Some-clause-complete c value rot small below same =
    elim (immediate_cases value rot c.args.text.now same) [
      | inl number ↦
          absurd (parted 32 (numeral (rotated value rot)) c.in-Some.bits.now c.in-Some.by.now
          (numeral_without (rotated value rot) (rotated_fits value rot small below)) (sym number.text_is ∙ c.in-Some.ensures.sound))
      | inr rotation ↦
          let parts = c.in-Some.ensures.complete (numeral value) (codes "ror " ++ decimal (2 * rot))
          (numeral_without value (omega arith)) rotation.text_is in
          c.read_rotation.ensures.complete value rot small below rotation.least parts.0 parts.1
    ]

pub returns-in_err-read_numeral-in-None-clause-complete : goal.returns-in_err-read_numeral-in-None-clause-complete
returns-in_err-read_numeral-in-None-clause-complete c value rot small below same =
    elim (immediate_cases value rot c.args.text.now same) [
      | inl number ↦
          let read = c.in_err-read_numeral-in-None.ensures.complete (rotated value rot) (rotated_fits value rot small below) number.text_is in
          absurd (cc)
      | inr rotation ↦
          absurd (c.in-None.ensures.complete (numeral value) (codes "ror " ++ decimal (2 * rot)) (numeral_without value (omega arith)) rotation.text_is)
    ]

pub returns-in_ok-read_numeral-in-None-clause-complete : goal.returns-in_ok-read_numeral-in-None-clause-complete
returns-in_ok-read_numeral-in-None-clause-complete c value rot small below same =
    elim (immediate_cases value rot c.args.text.now same) [
      | inl number ↦
          let read = c.in_ok-read_numeral-in-None.ensures.complete (rotated value rot) (rotated_fits value rot small below) number.text_is in
          c.least_rotation.ensures.complete value rot small below number.least (cc)
      | inr rotation ↦
          absurd (c.in-None.ensures.complete (numeral value) (codes "ror " ++ decimal (2 * rot)) (numeral_without value (omega arith)) rotation.text_is)
    ]
