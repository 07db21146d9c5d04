-- A whole name, or a name before the two letters of a condition.
use Rattle.std.proofs.Common.{refl, length, inl, inr, ◌∙◌, ap, arith, length-append}
use Rattle.arm_text.specs.Names.{condition_suffix}
use Rattle.arm_text.specs.Mnemonics.{name_text}
use Rattle.arm_text.proofs.OneName.{always_or_less, plain, unsuffixed, suffix_length, front_is, back_is}
use Rattle.arm_text.proofs.mnemonics.read_mnemonic.Goals as goal

pub returns-in-Some-clause-complete : goal.returns-in-Some-clause-complete
returns-in-Some-clause-complete c name cond among small same =
    elim (always_or_less cond small) [
      | inl always ↦
          let read = c.in-Some.ensures.complete name among (plain name cond c.args.text.now always same) in
          cc
      | inr less ↦
          absurd (unsuffixed c.in-Some.name name cond c.args.text.now c.in-Some.ensures.sound.0 among less c.in-Some.ensures.sound.1 same)
    ]

pub returns-then-text-lt2-clause-complete : goal.returns-then-text-lt2-clause-complete
returns-then-text-lt2-clause-complete c name cond among small same =
    elim (always_or_less cond small) [
      | inl always ↦ let read = c.in_default.ensures.complete name among (plain name cond c.args.text.now always same) in cc
      | inr less ↦
          let two = suffix_length cond less in
          let size = ap length same in
          absurd (omega (arith, c.if-text-lt2.true, length-append (name_text name) (condition_suffix cond)))
    ]

pub returns-in_err-read_name-clause-complete : goal.returns-in_err-read_name-clause-complete
returns-in_err-read_name-clause-complete c name cond among small same =
    elim (always_or_less cond small) [
      | inl always ↦ let read = c.in_default.ensures.complete name among (plain name cond c.args.text.now always same) in cc
      | inr less ↦
          let front = front_is _ c.args.text.now (name_text name) (condition_suffix cond) same (suffix_length cond less) refl in
          let read = c.in_err-read_name.ensures.complete name among (c.split_at.ensures.front ∙ front) in
          cc
    ]

pub returns-in_err-read_condition-clause-complete : goal.returns-in_err-read_condition-clause-complete
returns-in_err-read_condition-clause-complete c name cond among small same =
    elim (always_or_less cond small) [
      | inl always ↦ let read = c.in_default.ensures.complete name among (plain name cond c.args.text.now always same) in cc
      | inr less ↦
          let back = back_is _ c.args.text.now (name_text name) (condition_suffix cond) same (suffix_length cond less) refl in
          let read = c.in_err-read_condition.ensures.complete cond less (c.split_at.ensures.back ∙ back) in
          cc
    ]

pub returns-clause-complete : goal.returns-clause-complete
returns-clause-complete c name cond among small same =
    elim (always_or_less cond small) [
      | inl always ↦ let read = c.in_default.ensures.complete name among (plain name cond c.args.text.now always same) in cc
      | inr less ↦
          let front = front_is _ c.args.text.now (name_text name) (condition_suffix cond) same (suffix_length cond less) refl in
          let back = back_is _ c.args.text.now (name_text name) (condition_suffix cond) same (suffix_length cond less) refl in
          let named = c.in_ok-read_name.ensures.complete name among (c.split_at.ensures.front ∙ front) in
          let read = c.in_ok-read_condition.ensures.complete cond less (c.split_at.ensures.back ∙ back) in
          cc
    ]
