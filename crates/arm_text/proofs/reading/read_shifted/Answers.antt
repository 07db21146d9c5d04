-- A register by itself, or one with its shift behind a comma.
use Rattle.std.proofs.Common.{drop, inl, inr, sym, ◌∙◌, ap}
use Rattle.arm_text.specs.Text.{further, shift_text}
use Rattle.arm_text.proofs.Shapes.{shift_cases, plain_register, shifted_register, no_comma, triple}
use Rattle.arm_text.proofs.reading.read_shifted.Goals as goal

pub returns-in-Some-clause-complete : goal.returns-in-Some-clause-complete
returns-in-Some-clause-complete c register kind amount below kinds small same =
    let text = c.args.text.now in
    elim (shift_cases kind amount kinds) [
      | inl none ↦
          let read = c.in-Some.ensures.complete register below (plain_register register kind amount text none.0 none.1 same) in
          cc
      | inr is ↦
          absurd (no_comma c.in-Some.register register text (drop 2 (shift_text kind amount)) c.in-Some.ensures.sound.0
          c.in-Some.ensures.sound.1 (shifted_register register kind amount text is same))
    ]

pub returns-in_err-register-clause-complete : goal.returns-in_err-register-clause-complete
returns-in_err-register-clause-complete c register kind amount below kinds small same =
    let text = c.args.text.now in
    elim (shift_cases kind amount kinds) [
      | inl none ↦
          let read = c.in_default.ensures.complete register below (plain_register register kind amount text none.0 none.1 same) in
          cc
      | inr is ↦
          absurd (c.in_err-register.ensures.complete register (drop 2 (shift_text kind amount)) below
          (shifted_register register kind amount text is same))
    ]

pub returns-in_err-kind-clause-complete : goal.returns-in_err-kind-clause-complete
returns-in_err-kind-clause-complete c register kind amount below kinds small same =
    let text = c.args.text.now in
    elim (shift_cases kind amount kinds) [
      | inl none ↦
          let read = c.in_default.ensures.complete register below (plain_register register kind amount text none.0 none.1 same) in
          cc
      | inr is ↦
          let parts = c.in_ok-register.ensures.complete register (drop 2 (shift_text kind amount)) below
          (shifted_register register kind amount text is same) in
          let read = c.in_err-kind.ensures.complete kind amount kinds small (ap further parts.1 ∙ sym is.shift_is) in
          cc
    ]

pub returns-clause-complete : goal.returns-clause-complete
returns-clause-complete c register kind amount below kinds small same =
    let text = c.args.text.now in
    elim (shift_cases kind amount kinds) [
      | inl none ↦
          let read = c.in_default.ensures.complete register below (plain_register register kind amount text none.0 none.1 same) in
          cc
      | inr is ↦
          let parts = c.in_ok-register.ensures.complete register (drop 2 (shift_text kind amount)) below
          (shifted_register register kind amount text is same) in
          let read = c.in_ok-kind.ensures.complete kind amount kinds small (ap further parts.1 ∙ sym is.shift_is) in
          triple c.in_ok-register.register c.in_ok-kind.kind c.in_ok-kind.amount register kind amount parts.0 read
    ]
