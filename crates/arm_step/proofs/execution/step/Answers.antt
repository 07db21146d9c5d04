use Rattle.std.proofs.Common.{◌≡◌, IfOk, OnErr, ◌∙◌, sym, ap, subst}
use Rattle.wx_base.specs.Image.{is_code_word}
use Rattle.wx_base.specs.Arithmetic.{passes}
use Rattle.wx_base.specs.State.{word_in}
use Rattle.arm_step.specs.Cpu.{held, state_of}
use Rattle.arm_step.specs.Effects.{outcome_of, GoesOn}
use Rattle.arm_step.proofs.Done.{skip_done}
use Rattle.arm_step.proofs.Looked.{fits, stops_fetch, stops_word, passes_by, executes}
use Rattle.arm_step.proofs.execution.step.Goals as goal

pub returns-then-not-is_code_word-clause-outcome : goal.returns-then-not-is_code_word-clause-outcome
returns-then-not-is_code_word-clause-outcome c =
    stops_fetch c.args.machine.now c.args.image.now (state_of c.args.image.now c.args.cpu.now)
    (ap (is_code_word c.args.image.now) (sym c.register-addr.ensures) ∙ sym c.if-not-is_code_word.ensures)

pub returns-in_default-clause-outcome : goal.returns-in_default-clause-outcome
returns-in_default-clause-outcome c =
    stops_word c.args.machine.now c.args.image.now (state_of c.args.image.now c.args.cpu.now) c.word_at-word.result
    (ap (is_code_word c.args.image.now) (sym c.register-addr.ensures) ∙ sym c.if-not-is_code_word.ensures)
    (c.word_at-word.ensures ∙ ap (word_in (held c.args.image.now c.args.cpu.now.memory)) c.register-addr.ensures)
    (sym c.in_default.ensures.exact)

pub returns-then-not-passes-clause-outcome : goal.returns-then-not-passes-clause-outcome
returns-then-not-passes-clause-outcome c =
    skip_done c.args.image.now c.args.cpu.now c.skip.new.cpu c.went_on.result c.went_on.ensures c.skip.ensures.registers
    c.skip.ensures.flags c.skip.ensures.memory
    ∙ passes_by c.args.machine.now c.args.image.now (state_of c.args.image.now c.args.cpu.now) c.word_at-word.result c.in-Some.insn
    (ap (is_code_word c.args.image.now) (sym c.register-addr.ensures) ∙ sym c.if-not-is_code_word.ensures)
    (c.word_at-word.ensures ∙ ap (word_in (held c.args.image.now c.args.cpu.now.memory)) c.register-addr.ensures)
    (sym c.in-Some.ensures.exact)
    (ap (passes c.in-Some.insn.cond) (sym c.flags.ensures) ∙ sym c.if-not-passes.ensures)

pub execute-requires : goal.execute-requires
execute-requires c = fits c.word_at-word.result c.in-Some.insn (sym c.in-Some.ensures.exact)

pub returns-clause-outcome : goal.returns-clause-outcome
returns-clause-outcome c =
    subst (λ outcome. IfOk c.execute.result (λ end. outcome_of c.args.image.now c.execute.new.cpu end ≡ outcome))
    (executes c.offsets_give_targets.ensures c.args.machine.now c.args.image.now (state_of c.args.image.now c.args.cpu.now)
    c.word_at-word.result c.in-Some.insn
    (ap (is_code_word c.args.image.now) (sym c.register-addr.ensures) ∙ sym c.if-not-is_code_word.ensures)
    (c.word_at-word.ensures ∙ ap (word_in (held c.args.image.now c.args.cpu.now.memory)) c.register-addr.ensures)
    (sym c.in-Some.ensures.exact)
    (ap (passes c.in-Some.insn.cond) (sym c.flags.ensures) ∙ sym c.if-not-passes.ensures))
    c.execute.ensures.effect

pub returns-clause-starved : goal.returns-clause-starved
returns-clause-starved c =
    subst (λ outcome. OnErr c.execute.result (GoesOn outcome))
    (executes c.offsets_give_targets.ensures c.args.machine.now c.args.image.now (state_of c.args.image.now c.args.cpu.now)
    c.word_at-word.result c.in-Some.insn
    (ap (is_code_word c.args.image.now) (sym c.register-addr.ensures) ∙ sym c.if-not-is_code_word.ensures)
    (c.word_at-word.ensures ∙ ap (word_in (held c.args.image.now c.args.cpu.now.memory)) c.register-addr.ensures)
    (sym c.in-Some.ensures.exact)
    (ap (passes c.in-Some.insn.cond) (sym c.flags.ensures) ∙ sym c.if-not-passes.ensures))
    c.execute.ensures.starved
