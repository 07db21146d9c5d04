-- One register more is the text of those below it, and its own.
use Rattle.std.proofs.Common.{◌++◌, ◌∙◌, sym, ap}
use Rattle.std.proofs.lemmas.List.{append_assoc}
use Rattle.arm_text.specs.Text.{listed, listed_below}
use Rattle.arm_text.proofs.Ranges.{texts_more}
use Rattle.arm_text.proofs.operands.push_below.Goals as goal

pub loop-register-preserved : goal.loop-register-preserved
loop-register-preserved c =
    let old = c.args.out.now.items in
    let one = listed c.args.list c.loop-register.register in
    c.in_ok-push_listed.ensures ∙ ap (λ text. text ++ one) c.loop-register.invariant
    ∙ append_assoc old (listed_below c.args.list c.loop-register.register) one
    ∙ ap (λ text. old ++ text) (sym (texts_more (listed c.args.list) c.loop-register.register))
