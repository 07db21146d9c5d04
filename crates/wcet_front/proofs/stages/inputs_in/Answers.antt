-- The first text that is refused decides; what the texts before it tell is one.
use Rattle.std.proofs.Common.{◌≡◌, sym, subst}
use Rattle.wx_base.specs.declared.image.Image.{Image}
use Rattle.ffx_facts.specs.Causes.{AreFactsOf}
use Rattle.wcet_front.specs.Inputs.{IsFactsRefusal, IsMachineRefusal}
use Rattle.wcet_front.specs.Stages.{Then, refused, passed}
use Rattle.wcet_front.specs.StageLaws.{handed_on, stop_is_due, after_stage}
use Rattle.wcet_front.proofs.stages.inputs_in.Goals as goal

pub returns-in_err-image-clause-cause : goal.returns-in_err-image-clause-cause
returns-in_err-image-clause-cause c = handed_on _ _ _ _ _ c.from_residual.ensures (λ said h. refused h) c.in_err-image.ensures.cause

pub returns-in_err-image-clause-due : goal.returns-in_err-image-clause-due
returns-in_err-image-clause-due c inputs told = handed_on _ _ _ _ _ c.from_residual.ensures (λ said no. no) (c.in_err-image.ensures.due inputs.image told.image)

pub returns-in_err-image-clause-refusal_due : goal.returns-in_err-image-clause-refusal_due
returns-in_err-image-clause-refusal_due c said is =
    handed_on _ (λ r. r ≡ said) _ _ _ c.from_residual.ensures (λ r h. h) (stop_is_due _ c.in_err-image.ensures.due c.in_err-image.ensures.refusal_due is)

pub returns-in_err-facts-clause-cause : goal.returns-in_err-facts-clause-cause
returns-in_err-facts-clause-cause c =
    handed_on _ _ _ _ _ c.from_residual-in_err-facts.ensures (λ said h. passed _ c.in_ok-image.ensures.cause (refused h)) c.in_err-facts.ensures.cause

pub returns-in_err-facts-clause-due : goal.returns-in_err-facts-clause-due
returns-in_err-facts-clause-due c inputs told =
    let same = c.in_ok-image.ensures.due inputs.image told.image in
    let are = subst (λ (image : Image). AreFactsOf c.args.texts.now.facts image.symbols inputs.facts) (sym same) told.facts in
    handed_on _ _ _ _ _ c.from_residual-in_err-facts.ensures (λ said no. no) (c.in_err-facts.ensures.due inputs.facts are)

pub returns-in_err-facts-clause-refusal_due : goal.returns-in_err-facts-clause-refusal_due
returns-in_err-facts-clause-refusal_due c said is =
    let texts = c.args.texts.now in
    handed_on _ (λ r. r ≡ said) _ _ _ c.from_residual-in_err-facts.ensures (λ r h. h)
    (after_stage _
    (λ image is_image after.
    stop_is_due _ c.in_err-facts.ensures.due c.in_err-facts.ensures.refusal_due
    (subst (λ (x : Image). Then (AreFactsOf texts.facts x.symbols) (IsFactsRefusal texts.facts x.symbols) (λ facts. IsMachineRefusal texts.machine) said)
    (sym (c.in_ok-image.ensures.due image is_image)) after))
    c.in_ok-image.ensures.refusal_due is)

pub returns-in_err-machine-clause-cause : goal.returns-in_err-machine-clause-cause
returns-in_err-machine-clause-cause c =
    handed_on _ _ _ _ _ c.from_residual-in_err-machine.ensures
    (λ said h. passed _ c.in_ok-image.ensures.cause (passed _ c.in_ok-facts.ensures.cause h)) c.in_err-machine.ensures.cause

pub returns-in_err-machine-clause-due : goal.returns-in_err-machine-clause-due
returns-in_err-machine-clause-due c inputs told =
    handed_on _ _ _ _ _ c.from_residual-in_err-machine.ensures (λ said no. no) (c.in_err-machine.ensures.due inputs.machine told.machine)

pub returns-in_err-machine-clause-refusal_due : goal.returns-in_err-machine-clause-refusal_due
returns-in_err-machine-clause-refusal_due c said is =
    let texts = c.args.texts.now in
    handed_on _ (λ r. r ≡ said) _ _ _ c.from_residual-in_err-machine.ensures (λ r h. h)
    (after_stage _
    (λ image is_image after.
    after_stage _ (λ facts are h. c.in_err-machine.ensures.refusal_due said h) c.in_ok-facts.ensures.refusal_due
    (subst (λ (x : Image). Then (AreFactsOf texts.facts x.symbols) (IsFactsRefusal texts.facts x.symbols) (λ facts. IsMachineRefusal texts.machine) said)
    (sym (c.in_ok-image.ensures.due image is_image)) after))
    c.in_ok-image.ensures.refusal_due is)

pub returns-clause-due : goal.returns-clause-due
returns-clause-due c inputs told =
    let texts = c.args.texts.now in
    let same = c.in_ok-image.ensures.due inputs.image told.image in
    let are = subst (λ (image : Image). AreFactsOf texts.facts image.symbols inputs.facts) (sym same) told.facts in
    let facts = c.facts_are_one.ensures texts.facts c.in_ok-image.image.symbols c.in_ok-facts.facts inputs.facts c.in_ok-facts.ensures.cause are in
    let machine = c.in_ok-machine.ensures.due inputs.machine told.machine in
    λ i. record { image = same i; facts = facts i; machine = machine i }

pub returns-clause-refusal_due : goal.returns-clause-refusal_due
returns-clause-refusal_due c said is =
    let texts = c.args.texts.now in
    after_stage _
    (λ image is_image after.
    after_stage _ (λ facts are h. c.in_ok-machine.ensures.refusal_due said h) c.in_ok-facts.ensures.refusal_due
    (subst (λ (x : Image). Then (AreFactsOf texts.facts x.symbols) (IsFactsRefusal texts.facts x.symbols) (λ facts. IsMachineRefusal texts.machine) said)
    (sym (c.in_ok-image.ensures.due image is_image)) after))
    c.in_ok-image.ensures.refusal_due is
