-- The first file that is not read decides, and what was read before it stays.
use Rattle.std.proofs.Common.{[], ◌∷◌, ◌∙◌, le_trans}
use Rattle.wcet_front.specs.FileLaws.{read_both, unread_behind, cut_behind, unread_among, cut_among}
use Rattle.wcet_front.specs.StageLaws.{handed_on, starved_on}
use Rattle.wcet_front.proofs.files.read_inputs.Goals as goal

pub returns-in_err-image-clause-outcome : goal.returns-in_err-image-clause-outcome
returns-in_err-image-clause-outcome g c =
    let names = c.args.names.now in
    handed_on _ _ _ _ _ c.from_residual.ensures (λ said h. unread_among _ (names.image.now ∷ []) (names.facts.now ∷ names.machine.now ∷ []) said h) c.in_err-image.ensures.outcome

pub returns-in_err-image-clause-starved : goal.returns-in_err-image-clause-starved
returns-in_err-image-clause-starved g c =
    let names = c.args.names.now in
    starved_on _ _ _ _ c.from_residual.ensures (λ h. cut_among _ (names.image.now ∷ []) (names.facts.now ∷ names.machine.now ∷ []) h) c.in_err-image.ensures.starved

pub returns-in_err-facts-clause-outcome : goal.returns-in_err-facts-clause-outcome
returns-in_err-facts-clause-outcome g c =
    let names = c.args.names.now in
    let image = c.in_ok-image.ensures in
    handed_on _ _ _ _ _ c.from_residual-in_err-facts.ensures
    (λ said h. unread_among _ (names.image.now ∷ names.facts.now ∷ []) (names.machine.now ∷ []) said
    (unread_behind _ _ _ _ _ image.holds (names.image.now ∷ []) (names.facts.now ∷ []) _ said image.read_faults image.outcome h))
    c.in_err-facts.ensures.outcome

pub returns-in_err-facts-clause-starved : goal.returns-in_err-facts-clause-starved
returns-in_err-facts-clause-starved g c =
    let names = c.args.names.now in
    let image = c.in_ok-image.ensures in
    starved_on _ _ _ _ c.from_residual-in_err-facts.ensures
    (λ h. cut_among _ (names.image.now ∷ names.facts.now ∷ []) (names.machine.now ∷ [])
    (cut_behind _ _ _ _ _ image.holds (names.image.now ∷ []) (names.facts.now ∷ []) _ image.outcome h))
    c.in_err-facts.ensures.starved

pub returns-in_err-machine-clause-outcome : goal.returns-in_err-machine-clause-outcome
returns-in_err-machine-clause-outcome g c =
    let names = c.args.names.now in
    let image = c.in_ok-image.ensures in
    let facts = c.in_ok-facts.ensures in
    let both = read_both _ _ _ _ _ image.holds (names.image.now ∷ []) (names.facts.now ∷ []) _ _ image.outcome facts.outcome in
    handed_on _ _ _ _ _ c.from_residual-in_err-machine.ensures
    (λ said h. unread_behind _ _ _ _ _ (facts.holds ∙ image.holds) (names.image.now ∷ names.facts.now ∷ []) (names.machine.now ∷ []) _ said
    (le_trans image.read_faults facts.read_faults) both h)
    c.in_err-machine.ensures.outcome

pub returns-in_err-machine-clause-starved : goal.returns-in_err-machine-clause-starved
returns-in_err-machine-clause-starved g c =
    let names = c.args.names.now in
    let image = c.in_ok-image.ensures in
    let facts = c.in_ok-facts.ensures in
    let both = read_both _ _ _ _ _ image.holds (names.image.now ∷ []) (names.facts.now ∷ []) _ _ image.outcome facts.outcome in
    starved_on _ _ _ _ c.from_residual-in_err-machine.ensures
    (λ h. cut_behind _ _ _ _ _ (facts.holds ∙ image.holds) (names.image.now ∷ names.facts.now ∷ []) (names.machine.now ∷ []) _ both h)
    c.in_err-machine.ensures.starved
