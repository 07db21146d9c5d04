use Rattle.std.proofs.Common.{ap, ◌∙◌, ◌-◌}
use Rattle.std.specs.Prelude.{slice_range}
use Rattle.ffx_facts.specs.declared.state.Part.{Part}
use Rattle.ffx_facts.specs.Machine.{step_in}
use Rattle.ffx_facts.specs.Scan.{view}
use Rattle.ffx_facts.proofs.ScannerLemmas.{goes_along}
use Rattle.ffx_facts.proofs.state.Scanner.act.Goals as goal

pub returns-in-Between-clause-step : goal.returns-in-Between-clause-step
returns-in-Between-clause-step c =
    let s = c.args.self.now in
    let e = ap (λ (p : Part). step_in p (slice_range s.bytes.now s.start (s.place - 1)) (view s) c.args.byte) c.in-Between.is in
    e ∙ c.between.ensures.step

pub returns-in-Word-clause-step : goal.returns-in-Word-clause-step
returns-in-Word-clause-step c =
    let s = c.args.self.now in
    let e = ap (λ (p : Part). step_in p (slice_range s.bytes.now s.start (s.place - 1)) (view s) c.args.byte) c.in-Word.is in
    e ∙ c.word.ensures.step

pub returns-in-Comment-clause-step : goal.returns-in-Comment-clause-step
returns-in-Comment-clause-step c =
    let s = c.args.self.now in
    let e = ap (λ (p : Part). step_in p (slice_range s.bytes.now s.start (s.place - 1)) (view s) c.args.byte) c.in-Comment.is in
    e ∙ c.comment.ensures.step

pub returns-in-Declaration-clause-step : goal.returns-in-Declaration-clause-step
returns-in-Declaration-clause-step c =
    let s = c.args.self.now in
    let e = ap (λ (p : Part). step_in p (slice_range s.bytes.now s.start (s.place - 1)) (view s) c.args.byte) c.in-Declaration.is in
    e ∙ c.declaration.ensures.step

pub returns-in-Name-clause-step : goal.returns-in-Name-clause-step
returns-in-Name-clause-step c =
    let s = c.args.self.now in
    let e = ap (λ (p : Part). step_in p (slice_range s.bytes.now s.start (s.place - 1)) (view s) c.args.byte) c.in-Name.is in
    e ∙ c.name.ensures.step

pub returns-in-Named-clause-step : goal.returns-in-Named-clause-step
returns-in-Named-clause-step c =
    let s = c.args.self.now in
    let e = ap (λ (p : Part). step_in p (slice_range s.bytes.now s.start (s.place - 1)) (view s) c.args.byte) c.in-Named.is in
    e ∙ c.named.ensures.step

pub returns-in-Equals-clause-step : goal.returns-in-Equals-clause-step
returns-in-Equals-clause-step c =
    let s = c.args.self.now in
    let e = ap (λ (p : Part). step_in p (slice_range s.bytes.now s.start (s.place - 1)) (view s) c.args.byte) c.in-Equals.is in
    e ∙ c.equals.ensures.step

pub returns-in-Closing-clause-step : goal.returns-in-Closing-clause-step
returns-in-Closing-clause-step c =
    let s = c.args.self.now in
    let e = ap (λ (p : Part). step_in p (slice_range s.bytes.now s.start (s.place - 1)) (view s) c.args.byte) c.in-Closing.is in
    e ∙ c.closing.ensures.step

pub returns-in-Behind-clause-step : goal.returns-in-Behind-clause-step
returns-in-Behind-clause-step c =
    let s = c.args.self.now in
    let e = ap (λ (p : Part). step_in p (slice_range s.bytes.now s.start (s.place - 1)) (view s) c.args.byte) c.in-Behind.is in
    goes_along _ _ _ _ e c.behind.ensures.step

pub returns-in-Gap-clause-step : goal.returns-in-Gap-clause-step
returns-in-Gap-clause-step c =
    let s = c.args.self.now in
    let e = ap (λ (p : Part). step_in p (slice_range s.bytes.now s.start (s.place - 1)) (view s) c.args.byte) c.in-Gap.is in
    goes_along _ _ _ _ e c.gap.ensures.step

pub returns-in-Slash-clause-step : goal.returns-in-Slash-clause-step
returns-in-Slash-clause-step c =
    let s = c.args.self.now in
    let e = ap (λ (p : Part). step_in p (slice_range s.bytes.now s.start (s.place - 1)) (view s) c.args.byte) c.in-Slash.is in
    goes_along _ _ _ _ e c.slash.ensures.step

pub returns-in-Value-clause-step : goal.returns-in-Value-clause-step
returns-in-Value-clause-step c =
    let s = c.args.self.now in
    let e = ap (λ (p : Part). step_in p (slice_range s.bytes.now s.start (s.place - 1)) (view s) c.args.byte) c.in-Value.is in
    goes_along _ _ _ _ e c.value.ensures.step
