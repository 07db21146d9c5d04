use Rattle.std.proofs.Common.{◌≡◌, ◌∷◌, List, ap, ◌∙◌}
use Rattle.std.specs.Prelude.{reverse}
use Rattle.ffx_facts.specs.declared.kind.Kind.{Kind}
use Rattle.ffx_facts.specs.Machine.{State, ended_tag}
use Rattle.ffx_facts.specs.Scan.{view}
use Rattle.ffx_facts.proofs.ScannerLemmas.{reverse-push}
use Rattle.ffx_facts.proofs.state.Scanner.enter.Goals as goal

pub returns-clause-step : goal.returns-clause-step
returns-clause-step c =
    let e = c.end_tag.new.self in
    let step : view e ≡ ended_tag (view c.args.self.now) = c.in_ok-end_tag.ensures.step in
    let items : reverse c.push.new.self.items ≡ e.kind ∷ reverse e.nesting.items = ap reverse c.in_ok-push.ensures.items ∙ reverse-push e.nesting.items e.kind in
    ap (λ (l : List Kind). record (view e) { nesting = l }) items ∙ ap (λ (v : State). record v { nesting = v.kind ∷ v.nesting }) step
