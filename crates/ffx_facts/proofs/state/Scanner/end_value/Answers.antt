use Rattle.std.proofs.Common.{ap}
use Rattle.ffx_facts.specs.Machine.{Attributes}
use Rattle.ffx_facts.specs.Scan.{view}
use Rattle.ffx_facts.specs.declared.state.Part.TheVariants as part
use Rattle.ffx_facts.proofs.ScannerLemmas.{kept_more}
use Rattle.ffx_facts.proofs.state.Scanner.end_value.Goals as goal

pub returns-clause-step : goal.returns-clause-step
returns-clause-step c =
    let s = c.args.self.now in
    ap (λ (a : Attributes). record (view s) { attributes = a; part = part.Behind }) (kept_more s.attributes c.insert.new.self s.name _ c.in_ok-insert.ensures.updates)
