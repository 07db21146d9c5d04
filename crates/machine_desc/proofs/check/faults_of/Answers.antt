use Rattle.std.proofs.Common.{◌∙◌, ap, List, ◌++◌}
use Rattle.toml.specs.View.{view}
use Rattle.machine_desc.specs.declared.fault.Faulty.{Faulty}
use Rattle.machine_desc.specs.Keys.{row_of}
use Rattle.machine_desc.specs.Document.{gathered, row_faults}
use Rattle.machine_desc.proofs.Walked.{faults_from}
use Rattle.machine_desc.proofs.check.faults_of.Goals as goal

pub returns : goal.returns
returns c =
    let first = c.in_ok-note_keys.ensures ∙ ap (λ (xs : List Faulty). xs ++ gathered (λ key. row_faults (view c.args.document.now) (row_of key)) c.keys.result.now) c.new-faults.ensures.items in
    faults_from _ c.keys.result.now _ _ _ c.keys.ensures c.elements.ensures first c.in_ok-note_regions.ensures
