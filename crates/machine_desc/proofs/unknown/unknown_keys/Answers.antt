use Rattle.toml.specs.View.{view}
use Rattle.machine_desc.proofs.Walked.{unknown_from}
use Rattle.machine_desc.proofs.unknown.unknown_keys.Goals as goal

pub returns : goal.returns
returns c =
    unknown_from (view c.args.document.now) c.keys.result.now c.keys-2.result.now _ _ c.note_value.new.unknown.items c.note_tables.new.unknown.items c.note_regions.new.unknown.items c.keys.ensures c.keys-2.ensures c.elements.ensures c.new-unknown.ensures.items c.in_ok-note_value.ensures c.in_ok-note_tables.ensures c.in_ok-note_regions.ensures
