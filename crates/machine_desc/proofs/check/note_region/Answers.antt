use Rattle.std.proofs.Common.{rules, map, ◌∙◌, ◌≡◌, codes, ◌++◌}
use Rattle.toml.specs.View.{view}
use Rattle.machine_desc.specs.Document.{listed, integer_in}
use Rattle.machine_desc.specs.Keys.{row_of, region_rows}
use Rattle.machine_desc.specs.Faults.{value_fault}
use Rattle.machine_desc.specs.declared.keys.Wanted.TheVariants.{Table}
use Rattle.machine_desc.proofs.Walked.{region_from}
use Rattle.machine_desc.proofs.check.note_region.Goals as goal

pub returns : goal.returns
returns c =
    let keys : map row_of c.as_slice.result.now ≡ region_rows (integer_in (codes "first") (view c.args.region.now)) = search (rules, c.as_slice.ensures, c.region_keys-keys.ensures, c.integer_in.ensures) in
    let past : c.note.new.faults.items ≡ c.args.faults.now.items ++ listed c.as_bytes.result.now (value_fault Table (view c.args.region.now)) = search (rules, c.in_ok-note.ensures, c.value_fault.ensures) in
    region_from c.args.index (view c.args.region.now) c.as_bytes.result.now c.as_bytes-2.result.now c.as_slice.result.now c.args.faults.now.items c.note.new.faults.items c.note_inner.new.faults.items (c.as_bytes.ensures ∙ c.in_ok-key.ensures) (c.as_bytes-2.ensures ∙ c.in_ok-key.ensures) keys past c.in_ok-note_inner.ensures
